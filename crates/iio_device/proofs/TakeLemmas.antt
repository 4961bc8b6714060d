-- What a take of a scan makes of members.
use Rattle.std.proofs.Common.{◌≡◌, ℕ, zero, suc, ◌+◌, ◌^◌, ◌<◌, Bool, true, false, List, [], ◌∷◌, ◌++◌, length, take, drop, get_or, slice_set, Option, Some, subst, refl, sym, ap, ◌∙◌, arith}
use Rattle.std.specs.List.{AllZip}
use Rattle.iio_mask.specs.declared.Mask.{Mask}
use Rattle.iio_layout.specs.Active.{has_data}
use Rattle.iio_layout.specs.Layout.{scan_size}
use Rattle.iio_layout.specs.Shape.{ShapeRecord, count_of}
use Rattle.iio_kfifo.specs.Queue.{Queue}
use Rattle.iio_device.specs.declared.membership.Membership.{Membership}
use Rattle.iio_device.specs.Ends.{queue_end}
use Rattle.iio_device.specs.Groups.{GroupRecord}
use Rattle.iio_device.specs.Members.{Drains, DrainsScans, member_of}
use Rattle.iio_device.specs.Roster.{ChangesOne}
use Rattle.iio_device.specs.Sound.{IsMember, IsSound}
use Rattle.iio_device.proofs.OfferLemmas.{sound_moves}
use Rattle.iio_device.proofs.SoundLemmas.{split_at}

module _ {A : Type 0} where
  same_zip : (R : A → A → Type 0) → ((x : A) → R x x) → (xs : List A) → AllZip R xs xs
  same_zip R same [] = tt
  same_zip R same (x ∷ xs) = (same x, same_zip R same xs)

  -- one element changes, by a relation that each element has to itself
  pub set_zip : (R : A → A → Type 0) → ((x : A) → R x x) → (xs : List A) (k : ℕ) (x y : A) → k < length xs → x ≡ get_or xs k x → R x y
      → AllZip R xs (slice_set xs k y)
  set_zip R same [] k x y within at r = absurd (omega arith)
  set_zip R same (z ∷ zs) zero x y within at r = (subst (λ a. R a y) at r, same_zip R same zs)
  set_zip R same (z ∷ zs) (suc k) x y within at r = (same z, set_zip R same zs k x y (omega arith) at r)

  -- the elements before and after it
  pub set_split : (xs : List A) (k : ℕ) (y : A) → k < length xs → slice_set xs k y ≡ take k xs ++ y ∷ drop (k + 1) xs
  set_split [] k y within = absurd (omega arith)
  set_split (z ∷ zs) zero y within = refl
  set_split (z ∷ zs) (suc k) y within =
      let more : suc k + 1 ≡ suc (k + 1) = omega arith in
      subst (λ n. slice_set (z ∷ zs) (suc k) y ≡ z ∷ take k zs ++ y ∷ drop n (z ∷ zs)) (sym more) (ap (λ ws. z ∷ ws) (set_split zs k y (omega arith)))

-- one member changes as `R` says, and the others stay
pub changes_one : (number : ℕ) (R : Membership Queue → Membership Queue → Type 0) (members new : List (Membership Queue)) (k : ℕ) (x y : Membership Queue)
    → k < length members → x ≡ get_or members k x → member_of number members ≡ Some x → R x y → new ≡ slice_set members k y → ChangesOne number R members new
changes_one number R members new k x y within at found moved is = record {
  before = take k members;
  member = x;
  changed = y;
  after = drop (k + 1) members;
  was = split_at members k x within at;
  is = is ∙ set_split members k y within;
  found = found;
  moved = moved;
}

-- the queue keeps its counts and its size
pub record KeepsCounts (old new : Membership Queue) : Type 0 where
  pub same : new ≡ record old { tail = new.tail }
  pub taken : new.tail.taken ≡ old.tail.taken
  pub lost : new.tail.lost ≡ old.tail.lost
  pub size : new.tail.size ≡ old.tail.size

keeps_itself : (m : Membership Queue) → KeepsCounts m m
keeps_itself m = record { same = refl; taken = refl; lost = refl; size = refl }

pub keeps_drained : (given : Bool) (out out' : List ℕ) (old new : Membership Queue) → Drains given out out' old new → KeepsCounts old new
keeps_drained true out out' old new d =
    let is = d.moved.same in
    record { same = d.same; taken = ap (λ (q : Queue). q.taken) is; lost = ap (λ (q : Queue). q.lost) is; size = ap (λ (q : Queue). q.size) is }
keeps_drained false out out' old new d =
    let is = d.moved.1 in
    record { same = d.same; taken = ap (λ (q : Queue). q.taken) is; lost = ap (λ (q : Queue). q.lost) is; size = ap (λ (q : Queue). q.size) is }

pub keeps_drained_scans : (most count : ℕ) (before after : List ℕ) (old new : Membership Queue) → DrainsScans most count before after old new
    → KeepsCounts old new
keeps_drained_scans most count before after old new d =
    let is = d.moved.same in
    record { same = d.same; taken = ap (λ (q : Queue). q.taken) is; lost = ap (λ (q : Queue). q.lost) is; size = ap (λ (q : Queue). q.size) is }

keeps_mask : (a b : Membership Queue) → KeepsCounts a b → b.mask.bits ≡ a.mask.bits
keeps_mask a b r = ap (λ (m : Membership Queue). m.mask.bits) r.same

keeps_member : (shape : ShapeRecord) (captures next : ℕ) (a b : Membership Queue)
    → IsMember queue_end shape captures next a → KeepsCounts a b
    → IsMember queue_end shape captures next b
keeps_member shape captures next a b is r =
    let number = ap (λ (m : Membership Queue). m.number) r.same in
    let mask = keeps_mask a b r in
    let joined = ap (λ (m : Membership Queue). m.joined) r.same in
    let was = is.counted in
    let taken = r.taken in
    let lost = r.lost in
    record {
      numbered = subst (λ n. n < next) (sym number) is.numbered;
      below = subst (λ k. k < 2 ^ count_of shape) (sym mask) is.below;
      channel = ap (has_data shape) mask ∙ is.channel;
      counted = omega (arith, joined, was, taken, lost);
      sized = r.size ∙ is.sized ∙ ap (scan_size shape) (sym mask);
    }

pub sound_takes : (shape : ShapeRecord) (active : Option Mask) (captures next : ℕ) (members new : List (Membership Queue)) (groups : List GroupRecord) (k : ℕ)
    (x y : Membership Queue)
    → IsSound queue_end shape active captures next members groups → k < length members → x ≡ get_or members k x
    → KeepsCounts x y → new ≡ slice_set members k y
    → IsSound queue_end shape active captures next new groups
sound_takes shape active captures next members new groups k x y sound within at keeps is =
    sound_moves KeepsCounts keeps_mask (λ a b r. ap (λ (m : Membership Queue). m.number) r.same) queue_end shape
    active captures captures next members new groups (keeps_member shape captures next) sound
    (subst (λ ms. AllZip KeepsCounts members ms) (sym is) (set_zip KeepsCounts keeps_itself members k x y within at keeps))
