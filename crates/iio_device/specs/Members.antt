-- The members of a device, in the order in which they joined.
use Rattle.std.specs.Prelude.{◌≡◌, ℕ, ◌+◌, ◌==◌, ◌&&◌, Bool, not, List, [], ◌∷◌, map, filter, find, Option, None, Some, MatchBool}
use Rattle.std.specs.List.{list_any}
use Rattle.std.specs.Set.{distinct_count}
use Rattle.iio_mask.specs.declared.Mask.{Mask}
use Rattle.iio_kfifo.specs.declared.tail.Offered.{Offered}
use Rattle.iio_kfifo.specs.declared.tail.Tail.{Ghosts}
use Rattle.iio_kfifo.specs.Queue.{GivesFirst, GivesScans, Queue}
use Rattle.iio_device.specs.declared.membership.Membership.{Membership}

-- a member as its seat knows it. A seat of other devices can have the number of a member here, but gets nothing of it: the
-- scans of another mask have another size
pub record MemberId : Type 0 where
  pub number : ℕ
  pub mask : ℕ

abbrev pub id_of : ℕ → Mask → MemberId
id_of number mask = record { number = number; mask = mask.bits }

module _ {Q : Type 0} where
  abbrev pub mask_of : Membership Q → ℕ
  mask_of m = m.mask.bits

  abbrev pub masks_of : List (Membership Q) → List ℕ
  masks_of members = map mask_of members

  -- whether a member has that mask
  abbrev pub is_wanted : List (Membership Q) → ℕ → Bool
  is_wanted members mask = list_any (λ (m : Membership Q). m.mask.bits == mask) members

  -- whether a member has that number
  abbrev pub is_live : ℕ → List (Membership Q) → Bool
  is_live number members = list_any (λ (m : Membership Q). m.number == number) members

  -- whether a member has that number, and that mask
  abbrev pub is_live_under : ℕ → ℕ → List (Membership Q) → Bool
  is_live_under number mask members = list_any (λ (m : Membership Q). m.number == number && m.mask.bits == mask) members

  -- the member of that number
  abbrev pub member_of : ℕ → List (Membership Q) → Option (Membership Q)
  member_of number members = find (λ (m : Membership Q). m.number == number) members

  -- the members of other numbers
  abbrev pub without : ℕ → List (Membership Q) → List (Membership Q)
  without number members = filter (λ (m : Membership Q). not (m.number == number)) members

  -- the number of the member that joined first
  abbrev pub first_number : List (Membership Q) → Option ℕ
  first_number [] = None
  first_number (m ∷ ms) = Some m.number

  -- the number of distinct masks of the members
  abbrev pub mask_count : List (Membership Q) → ℕ
  mask_count members = distinct_count (λ a b. a == b) (masks_of members)

  -- a member that was offered this scan, once; `ends` is what its queue's end tells
  pub record WasOffered (ends : Ghosts Q) (scan : List ℕ) (old new : Membership Q) : Type 0 where
    pub same : new ≡ record old { tail = new.tail }
    pub answer : Offered
    pub offered : ends.offer_gives old.tail scan answer new.tail
    pub counted : ends.taken new.tail + ends.lost new.tail ≡ ends.taken old.tail + ends.lost old.tail + 1
    pub sized : ends.size new.tail ≡ ends.size old.tail
    pub bounded : ends.capacity new.tail ≡ ends.capacity old.tail

-- the oldest scan of a member's queue is moved out; `given` says whether there was one
pub record Drains (given : Bool) (out out' : List ℕ) (old new : Membership Queue) : Type 0 where
  pub same : new ≡ record old { tail = new.tail }
  pub moved : MatchBool given (GivesFirst old.tail out' new.tail) ((old.tail.scans ≡ []) × (new.tail ≡ old.tail) × (out' ≡ out))

-- the oldest scans of a member's queue, at most `most`, are moved out
pub record DrainsScans (most count : ℕ) (before after : List ℕ) (old new : Membership Queue) : Type 0 where
  pub same : new ≡ record old { tail = new.tail }
  pub moved : GivesScans most count before after old.tail new.tail
