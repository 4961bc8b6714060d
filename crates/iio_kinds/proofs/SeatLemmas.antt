-- The seats of an averaging device's members, and the queues in their slots.
use Rattle.std.proofs.Common.{◌≡◌, ℕ, zero, suc, ◌+◌, ◌-◌, ◌≤◌, Bool, true, false, List, [], ◌∷◌, ◌++◌, map, length, Option, Some, None, refl, ap, subst, ◌∙◌, arith, cond, rules}
use Rattle.std.proofs.lemmas.Grind.{common_steps}
use Rattle.std.specs.Prelude.{◌==◌, ◌||◌, ◌≢◌, not, filter, is_some}
use Rattle.std.specs.List.{AllByRecursion, IsDistinct, list_any}
use Rattle.std.specs.Option.{option_map_or}
use Rattle.std.proofs.lemmas.Bool.Decides.{nat_tests}
use Rattle.iio_layout.specs.Shape.{ShapeRecord}
use Rattle.iio_device.specs.Site.{is_empty, new_site, no_driver}
use Rattle.iio_device.specs.declared.totals.Totals.{Totals}
use Rattle.iio_derive.specs.declared.members.Membership.{Membership}
use Rattle.iio_derive.specs.Average.{AverageRecord, has_member}
use Rattle.iio_derive.specs.Members.{member_at}
use Rattle.iio_output.specs.Last.{first_last}
use Rattle.iio_core.specs.Machine.{Member, Station}
use Rattle.iio_kinds.specs.declared.mean_device.MeanSeat.{MeanSeat}
use Rattle.iio_kinds.specs.Inner.{AreApart}
use Rattle.iio_kinds.specs.MeanStation.{mean_member}
use Rattle.iio_kinds.specs.Seated.{AreSeated, HasSeats, mean_number_of, seats_without, slot_by, slot_of}

-- ---- numbers

pub eq_flips : (a b : ℕ) → (a == b) ≡ (b == a)
eq_flips a b = search rules

pub apart_false : (n k : ℕ) → (n ≡ k → ⊥) → (n == k) ≡ false
apart_false n k h = search rules

pub differs : (n k : ℕ) → (n == k) ≡ false → k ≢ n
differs n k e same = let own : (n == k) ≡ true = grind (arith, nat_tests) in cc

-- ---- lists with another element, and with fewer

pub all_push : {A : Type 0} (P : A → Type 0) (xs : List A) (y : A) → AllByRecursion P xs → P y → AllByRecursion P (xs ++ y ∷ [])
all_push P [] y all own = (own, tt)
all_push P (x ∷ xs) y all own = (all.0, all_push P xs y all.1 own)

pub all_front : {A : Type 0} (P : A → Type 0) (xs : List A) (y : A) → AllByRecursion P (xs ++ y ∷ []) → AllByRecursion P xs
all_front P [] y all = tt
all_front P (x ∷ xs) y all = (all.0, all_front P xs y all.1)

pub all_last : {A : Type 0} (P : A → Type 0) (xs : List A) (y : A) → AllByRecursion P (xs ++ y ∷ []) → P y
all_last P [] y all = all.0
all_last P (x ∷ xs) y all = all_last P xs y all.1

or_case : (a b c : Bool) → (a || b) ≡ true → (b ≡ true → c ≡ true) → (a || c) ≡ true
or_case a b c e h = search rules

or_right : (a b : Bool) → b ≡ true → (a || b) ≡ true
or_right a b e = search rules

pub any_push : {A : Type 0} (test : A → Bool) (xs : List A) (y : A) → list_any test xs ≡ true → list_any test (xs ++ y ∷ []) ≡ true
any_push test [] y e = absurd (cc)
any_push test (x ∷ xs) y e = or_case (test x) (list_any test xs) (list_any test (xs ++ y ∷ [])) e (any_push test xs y)

pub any_last : {A : Type 0} (test : A → Bool) (xs : List A) (y : A) → test y ≡ true → list_any test (xs ++ y ∷ []) ≡ true
any_last test [] y e = rw e refl
any_last test (x ∷ xs) y e = or_right (test x) (list_any test (xs ++ y ∷ [])) (any_last test xs y e)

-- an element that isn't the last is before it
pub any_front : {A : Type 0} (test : A → Bool) (xs : List A) (y : A) → test y ≡ false → list_any test (xs ++ y ∷ []) ≡ true → list_any test xs ≡ true
any_front test [] y none e = cc
any_front test (x ∷ xs) y none e = or_case (test x) (list_any test (xs ++ y ∷ [])) (list_any test xs) e (any_front test xs y none)

pub map_push : {A B : Type 0} (f : A → B) (xs : List A) (y : A) → map f (xs ++ y ∷ []) ≡ map f xs ++ f y ∷ []
map_push f [] y = refl
map_push {B = B} f (x ∷ xs) y = ap (λ (ys : List B). f x ∷ ys) (map_push f xs y)

pub pushed_some : {A : Type 0} (xs : List A) (y : A) → is_empty (xs ++ y ∷ []) ≡ false
pushed_some xs y = grind (arith, common_steps)

pub empty_map : {A B : Type 0} (f : A → B) (xs : List A) → is_empty (map f xs) ≡ is_empty xs
empty_map f xs = search rules

pub distinct_push : (xs : List ℕ) (y : ℕ) → AreApart xs → AllByRecursion (λ z. (y == z) ≡ false) xs → AreApart (xs ++ y ∷ [])
unfolding IsDistinct
distinct_push [] y apart new = (tt, tt)
distinct_push (x ∷ xs) y apart new = (all_push (λ z. (x == z) ≡ false) xs y apart.0 (eq_flips x y ∙ new.0), distinct_push xs y apart.1 new.1)

pub distinct_front : (xs : List ℕ) (y : ℕ) → AreApart (xs ++ y ∷ []) → AreApart xs
unfolding IsDistinct
distinct_front [] y apart = tt
distinct_front (x ∷ xs) y apart = (all_front (λ z. (x == z) ≡ false) xs y apart.0, distinct_front xs y apart.1)

-- the last element isn't one of the others
pub last_apart : (xs : List ℕ) (y : ℕ) → AreApart (xs ++ y ∷ []) → AllByRecursion (λ z. (y == z) ≡ false) xs
unfolding IsDistinct
last_apart [] y apart = tt
last_apart (x ∷ xs) y apart = (eq_flips y x ∙ all_last (λ z. (x == z) ≡ false) xs y apart.0, last_apart xs y apart.1)

module _ {A : Type 0} (test : A → Bool) where
  pub all_kept : (P : A → Type 0) (xs : List A) → AllByRecursion P xs → AllByRecursion P (filter test xs)
  all_kept P [] all = tt
  all_kept P (x ∷ xs) all = search (rules, all_kept P xs all.1)

  pub keys_kept : (key : A → ℕ) (P : ℕ → Type 0) (xs : List A) → AllByRecursion P (map key xs) → AllByRecursion P (map key (filter test xs))
  keys_kept key P [] all = tt
  keys_kept key P (x ∷ xs) all = search (rules, keys_kept key P xs all.1)

  pub distinct_kept : (key : A → ℕ) (xs : List A) → AreApart (map key xs) → AreApart (map key (filter test xs))
  unfolding IsDistinct
  distinct_kept key [] apart = tt
  distinct_kept key (x ∷ xs) apart = by (test x) (distinct_kept key xs apart.1)
    where
      by : (b : Bool) → AreApart (map key (filter test xs)) → AreApart (map key (cond b (x ∷ filter test xs) (filter test xs)))
      by b rest = search (rules, keys_kept)

  pub fewer_kept : (xs : List A) → length (filter test xs) ≤ length xs
  fewer_kept [] = omega arith
  fewer_kept (x ∷ xs) = search (rules, fewer_kept xs)

-- ---- members by their slots

-- a member with what is in its slot
abbrev pub mean_with : MeanSeat → Option Membership → Member
mean_with s o = record {
  number = s.number;
  mask = s.mask.bits;
  capacity = s.capacity;
  scans = option_map_or (λ (m : Membership). m.queue.scans) o [];
  lost = option_map_or (λ (m : Membership). m.queue.lost) o 0;
  cyclic = false;
  inner = None;
}

-- a device with these members
abbrev pub told_with : AverageRecord → (plugged : Bool) → (starts next captures : ℕ) → Totals → List Member → Station
told_with a plugged starts next captures totals members = record {
  next = next;
  captures = captures;
  totals = totals;
  members = members;
  site = record (new_site a.shape None no_driver) { plugged = plugged; attachment = starts };
  last = first_last a.shape;
  window = a.window;
}

-- all slots except one are the same
abbrev pub KeepsOthers : ℕ → (old new : List (Option Membership)) → Type 0
KeepsOthers n old new = (other : ℕ) → other ≢ n → member_at other new ≡ member_at other old

abbrev pub AreOthers : ℕ → List MeanSeat → Type 0
AreOthers n seats = AllByRecursion (λ y. (n == y) ≡ false) (map slot_of seats)

module _ (n : ℕ) (slots slots' : List (Option Membership)) (same : KeepsOthers n slots slots') where
  pub others_told : (seats : List MeanSeat) → AreOthers n seats → map (mean_member slots') seats ≡ map (mean_member slots) seats
  others_told [] apart = refl
  others_told (s ∷ ss) apart = search (rules, others_told ss apart.1)

  pub others_seated : (shape : ShapeRecord) (captures next next' : ℕ) (seats : List MeanSeat) → next ≤ next' → AreOthers n seats
      → AreSeated shape captures next slots seats → AreSeated shape captures next' slots' seats
  others_seated shape captures next next' [] more apart all = tt
  others_seated shape captures next next' (s ∷ ss) more apart all = search (rules, others_seated shape captures next next' ss more apart.1 all.1)

  -- with a seat for that slot
  pub seats_push : (seats : List MeanSeat) (s : MeanSeat) → s.slot ≡ n → HasSeats slots seats → HasSeats slots' (seats ++ s ∷ [])
  seats_push seats s is has = grind (arith, common_steps)

-- no member has a slot that is free
pub free_slot : (shape : ShapeRecord) (captures next n : ℕ) (slots : List (Option Membership)) (seats : List MeanSeat)
    → member_at n slots ≡ None → AreSeated shape captures next slots seats → AreOthers n seats
free_slot shape captures next n slots [] none all = tt
free_slot shape captures next n slots (s ∷ ss) none all = search (rules, free_slot shape captures next n slots ss none all.1)

-- no member has the next number
pub next_apart : (shape : ShapeRecord) (captures next : ℕ) (slots : List (Option Membership)) (seats : List MeanSeat)
    → AreSeated shape captures next slots seats → AllByRecursion (λ y. (next == y) ≡ false) (map mean_number_of seats)
next_apart shape captures next slots [] all = tt
next_apart shape captures next slots (s ∷ ss) all = search (rules, next_apart shape captures next slots ss all.1)

-- ---- whether there is a member

any_at : (slots : List (Option Membership)) → has_member slots ≡ true → (n : ℕ) × (is_some (member_at n slots) ≡ true)
any_at [] e = absurd (cc)
any_at (o ∷ os) e = by (is_some o) refl e (any_at os)
  where
    by : (b : Bool) → is_some o ≡ b → (b || has_member os) ≡ true → (has_member os ≡ true → (n : ℕ) × (is_some (member_at n os) ≡ true)) → (n : ℕ)
        × (is_some (member_at n (o ∷ os)) ≡ true)
    by true f t later = (0, f)
    by false f t later = let rest = later t in (suc rest.0, rest.1)

any_from : (slots : List (Option Membership)) (n : ℕ) → is_some (member_at n slots) ≡ true → has_member slots ≡ true
any_from [] n e = absurd (cc)
any_from (o ∷ os) zero e = rw e refl
any_from (o ∷ os) (suc n) e = or_right (is_some o) (has_member os) (any_from os n e)

-- there is a member exactly if there is a seat
pub has_seats : (slots : List (Option Membership)) (seats : List MeanSeat) → HasSeats slots seats
    → ((s : MeanSeat) (ss : List MeanSeat) → seats ≡ s ∷ ss → is_some (member_at s.slot slots) ≡ true) → has_member slots ≡ not (is_empty seats)
has_seats slots [] has live = search (rules, any_at)
has_seats slots (s ∷ ss) has live = any_from slots s.slot (live s ss refl)

pub seated_some : (shape : ShapeRecord) (captures next : ℕ) (slots : List (Option Membership)) (seats : List MeanSeat) → HasSeats slots seats
    → AreSeated shape captures next slots seats → has_member slots ≡ not (is_empty seats)
seated_some shape captures next slots seats has all = search (rules, has_seats)

-- ---- the member of a number

module _ (number slot : ℕ) where
  slot_in : (P : ℕ → Type 0) (seats : List MeanSeat) → slot_by number seats ≡ Some slot → AllByRecursion P (map slot_of seats) → P slot
  slot_in P [] e all = absurd (cc)
  slot_in P (s ∷ ss) e all = by (s.number == number) e (λ f. slot_in P ss f all.1)
    where
      by : (b : Bool) → cond b (Some s.slot) (slot_by number ss) ≡ Some slot → (slot_by number ss ≡ Some slot → P slot) → P slot
      by b f later = search rules

  -- the others have other slots
  pub without_others : (seats : List MeanSeat) → slot_by number seats ≡ Some slot → AreApart (map slot_of seats) → AreOthers slot (seats_without number seats)
  unfolding IsDistinct
  without_others [] e apart = tt
  without_others (s ∷ ss) e apart = by (s.number == number) e (λ f. without_others ss f apart.1)
    where
      by : (b : Bool) → cond b (Some s.slot) (slot_by number ss) ≡ Some slot → (slot_by number ss ≡ Some slot → AreOthers slot (seats_without number ss))
          → AreOthers slot (cond (not b) (s ∷ seats_without number ss) (seats_without number ss))
      by true f later =
          let same : s.slot ≡ slot = cc in
          keys_kept (λ (t : MeanSeat). not (t.number == number)) slot_of (λ y. (slot == y) ≡ false) ss
          (subst (λ (k : ℕ). AllByRecursion (λ y. (k == y) ≡ false) (map slot_of ss)) same apart.0)
      by false f later = (eq_flips slot s.slot ∙ slot_in (λ y. (s.slot == y) ≡ false) ss f apart.0, later f)

  unnumbered : (n : ℕ) (seats : List MeanSeat) → (n == number) ≡ true → AllByRecursion (λ y. (n == y) ≡ false) (map mean_number_of seats)
      → seats_without number seats ≡ seats
  unnumbered n [] own all = refl
  unnumbered n (s ∷ ss) own all = search (rules, unnumbered n ss own all.1)

  -- the member in each other slot still has its seat
  pub without_any : (k : ℕ) (seats : List MeanSeat) → (slot == k) ≡ false → slot_by number seats ≡ Some slot → AreApart (map mean_number_of seats)
      → list_any (λ (t : MeanSeat). t.slot == k) seats ≡ true → list_any (λ (t : MeanSeat). t.slot == k) (seats_without number seats) ≡ true
  unfolding IsDistinct
  without_any k [] other e once any = absurd (cc)
  without_any k (s ∷ ss) other e once any = by (s.number == number) refl e (λ f. without_any k ss other f once.1)
    where
      by : (b : Bool) → (s.number == number) ≡ b → cond b (Some s.slot) (slot_by number ss) ≡ Some slot
          → (slot_by number ss ≡ Some slot → list_any (λ (t : MeanSeat). t.slot == k) ss ≡ true
          → list_any (λ (t : MeanSeat). t.slot == k) (seats_without number ss) ≡ true)
          → list_any (λ (t : MeanSeat). t.slot == k) (cond (not b) (s ∷ seats_without number ss) (seats_without number ss)) ≡ true
      by b own f later = search (rules, unnumbered)

  pub slot_found : (seats : List MeanSeat) → slot_by number seats ≡ Some slot → is_empty seats ≡ false
  slot_found seats e = search rules
