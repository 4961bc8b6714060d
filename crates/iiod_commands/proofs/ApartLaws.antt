-- Seats, no two of which are at one device.
use Rattle.std.proofs.Common.{◌≡◌, ℕ, suc, zero, ◌+◌, ◌<◌, ◌==◌, ◌||◌, nat_lt, Bool, true, false, List, [], ◌∷◌, ◌++◌, length, refl, ap, ◌∙◌, Some, None, arith, rules}
use Rattle.std.proofs.lemmas.Grind.{common_steps}
use Rattle.std.proofs.lemmas.Bool.{eqb-true, lt-ltb}
use Rattle.std.specs.Prelude.{remove, slice_get, slice_set}
use Rattle.std.specs.List.{position_or_len}
use Rattle.iiod_commands.specs.Client.{SeatState, are_apart, has_seat, place_of}

-- no two seats are at one device
abbrev pub AreApart : List SeatState → Type 0
AreApart [] = Unit {0}
AreApart (s ∷ ss) = (has_seat s.dev ss ≡ false) × AreApart ss

pub apart_by : (seats : List SeatState) → are_apart seats ≡ true → AreApart seats
apart_by [] e = tt
apart_by (s ∷ ss) e = by (has_seat s.dev ss) refl (λ rest. apart_by ss rest)
  where
    by : (b : Bool) → has_seat s.dev ss ≡ b → (are_apart ss ≡ true → AreApart ss) → AreApart (s ∷ ss)
    by b h more = search rules

pub are_apart_by : (seats : List SeatState) → AreApart seats → are_apart seats ≡ true
are_apart_by [] a = refl
are_apart_by (s ∷ ss) a = rw a.0 (are_apart_by ss a.1)

-- ---- the first seat at a device

-- it has index i
abbrev pub IsFirst : ℕ → List SeatState → ℕ → Type 0
IsFirst dev [] i = ⊥
IsFirst dev (s ∷ ss) zero = (s.dev == dev) ≡ true
IsFirst dev (s ∷ ss) (suc i) = ((s.dev == dev) ≡ false) × IsFirst dev ss i

has_lt : (dev : ℕ) (seats : List SeatState) → has_seat dev seats ≡ true → position_or_len (λ (s : SeatState). s.dev == dev) seats < length seats
has_lt dev [] h = cc
has_lt dev (s ∷ ss) h = by (λ more. has_lt dev ss more) (s.dev == dev) refl
  where
    by : (has_seat dev ss ≡ true → position_or_len (λ (x : SeatState). x.dev == dev) ss < length ss) → (b : Bool) → (s.dev == dev) ≡ b
        → position_or_len (λ (x : SeatState). x.dev == dev) (s ∷ ss) < length (s ∷ ss)
    by rest b e = search rules

pub none_has : (dev : ℕ) (seats : List SeatState) → place_of dev seats ≡ None → has_seat dev seats ≡ false
none_has dev seats e = by (has_seat dev seats) refl
  where
    by : (b : Bool) → has_seat dev seats ≡ b → has_seat dev seats ≡ false
    by false h = h
    by true h =
        let less : nat_lt (position_or_len (λ (s : SeatState). s.dev == dev) seats) (length seats) ≡ true = lt-ltb _ _ (has_lt dev seats h) in
        let n : Some (position_or_len (λ (s : SeatState). s.dev == dev) seats) ≡ None = rw less at e in cc

first_from : (dev : ℕ) (seats : List SeatState) (i : ℕ) → i < length seats → position_or_len (λ (s : SeatState). s.dev == dev) seats ≡ i → IsFirst dev seats i
first_from dev [] i l e = absurd (omega arith)
first_from dev (s ∷ ss) i l e = by (λ j below at. first_from dev ss j below at) (s.dev == dev) refl i l e
  where
    by : ((j : ℕ) → j < length ss → position_or_len (λ (x : SeatState). x.dev == dev) ss ≡ j → IsFirst dev ss j) → (b : Bool) → (s.dev == dev) ≡ b → (i : ℕ)
        → i < length (s ∷ ss) → position_or_len (λ (x : SeatState). x.dev == dev) (s ∷ ss) ≡ i → IsFirst dev (s ∷ ss) i
    by rest b t i l e = search rules

pub place_first : (dev : ℕ) (seats : List SeatState) (i : ℕ) → place_of dev seats ≡ Some i → IsFirst dev seats i
place_first dev seats i e = search (rules, first_from)

-- it is at that device
first_is : (dev : ℕ) (seats : List SeatState) (i : ℕ) (s : SeatState) → IsFirst dev seats i → slice_get seats i ≡ Some s → s.dev ≡ dev
first_is dev [] i s f here = absurd f
first_is dev (x ∷ xs) zero s f here = let one : s ≡ x = cc in ap (λ (b : SeatState). b.dev) one ∙ eqb-true x.dev dev f
first_is dev (x ∷ xs) (suc i) s f here = first_is dev xs i s f.1 here

pub placed_at : (dev : ℕ) (seats : List SeatState) (i : ℕ) (s : SeatState) → place_of dev seats ≡ Some i → slice_get seats i ≡ Some s → s.dev ≡ dev
placed_at dev seats i s at here = first_is dev seats i s (place_first dev seats i at) here

-- ---- one more seat

has_last : (dev : ℕ) (seats : List SeatState) (s : SeatState) → has_seat dev seats ≡ false → (s.dev == dev) ≡ false → has_seat dev (seats ++ s ∷ []) ≡ false
has_last dev [] s h n = rw n refl
has_last dev (x ∷ xs) s h n = by (λ none. has_last dev xs s none n) (x.dev == dev) refl
  where
    by : (has_seat dev xs ≡ false → has_seat dev (xs ++ s ∷ []) ≡ false) → (b : Bool) → (x.dev == dev) ≡ b → has_seat dev ((x ∷ xs) ++ s ∷ []) ≡ false
    by rest b e = search rules

pub apart_last : (seats : List SeatState) (s : SeatState) → AreApart seats → has_seat s.dev seats ≡ false → AreApart (seats ++ s ∷ [])
apart_last [] s a h = (refl, tt)
apart_last (x ∷ xs) s a h = by (λ none. apart_last xs s a.1 none) (x.dev == s.dev) refl
  where
    by : (has_seat s.dev xs ≡ false → AreApart (xs ++ s ∷ [])) → (b : Bool) → (x.dev == s.dev) ≡ b → AreApart ((x ∷ xs) ++ s ∷ [])
    by rest b e = search (rules, has_last)

-- ---- one seat fewer

has_kept : (dev i : ℕ) (seats : List SeatState) → has_seat dev seats ≡ false → has_seat dev (remove seats i) ≡ false
has_kept dev i [] h = grind (arith, common_steps)
has_kept dev i (x ∷ xs) h = by (λ j none. has_kept dev j xs none) (x.dev == dev) refl i
  where
    by : ((j : ℕ) → has_seat dev xs ≡ false → has_seat dev (remove xs j) ≡ false) → (b : Bool) → (x.dev == dev) ≡ b → (i : ℕ)
        → has_seat dev (remove (x ∷ xs) i) ≡ false
    by rest b e i = search rules

pub apart_kept : (i : ℕ) (seats : List SeatState) → AreApart seats → AreApart (remove seats i)
apart_kept zero [] a = tt
apart_kept (suc i) [] a = tt
apart_kept zero (x ∷ xs) a = a.1
apart_kept (suc i) (x ∷ xs) a = (has_kept x.dev i xs a.0, apart_kept i xs a.1)

-- ---- REMASK

-- another seat at the same device, in place of one
has_under : (dev i : ℕ) (seats : List SeatState) (s s' : SeatState) → slice_get seats i ≡ Some s → s'.dev ≡ s.dev
    → has_seat dev (slice_set seats i s') ≡ has_seat dev seats
has_under dev i [] s s' here same = cc
has_under dev zero (x ∷ xs) s s' here same = let one : s ≡ x = cc in ap (λ (n : ℕ). (n == dev) || has_seat dev xs) (same ∙ ap (λ (b : SeatState). b.dev) one)
has_under dev (suc i) (x ∷ xs) s s' here same = ap (λ (b : Bool). (x.dev == dev) || b) (has_under dev i xs s s' here same)

pub apart_under : (i : ℕ) (seats : List SeatState) (s s' : SeatState) → slice_get seats i ≡ Some s → s'.dev ≡ s.dev → AreApart seats
    → AreApart (slice_set seats i s')
apart_under i [] s s' here same a = cc
apart_under zero (x ∷ xs) s s' here same a = let one : s ≡ x = cc in (ap (λ (n : ℕ). has_seat n xs) (same ∙ ap (λ (b : SeatState). b.dev) one) ∙ a.0, a.1)
apart_under (suc i) (x ∷ xs) s s' here same a = (has_under x.dev i xs s s' here same ∙ a.0, apart_under i xs s s' here same a.1)
