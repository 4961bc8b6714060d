-- A device among rows in the order of devices: its row is at its rank, if there is one, and nowhere else.
use Rattle.std.proofs.Common.{◌≡◌, ℕ, zero, suc, ◌+◌, ◌≤◌, ◌<◌, Bool, true, false, not, cond, eqb, List, [], ◌∷◌, map, filter, length, get_or, Some, None, refl, sym, ap, ◌∙◌, ⊎_elim, arith, rules}
use Rattle.std.proofs.lemmas.Grind.{common_steps}
use Rattle.std.specs.List.{list_any, find, insert, remove}
use Rattle.std.proofs.Math.ListN.{set}
use Rattle.std.proofs.lemmas.List.Sums.{prefix_len-le-length}
use Rattle.std.proofs.lemmas.Bool.{cases_lt, lt-ltb, le-ltb, eq-eqb, ne_eqb}
use Rattle.iio_trigger.specs.Rank.{rank, IsOther, AllOther, StandsAt, WouldStandAt}
use Rattle.iio_trigger.specs.Trigger.{InOrder, place_dev, entry_dev, with_place, entries_at}
use Rattle.iio_trigger.specs.declared.rows.Place.{Place}

module _ {X : Type 0} (dev_of : X → ℕ) where
  pub InOrder-weaker : (low low' : ℕ) (xs : List X) → low' ≤ low → InOrder dev_of low xs → InOrder dev_of low' xs
  InOrder-weaker low low' [] le o = tt
  InOrder-weaker low low' (x ∷ xs) le o = (omega (arith, o.0), o.1)

  pub InOrder-remove : (low i : ℕ) (xs : List X) → InOrder dev_of low xs → InOrder dev_of low (remove xs i)
  InOrder-remove low zero [] o = tt
  InOrder-remove low (suc i) [] o = tt
  InOrder-remove low zero (x ∷ xs) o = InOrder-weaker (dev_of x + 1) low xs (omega (arith, o.0)) o.1
  InOrder-remove low (suc i) (x ∷ xs) o = (o.0, InOrder-remove (dev_of x + 1) i xs o.1)

  pub InOrder-set : (low i : ℕ) (xs : List X) (y d : X) → InOrder dev_of low xs → dev_of y ≡ dev_of (get_or xs i d)
      → InOrder dev_of low (set xs i y)
  InOrder-set low i [] y d o same = tt
  InOrder-set low zero (x ∷ xs) y d o same = (omega (arith, o.0, same), InOrder-weaker (dev_of x + 1) (dev_of y + 1) xs (omega (arith, same)) o.1)
  InOrder-set low (suc i) (x ∷ xs) y d o same = (o.0, InOrder-set (dev_of x + 1) i xs y d o.1 same)

  module _ (dev : ℕ) where
    rank-below : (x : X) (xs : List X) → dev_of x < dev → rank dev_of dev (x ∷ xs) ≡ suc (rank dev_of dev xs)
    rank-below x xs lt = rw (lt-ltb (dev_of x) dev lt) (omega arith)

    rank-from : (x : X) (xs : List X) → dev ≤ dev_of x → rank dev_of dev (x ∷ xs) ≡ 0
    rank-from x xs ge = rw (le-ltb (dev_of x) dev ge)

    pub others_later : (low : ℕ) (xs : List X) → InOrder dev_of low xs → dev < low → AllOther dev_of dev xs
    others_later low [] o lt = tt
    others_later low (x ∷ xs) o lt = (λ e. omega (arith, e, o.0), others_later (dev_of x + 1) xs o.1 (omega (arith, o.0)))

    -- if the row at the rank isn't the device's, no row is
    pub all_others : (low : ℕ) (xs : List X) (d : X) → InOrder dev_of low xs
        → (rank dev_of dev xs < length xs → IsOther dev_of dev (get_or xs (rank dev_of dev xs) d)) → AllOther dev_of dev xs
    all_others low [] d o free = tt
    all_others low (x ∷ xs) d o free =
        ⊎_elim
        (λ lt. let free' = rw (rank-below x xs lt) at free in
        (λ e. omega (arith, e, lt), all_others (dev_of x + 1) xs d o.1 (λ within. free' (omega (arith, within)))))
        (λ ge. let free' = rw (rank-from x xs ge) at free in
        (free' (omega arith), others_later (dev_of x + 1) xs o.1 (omega (arith, ge))))
        (cases_lt (dev_of x) dev)

    pub map-others : (f : X → X) (xs : List X) → AllOther dev_of dev xs → ((x : X) → IsOther dev_of dev x → f x ≡ x) → map f xs ≡ xs
    map-others f [] others same = refl
    map-others f (x ∷ xs) others same = ap (λ y. y ∷ map f xs) (same x others.0) ∙ ap (λ ys. x ∷ ys) (map-others f xs others.1 same)

    pub filter-others : (xs : List X) → AllOther dev_of dev xs → filter (λ x. not (eqb (dev_of x) dev)) xs ≡ xs
    filter-others [] others = refl
    filter-others (x ∷ xs) others = rw (ne_eqb (dev_of x) dev others.0) (ap (λ ys. x ∷ ys) (filter-others xs others.1))

    pub any-others : (xs : List X) → AllOther dev_of dev xs → list_any (λ x. eqb (dev_of x) dev) xs ≡ false
    any-others [] others = refl
    any-others (x ∷ xs) others = rw (ne_eqb (dev_of x) dev others.0) (any-others xs others.1)

    pub find-others : (p : X → Bool) (xs : List X) → AllOther dev_of dev xs → ((x : X) → IsOther dev_of dev x → p x ≡ false) → find p xs ≡ None
    find-others p [] others free = refl
    find-others p (x ∷ xs) others free = rw (free x others.0) (find-others p xs others.1 free)

    -- what a device's row at its rank makes of the whole list
    pub any-at : (xs : List X) (d : X) → rank dev_of dev xs < length xs → dev_of (get_or xs (rank dev_of dev xs) d) ≡ dev
        → list_any (λ x. eqb (dev_of x) dev) xs ≡ true
    any-at [] d within same = absurd (omega (arith, within))
    any-at (x ∷ xs) d within same = grind (arith, common_steps)

    pub map-at : (f : X → X) (low : ℕ) (xs : List X) (d : X) → InOrder dev_of low xs → rank dev_of dev xs < length xs
        → dev_of (get_or xs (rank dev_of dev xs) d) ≡ dev → ((x : X) → IsOther dev_of dev x → f x ≡ x)
        → map f xs ≡ set xs (rank dev_of dev xs) (f (get_or xs (rank dev_of dev xs) d))
    map-at f low [] d o within same other = absurd (omega (arith, within))
    map-at f low (x ∷ xs) d o within same other =
        ⊎_elim
        (λ lt. let e = rank-below x xs lt in let same' = rw e at same in
        rw e (ap (λ y. y ∷ map f xs) (other x (λ q. omega (arith, q, lt)))
        ∙ ap (λ ys. x ∷ ys) (map-at f (dev_of x + 1) xs d o.1 (omega (arith, e, within)) same' other)))
        (λ ge. rw (rank-from x xs ge) (ap (λ ys. f x ∷ ys) (map-others f xs (others_later (dev_of x + 1) xs o.1 (omega (arith, ge))) other)))
        (cases_lt (dev_of x) dev)

    pub filter-at : (low : ℕ) (xs : List X) (d : X) → InOrder dev_of low xs → rank dev_of dev xs < length xs
        → dev_of (get_or xs (rank dev_of dev xs) d) ≡ dev
        → filter (λ x. not (eqb (dev_of x) dev)) xs ≡ remove xs (rank dev_of dev xs)
    filter-at low [] d o within same = absurd (omega (arith, within))
    filter-at low (x ∷ xs) d o within same =
        ⊎_elim
        (λ lt. let e = rank-below x xs lt in let same' = rw e at same in
        rw (e, ne_eqb (dev_of x) dev (λ q. omega (arith, q, lt)))
        (ap (λ ys. x ∷ ys) (filter-at (dev_of x + 1) xs d o.1 (omega (arith, e, within)) same')))
        (λ ge. let e = rank-from x xs ge in let same' = rw e at same in
        rw (e, eq-eqb (dev_of x) dev same') (filter-others xs (others_later (dev_of x + 1) xs o.1 (omega (arith, ge)))))
        (cases_lt (dev_of x) dev)

    pub find-at : (p : X → Bool) (low : ℕ) (xs : List X) (d : X) → InOrder dev_of low xs → rank dev_of dev xs < length xs
        → dev_of (get_or xs (rank dev_of dev xs) d) ≡ dev → ((x : X) → IsOther dev_of dev x → p x ≡ false)
        → find p xs ≡ cond (p (get_or xs (rank dev_of dev xs) d)) (Some (get_or xs (rank dev_of dev xs) d)) None
    find-at p low [] d o within same other = absurd (omega (arith, within))
    find-at p low (x ∷ xs) d o within same other =
        ⊎_elim
        (λ lt. let e = rank-below x xs lt in let same' = rw e at same in
        rw (e, other x (λ q. omega (arith, q, lt))) (find-at p (dev_of x + 1) xs d o.1 (omega (arith, e, within)) same' other))
        (λ ge. rw (rank-from x xs ge)
        (ap (λ r. cond (p x) (Some x) r) (find-others p xs (others_later (dev_of x + 1) xs o.1 (omega (arith, ge))) other)))
        (cases_lt (dev_of x) dev)

module _ {X : Type 0} (dev_of : X → ℕ) (dev i : ℕ) (xs : List X) (d : X) where
  -- what a look at the rank tells
  pub stands : i ≡ rank dev_of dev xs → i < length xs → dev_of (get_or xs i d) ≡ dev → StandsAt dev_of dev xs i
  stands is within same = grind (arith, common_steps)

  pub would_stand : (low : ℕ) → InOrder dev_of low xs → i ≡ rank dev_of dev xs
      → (i < length xs → IsOther dev_of dev (get_or xs i d)) → WouldStandAt dev_of dev xs i
  would_stand low o is free = search (rules, prefix_len-le-length, all_others)

-- the place that a device holds gets the new number
pub with_place-at : (dev n : ℕ) (ps : List Place) (d : Place) → rank place_dev dev ps < length ps
    → (get_or ps (rank place_dev dev ps) d).dev ≡ dev
    → with_place dev n ps ≡ set ps (rank place_dev dev ps) (record { dev = dev; attachment = n })
with_place-at dev n [] d within same = absurd (omega (arith, within))
with_place-at dev n (p ∷ ps) d within same =
    ⊎_elim
    (λ lt. let e = rank-below place_dev dev p ps lt in let same' = rw e at same in
    rw (e, lt-ltb p.dev dev lt) (ap (λ ys. p ∷ ys) (with_place-at dev n ps d (omega (arith, e, within)) same')))
    (λ ge. let e = rank-from place_dev dev p ps ge in let same' = rw e at same in
    rw (e, le-ltb p.dev dev ge, eq-eqb p.dev dev same'))
    (cases_lt p.dev dev)

-- a device that holds no place gets another one, at its rank
pub with_place-new : (dev n : ℕ) (ps : List Place) (d : Place)
    → (rank place_dev dev ps < length ps → IsOther place_dev dev (get_or ps (rank place_dev dev ps) d))
    → with_place dev n ps ≡ insert ps (rank place_dev dev ps) (record { dev = dev; attachment = n })
with_place-new dev n [] d free = refl
with_place-new dev n (p ∷ ps) d free =
    ⊎_elim
    (λ lt. let e = rank-below place_dev dev p ps lt in let free' = rw e at free in
    rw (e, lt-ltb p.dev dev lt) (ap (λ ys. p ∷ ys) (with_place-new dev n ps d (λ within. free' (omega (arith, within))))))
    (λ ge. let e = rank-from place_dev dev p ps ge in let free' = rw e at free in
    rw (e, le-ltb p.dev dev ge, ne_eqb p.dev dev (free' (omega arith))))
    (cases_lt p.dev dev)

pub InOrder-with_place : (low dev n : ℕ) (ps : List Place) → low ≤ dev → InOrder place_dev low ps → InOrder place_dev low (with_place dev n ps)
InOrder-with_place low dev n [] le o = (le, tt)
InOrder-with_place low dev n (p ∷ ps) le o =
    ⊎_elim
    (λ lt. rw (lt-ltb p.dev dev lt) (o.0, InOrder-with_place (p.dev + 1) dev n ps (omega (arith, lt)) o.1))
    (λ ge. rw (le-ltb p.dev dev ge)
    (⊎_elim
    (λ lt. rw (ne_eqb p.dev dev (λ e. omega (arith, e, lt))) (le, (omega (arith, lt), o.1)))
    (λ le'. let same : p.dev ≡ dev = omega (arith, ge, le') in
    rw (eq-eqb p.dev dev same) (le, InOrder-weaker place_dev (p.dev + 1) (dev + 1) ps (omega (arith, same)) o.1))
    (cases_lt dev p.dev)))
    (cases_lt p.dev dev)

pub InOrder-entries_at : (low : ℕ) (ps : List Place) → (t : _) → InOrder place_dev low ps → InOrder entry_dev low (entries_at t ps)
InOrder-entries_at low [] t o = tt
InOrder-entries_at low (p ∷ ps) t o = (o.0, InOrder-entries_at (p.dev + 1) ps t o.1)

module _ {X : Type 0} (dev_of : X → ℕ) (dev : ℕ) where
  pub IsOther-get_or : (xs : List X) (k : ℕ) (d : X) → AllOther dev_of dev xs → k < length xs → IsOther dev_of dev (get_or xs k d)
  IsOther-get_or [] k d others within = absurd (omega (arith, within))
  IsOther-get_or (x ∷ xs) zero d others within = others.0
  IsOther-get_or (x ∷ xs) (suc k) d others within = IsOther-get_or xs k d others.1 (omega (arith, within))

  -- rows in order have a device at most once
  pub at_rank : (low : ℕ) (xs : List X) (k : ℕ) (d : X) → InOrder dev_of low xs → k < length xs → dev_of (get_or xs k d) ≡ dev
      → k ≡ rank dev_of dev xs
  at_rank low [] k d o within same = absurd (omega (arith, within))
  at_rank low (x ∷ xs) zero d o within same = sym (rank-from dev_of dev x xs (omega (arith, same)))
  at_rank low (x ∷ xs) (suc k) d o within same =
      search (rules, rank-below, IsOther-get_or, others_later, at_rank (dev_of x + 1) xs k d o.1 (omega (arith, within)) same)
