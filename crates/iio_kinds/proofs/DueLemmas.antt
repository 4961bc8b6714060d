-- Entries that a trigger hands out, and that are removed.
use Rattle.std.proofs.Common.{◌≡◌, ◌↔◌, ℕ, suc, Bool, true, false, IsTrue, List, [], ◌∷◌, map, Some, None, option_map, refl, arith, cond, not, rules}
use Rattle.std.specs.Bool.{OnTrue}
use Rattle.std.specs.Prelude.{◌==◌, ◌&&◌, ◌||◌, find, Contains}
use Rattle.iio_trigger.specs.declared.rows.Entry.{Entry}
use Rattle.iio_trigger.specs.Trigger.{Handed, State, due_of, is_waiting, with_in_hand, without_entry as without_entry_of}
use Rattle.iio_core.specs.Trigger.{entry_of}
use Rattle.iio_kinds.specs.Places.{handed_of, has_in_hand}

-- ---- entries

pub or_left : (a b : Bool) → (a || b) ≡ false → a ≡ false
or_left a b e = search rules

pub or_right : (a b : Bool) → (a || b) ≡ false → b ≡ false
or_right a b e = search rules

pub due_is : (dev : ℕ) (out : List Entry) → has_in_hand out ≡ false → due_of dev out ≡ entry_of dev (map handed_of out)
due_is dev [] h = refl
due_is dev (e ∷ es) h = search (rules, or_left, or_right, due_is dev es (or_right e.in_hand (has_in_hand es) h))

-- nothing is handed out if the device has no entry
pub none_due : (dev : ℕ) (out : List Entry) → has_in_hand out ≡ false → due_of dev out ≡ None → (with_in_hand dev out ≡ out) × (without_entry_of dev out ≡ out)
none_due dev [] h n = (refl, refl)
none_due dev (e ∷ es) h n =
    by (e.dev == dev) e.in_hand (or_left e.in_hand (has_in_hand es) h) n (λ m. none_due dev es (or_right e.in_hand (has_in_hand es) h) m)
  where
    by : (a b : Bool) → b ≡ false → option_map handed_of (cond (a && not b) (Some e) (find (is_waiting dev) es)) ≡ None
        → (option_map handed_of (find (is_waiting dev) es) ≡ None → (with_in_hand dev es ≡ es) × (without_entry_of dev es ≡ es))
        → (cond a (record e { in_hand = true }) e ∷ with_in_hand dev es ≡ e ∷ es)
        × (cond (not a) (e ∷ without_entry_of dev es) (without_entry_of dev es) ≡ e ∷ es)
    by a b f n i = search rules

-- what is handed out is in hand
pub due_there : (dev : ℕ) (out : List Entry) (h : Handed) → due_of dev out ≡ Some h
    → Contains (with_in_hand dev out) (record { dev = h.dev; attachment = h.attachment; t = h.t; in_hand = true })
due_there dev [] h e = absurd (cc)
due_there dev (o ∷ os) h e = by (o.dev == dev) o.in_hand e (λ i. due_there dev os h i)
  where
    by : (a b : Bool) → option_map handed_of (cond (a && not b) (Some o) (find (is_waiting dev) os)) ≡ Some h
        → (option_map handed_of (find (is_waiting dev) os) ≡ Some h
        → Contains (with_in_hand dev os) (record { dev = h.dev; attachment = h.attachment; t = h.t; in_hand = true }))
        → Contains (cond a (record o { in_hand = true }) o ∷ with_in_hand dev os) (record { dev = h.dev; attachment = h.attachment; t = h.t; in_hand = true })
    by true false e i = search rules
    by true true e i = let r = i e in (suc r.0, omega (arith, r.1), r.2)
    by false b e i = let r = i e in (suc r.0, omega (arith, r.1), r.2)

pub due_dev : (dev : ℕ) (out : List Entry) (h : Handed) → due_of dev out ≡ Some h → h.dev ≡ dev
due_dev dev [] h e = absurd (cc)
due_dev dev (o ∷ os) h e = by (o.dev == dev) refl o.in_hand e (λ i. due_dev dev os h i)
  where
    by : (a : Bool) → (o.dev == dev) ≡ a → (b : Bool) → option_map handed_of (cond (a && not b) (Some o) (find (is_waiting dev) os)) ≡ Some h
        → (option_map handed_of (find (is_waiting dev) os) ≡ Some h → h.dev ≡ dev) → h.dev ≡ dev
    by a own b e i = search rules

-- the entries without the device's
taken_off : (dev : ℕ) (out : List Entry) → without_entry_of dev (with_in_hand dev out) ≡ without_entry_of dev out
taken_off dev [] = refl
taken_off dev (o ∷ os) = search (rules, taken_off dev os)

-- a trigger without the device's entry
abbrev pub without : ℕ → State → State
without dev s = record s { outstanding = without_entry_of dev s.outstanding }

pub none_off : (dev : ℕ) (s s' : State) → has_in_hand s.outstanding ≡ false → None ≡ due_of dev s.outstanding
    → s' ≡ record s { outstanding = with_in_hand dev s.outstanding } → s' ≡ without dev s
none_off dev s s' idle due e = search (rules, none_due)

pub done_off : (dev : ℕ) (h : Handed) (r : Bool) (s s1 s2 : State) → Some h ≡ due_of dev s.outstanding
    → s1 ≡ record s { outstanding = with_in_hand dev s.outstanding }
    → IsTrue r ↔ Contains s1.outstanding (record { dev = h.dev; attachment = h.attachment; t = h.t; in_hand = true })
    → OnTrue r (s2 ≡ record s1 { outstanding = without_entry_of h.dev s1.outstanding }) → s2 ≡ without dev s
done_off dev h r s s1 s2 due after found taken = search (rules, due_there, due_dev, taken_off)
