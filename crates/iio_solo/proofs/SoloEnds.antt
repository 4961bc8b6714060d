-- How a run for both worlds ends, from what its parts did.
use Rattle.std.proofs.Common.{◌≡◌, ℕ, List, [], ◌∷◌, ◌++◌, Option, Some, None, IfSome, Result, Ok, refl, sym, ap, ◌∙◌, subst}
use Rattle.iio_sensor.specs.Driver.{Driver}
use Rattle.iio_history.specs.Outcome.{Outcome}
use Rattle.iio_history.specs.Script.{Ending}
use Rattle.iio_script.specs.declared.keeping.Keeping.{Keeping}
use Rattle.iio_script.specs.declared.status.Status.{Status}
use Rattle.iio_script.specs.declared.status.Status.TheVariants as status
use Rattle.iio_script.specs.Ends.{HasStatus, Sends, Writes, WritesFront}
use Rattle.iio_script.specs.Keeps.{keeping_view}
use Rattle.iio_script.specs.Plays.{Prints, WritesText}
use Rattle.iio_worlds.specs.Solo.{SoloIsTwice, between, kept_of, solo_outcome_of, twice}

-- this is what was kept
pub kept_prints : (kept is : Keeping) (st : Status) (before after : Option (List ℕ)) → kept ≡ is
    → ((t : List ℕ) × WritesText before after t × Prints (twice (keeping_view is)) st t)
    → (t : List ℕ) × WritesText before after t × Prints (twice (keeping_view kept)) st t
kept_prints kept is st before after same prints =
    subst (λ (k : Keeping). (t : List ℕ) × WritesText before after t × Prints (twice (keeping_view k)) st t) (sym same) prints

-- both texts were written
pub both_done : (text : List ℕ) (before after : Option (List ℕ)) → Sends before after (text ++ between ++ text) []
    → (t : List ℕ) × WritesText before after t × Prints (twice (Ok text)) status.Done t
both_done text before after sends = (sends.sent, sends.writes, record { end = tt; ends = refl; printed = sym (append_nil sends.sent) ∙ sym sends.parts })
  where
    append_nil : (xs : List ℕ) → xs ++ [] ≡ xs
    append_nil [] = refl
    append_nil (x ∷ xs) = ap (λ (ys : List ℕ). x ∷ ys) (append_nil xs)

-- .. or a front part of them
pub both_part : (text : List ℕ) (before after : Option (List ℕ)) → ((rest : List ℕ) × Sends before after (text ++ between ++ text) rest)
    → (t : List ℕ) × WritesText before after t × Prints (twice (Ok text)) status.WriteFault t
both_part text before after part = (part.1.sent, part.1.writes, record { rest = part.0; parts = part.1.parts })

-- ---- by what was printed

prints_writes : (outcome : Outcome) (st : Status) (text xs : List ℕ) (after : Option (List ℕ)) → Prints outcome st text → after ≡ Some (xs ++ text)
    → Writes outcome xs st after
prints_writes outcome status.Done text xs after f writes = record { ends = f.ends; written = writes ∙ ap (λ t. Some (xs ++ t)) f.printed }
prints_writes outcome (status.Refused line why) text xs after f writes = record { ends = f.ends; written = writes ∙ ap (λ t. Some (xs ++ t)) f.printed }
prints_writes outcome status.TooLong text xs after f writes = record { ends = f.ends; written = writes ∙ ap (λ t. Some (xs ++ t)) f.printed }
prints_writes outcome status.Usage text xs after f writes = absurd f
prints_writes outcome status.ReadFault text xs after f writes = absurd f
prints_writes outcome status.WriteFault text xs after f writes = record { front = text; rest = f.rest; parts = f.parts; written = writes }
prints_writes outcome status.Memory text xs after f writes = record { front = text; rest = f.rest; parts = f.parts; written = writes }

prints_status : (outcome : Outcome) (st : Status) (text : List ℕ) → Prints outcome st text → HasStatus outcome st
prints_status outcome status.Done text f = f.ends
prints_status outcome (status.Refused line why) text f = f.ends
prints_status outcome status.TooLong text f = f.ends
prints_status outcome status.Usage text f = absurd f
prints_status outcome status.ReadFault text f = tt
prints_status outcome status.WriteFault text f = tt
prints_status outcome status.Memory text f = tt

pub no_usage : (outcome : Outcome) (st : Status) (text : List ℕ) → Prints outcome st text → st ≡ status.Usage → ⊥
no_usage outcome st text f is = subst (λ (x : Status). Prints outcome x text) is f

pub no_read_fault : (outcome : Outcome) (st : Status) (text : List ℕ) → Prints outcome st text → st ≡ status.ReadFault → ⊥
no_read_fault outcome st text f is = subst (λ (x : Status). Prints outcome x text) is f

-- ---- what was kept is the outcome

module _ (law : SoloIsTwice) (a : List ℕ) (drivers : List Driver) (kept : Result (List ℕ) Ending) (st : Status) where
  same : (input : List ℕ) → kept_of a drivers input ≡ kept → twice kept ≡ solo_outcome_of a drivers input
  same input is = ap (λ (r : Result (List ℕ) Ending). twice r) (sym is) ∙ sym (law a drivers input)

  pub kept_writes : (left before after : Option (List ℕ)) → IfSome left (λ input. kept_of a drivers input ≡ kept)
      → ((text : List ℕ) × WritesText before after text × Prints (twice kept) st text)
      → IfSome left (λ input. IfSome before (λ xs. Writes (solo_outcome_of a drivers input) xs st after))
  kept_writes None before after is prints = tt
  kept_writes (Some input) None after is prints = tt
  kept_writes (Some input) (Some xs) after is prints =
      subst (λ (o : Outcome). Writes o xs st after) (same input is) (prints_writes (twice kept) st prints.0 xs after prints.2 prints.1)

  pub kept_status : (left before after : Option (List ℕ)) → IfSome left (λ input. kept_of a drivers input ≡ kept)
      → ((text : List ℕ) × WritesText before after text × Prints (twice kept) st text)
      → IfSome left (λ input. HasStatus (solo_outcome_of a drivers input) st)
  kept_status None before after is prints = tt
  kept_status (Some input) before after is prints = subst (λ (o : Outcome). HasStatus o st) (same input is) (prints_status (twice kept) st prints.0 prints.2)

-- ---- if nothing was written

front_none : (outcome : Outcome) (xs : List ℕ) → WritesFront xs outcome.printed (Some xs)
front_none outcome xs = record { front = []; rest = outcome.printed; parts = refl; written = ap (λ (t : List ℕ). Some t) (sym (nil xs)) }
  where
    nil : (ys : List ℕ) → ys ++ [] ≡ ys
    nil [] = refl
    nil (y ∷ ys) = ap (λ (zs : List ℕ). y ∷ zs) (nil ys)

pub nothing_failed : (outcome : List ℕ → Outcome) (left written : Option (List ℕ))
    → IfSome left (λ input. IfSome written (λ xs. Writes (outcome input) xs status.ReadFault written))
nothing_failed outcome None written = tt
nothing_failed outcome (Some input) None = tt
nothing_failed outcome (Some input) (Some xs) = front_none (outcome input) xs

pub nothing_memory : (outcome : List ℕ → Outcome) (left written : Option (List ℕ))
    → IfSome left (λ input. IfSome written (λ xs. Writes (outcome input) xs status.Memory written))
nothing_memory outcome None written = tt
nothing_memory outcome (Some input) None = tt
nothing_memory outcome (Some input) (Some xs) = front_none (outcome input) xs

pub any_status : (left : Option (List ℕ)) → IfSome left (λ input. Unit {0})
any_status None = tt
any_status (Some input) = tt
