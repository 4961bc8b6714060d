use Rattle.std.proofs.Common.{true, false, pos, refl}
use Rattle.std.proofs.lemmas.Bool.{false≢true}
use Rattle.iio_trigger.specs.Trigger.{entry_dev}
use Rattle.iio_trigger.specs.declared.rows.Entry.{Entry}
use Rattle.iio_trigger.proofs.Ranks.{InOrder-remove}
use Rattle.iio_trigger.proofs.Changes.{Contains-none, Contains-at, without_entry-remove}
use Rattle.iio_trigger.proofs.Trigger.done.Goals as goal
use Rattle.iio_trigger.proofs.Trigger.done.Goals.{then-not-entry-via-then-not-entry, then-not-entry-via-else-not-entry+then-entry-handed, then-not-entry-via-else-not-entry+else-entry-handed+then-entry-handed-2}

-- a row for reads past the end
abbrev no_entry : Entry
no_entry = record { dev = 0; attachment = 0; t = pos 0; in_hand = false }

-- the entry that was handed out, while it is in hand
abbrev in_hand : Entry → Entry
in_hand e = record e { in_hand = true }

pub returns-in_default-clause-found : goal.returns-in_default-clause-found
returns-in_default-clause-found c =
    let others = rw c.as_slice.ensures.value at c.in_default.ensures in
    let e = in_hand c.due.inside.entry in
    rw (← c.self.view_is, ← c.due.view_is)
    ((λ no. absurd (false≢true no)), (λ at. absurd (Contains-none c.due.inside.entry.dev c.self.inside.entries.items others e refl at)))

pub returns-then-not-entry-clause-found : goal.returns-then-not-entry-clause-found
returns-then-not-entry-clause-found c =
    let s = rw c.as_slice.ensures.value at c.in-Some.ensures in
    let es = c.self.inside.entries.items in
    let e = in_hand c.due.inside.entry in
    rw (← c.self.view_is, ← c.due.view_is) (
      (λ no. absurd (false≢true no)),
      (λ at.
          let is = Contains-at c.due.inside.entry.dev es c.in-Some.at s no_entry c.self.invariant.3 e refl at in
          elim c.then-not-entry.branch [
            | then-not-entry-via-then-not-entry w ↦ rw (c.deref.ensures.0, is) at w.if-not-entry.true
            | then-not-entry-via-else-not-entry+then-entry-handed w ↦ absurd ((rw (c.deref.ensures.0, is) at w.if-entry-handed.true) refl)
            | then-not-entry-via-else-not-entry+else-entry-handed+then-entry-handed-2 w ↦ absurd ((rw (c.deref.ensures.0, is) at w.if-entry-handed-2.true) refl)
          ]),
    )

pub invariant_of-self : goal.invariant_of-self
invariant_of-self c =
    rw c.remove.ensures.items (
      c.self.invariant.0,
      c.self.invariant.1,
      c.self.invariant.2,
      InOrder-remove entry_dev 0 c.in-Some.at c.self.inside.entries.items c.self.invariant.3,
    )

pub returns-clause-taken : goal.returns-clause-taken
returns-clause-taken c =
    let s = rw c.as_slice.ensures.value at c.in-Some.ensures in
    let es = c.self.inside.entries.items in
    rw (← c.self.view_is, ← c.due.view_is)
    (rw (c.remove.ensures.items, without_entry-remove c.due.inside.entry.dev es c.in-Some.at s no_entry c.self.invariant.3))
