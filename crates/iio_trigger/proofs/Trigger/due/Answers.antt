use Rattle.std.proofs.Common.{true, false, pos, get_or, refl, sym, ◌∙◌}
use Rattle.iio_trigger.specs.declared.rows.Entry.{Entry}
use Rattle.iio_trigger.proofs.Changes.{refill-set, due_of-none, due_of-in_hand, due_of-at, with_in_hand-none, with_in_hand-same, with_in_hand-set, InOrder-set_entry}
use Rattle.iio_trigger.proofs.Trigger.due.Goals as goal

-- a row for reads past the end
abbrev no_entry : Entry
no_entry = record { dev = 0; attachment = 0; t = pos 0; in_hand = false }

pub returns-in_err-at-clause-due : goal.returns-in_err-at-clause-due
returns-in_err-at-clause-due c =
    let others = rw c.as_slice.ensures.value at c.in_err-at.ensures in
    rw (← c.self.view_is) (c.from_residual.ensures ∙ sym (due_of-none c.args.dev c.self.inside.entries.items others))

pub returns-in_err-at-clause-after : goal.returns-in_err-at-clause-after
returns-in_err-at-clause-after c =
    let others = rw c.as_slice.ensures.value at c.in_err-at.ensures in
    rw (← c.self.view_is) (rw (with_in_hand-none c.args.dev c.self.inside.entries.items others))

pub returns-then-entry-clause-due : goal.returns-then-entry-clause-due
returns-then-entry-clause-due c =
    let s = rw c.as_slice.ensures.value at c.in_ok-at.ensures in
    let busy = rw c.deref.ensures.0 at c.if-entry.true in
    rw (← c.self.view_is) (sym (due_of-in_hand c.args.dev c.self.inside.entries.items c.in_ok-at.at s no_entry c.self.invariant.3 busy))

pub returns-then-entry-clause-after : goal.returns-then-entry-clause-after
returns-then-entry-clause-after c =
    let s = rw c.as_slice.ensures.value at c.in_ok-at.ensures in
    let busy = rw c.deref.ensures.0 at c.if-entry.true in
    rw (← c.self.view_is) (rw (with_in_hand-same c.args.dev c.self.inside.entries.items c.in_ok-at.at s no_entry c.self.invariant.3 busy))

-- the row that is written, as a change of the one that was there
abbrev in_hand : Entry → Entry
in_hand e = record e { in_hand = true }

pub invariant_of-self : goal.invariant_of-self
invariant_of-self c =
    let s = rw c.as_slice.ensures.value at c.in_ok-at.ensures in
    let es = c.self.inside.entries.items in
    rw (c.deref_mut.ensures.value, refill-set es es c.in_ok-at.at (in_hand (get_or es c.in_ok-at.at no_entry)) refl) (
      c.self.invariant.0,
      c.self.invariant.1,
      c.self.invariant.2,
      InOrder-set_entry c.args.dev es c.in_ok-at.at s no_entry c.self.invariant.3,
    )

pub returns-clause-due : goal.returns-clause-due
returns-clause-due c =
    let s = rw c.as_slice.ensures.value at c.in_ok-at.ensures in
    let idle = rw c.deref.ensures.0 at c.if-entry.false in
    rw (← c.self.view_is) (rw c.deref.ensures.0 (sym (due_of-at c.args.dev c.self.inside.entries.items c.in_ok-at.at s no_entry c.self.invariant.3 idle)))

pub returns-clause-after : goal.returns-clause-after
returns-clause-after c =
    let s = rw c.as_slice.ensures.value at c.in_ok-at.ensures in
    let es = c.self.inside.entries.items in
    rw (← c.self.view_is)
    (rw (
      c.deref_mut.ensures.value,
      refill-set es es c.in_ok-at.at (in_hand (get_or es c.in_ok-at.at no_entry)) refl,
      with_in_hand-set c.args.dev es c.in_ok-at.at s no_entry c.self.invariant.3,
    ))
