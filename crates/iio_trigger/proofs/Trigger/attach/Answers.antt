use Rattle.std.proofs.Common.{sym, ◌∙◌, refl, arith}
use Rattle.std.proofs.lemmas.Bool.{false≢true}
use Rattle.std.proofs.lemmas.List.{length-set}
use Rattle.std.proofs.lemmas.List.Edits.{length-insert}
use Rattle.iio_trigger.specs.declared.rows.Place.{Place}
use Rattle.iio_trigger.proofs.Changes.{refill-set, holds_place-at, holds_place-none, with_place-set, with_place-insert, InOrder-set_place, InOrder-insert_place}
use Rattle.iio_trigger.proofs.Trigger.attach.Goals as goal

pub invariant_of-self : goal.invariant_of-self
invariant_of-self c =
    let s = rw c.as_slice.ensures.value at c.in-Ok.ensures in
    let ps = c.self.inside.attached.items in
    let place : Place = record { dev = c.args.dev; attachment = c.args.attachment } in
    rw (refill-set ps c.deref_mut.result.now c.in-Ok.at place c.deref_mut.ensures.value) (
      omega (arith, length-set ps c.in-Ok.at place, c.self.invariant.0),
      c.self.invariant.1,
      InOrder-set_place c.args.dev c.in-Ok.at ps s c.args.attachment c.self.invariant.2,
      c.self.invariant.3,
    )

pub invariant_of-self-in-Err : goal.invariant_of-self-in-Err
invariant_of-self-in-Err c =
    let w = rw c.as_slice.ensures.value at c.in-Err.ensures in
    let ps = c.self.inside.attached.items in
    rw c.insert.ensures.items (
      omega (arith, length-insert ps c.in-Err.at (record { dev = c.args.dev; attachment = c.args.attachment }) w.within, c.self.invariant.0),
      c.self.invariant.1,
      InOrder-insert_place c.args.dev c.in-Err.at ps w c.args.attachment c.self.invariant.2,
      c.self.invariant.3,
    )

pub returns-then-len-self-clause-refused : goal.returns-then-len-self-clause-refused
returns-then-len-self-clause-refused c =
    let w = rw c.as_slice.ensures.value at c.in-Err.ensures in
    let none = holds_place-none c.args.dev c.in-Err.at c.self.inside.attached.items w in
    rw (← c.self.view_is) ((λ _. (none, omega (arith, c.len.ensures.value, c.if-len-self.true))), (λ _. refl))

pub returns-in-Ok-clause-refused : goal.returns-in-Ok-clause-refused
returns-in-Ok-clause-refused c =
    let s = rw c.as_slice.ensures.value at c.in-Ok.ensures in
    let held = holds_place-at c.args.dev c.in-Ok.at c.self.inside.attached.items s in
    rw (← c.self.view_is) ((λ e. absurd (false≢true e)), (λ h. sym h.0 ∙ held))

pub returns-in-Ok-clause-ok : goal.returns-in-Ok-clause-ok
returns-in-Ok-clause-ok c =
    let s = rw c.as_slice.ensures.value at c.in-Ok.ensures in
    let ps = c.self.inside.attached.items in
    let place : Place = record { dev = c.args.dev; attachment = c.args.attachment } in
    rw (← c.self.view_is) (rw
    (refill-set ps c.deref_mut.result.now c.in-Ok.at place c.deref_mut.ensures.value, with_place-set c.args.dev c.in-Ok.at ps s c.args.attachment))

pub returns-else-len-self-clause-ok : goal.returns-else-len-self-clause-ok
returns-else-len-self-clause-ok c =
    let w = rw c.as_slice.ensures.value at c.in-Err.ensures in
    rw (← c.self.view_is) (rw (c.insert.ensures.items, with_place-insert c.args.dev c.in-Err.at c.self.inside.attached.items w c.args.attachment))
