use Rattle.std.proofs.Common.{sym, arith}
use Rattle.std.proofs.lemmas.List.Edits.{length-remove}
use Rattle.iio_trigger.specs.Trigger.{place_dev}
use Rattle.iio_trigger.proofs.Ranks.{InOrder-remove}
use Rattle.iio_trigger.proofs.Changes.{without_place-remove, holds_place-none, without_place-none}
use Rattle.iio_trigger.proofs.Trigger.detach.Goals as goal

pub invariant_of-self : goal.invariant_of-self
invariant_of-self c =
    let s = rw c.as_slice.ensures.value at c.in-Ok.ensures in
    let ps = c.self.inside.attached.items in
    rw c.remove.ensures.items (
      omega (arith, length-remove ps c.in-Ok.at s.within, c.self.invariant.0),
      c.self.invariant.1,
      InOrder-remove place_dev 0 c.in-Ok.at ps c.self.invariant.2,
      c.self.invariant.3,
    )

pub returns-in-Ok-clause-after : goal.returns-in-Ok-clause-after
returns-in-Ok-clause-after c =
    let s = rw c.as_slice.ensures.value at c.in-Ok.ensures in
    let ps = c.self.inside.attached.items in
    let q = c.self.inside in
    rw (← c.self.view_is) (rw (c.remove.ensures.items, without_place-remove c.args.dev c.in-Ok.at ps s c.self.invariant.2))

pub returns-in-Err-clause-held : goal.returns-in-Err-clause-held
returns-in-Err-clause-held c =
    let s = rw c.as_slice.ensures.value at c.in-Err.ensures in
    rw (← c.self.view_is) (sym (holds_place-none c.args.dev c.in-Err.field-0 c.self.inside.attached.items s))

pub returns-in-Err-clause-after : goal.returns-in-Err-clause-after
returns-in-Err-clause-after c =
    let s = rw c.as_slice.ensures.value at c.in-Err.ensures in
    rw (← c.self.view_is) (rw (without_place-none c.args.dev c.in-Err.field-0 c.self.inside.attached.items s))
