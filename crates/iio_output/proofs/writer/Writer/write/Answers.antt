use Rattle.std.proofs.Common.{sym, ◌∙◌}
use Rattle.iio_output.proofs.WriterLemmas.{written}
use Rattle.iio_output.proofs.writer.Writer.write.Goals as goal

pub invariant_of-self : goal.invariant_of-self
invariant_of-self c =
    let w = c.self.inside in
    let unrefused = rw (← c.self.view_is) at (sym c.fault.ensures ∙ c.in_default.is) in
    let it =
    written w.mask.bits w.size w.capacity w.bytes.capacity w.cyclic w.bytes.items c.args.payload.now c.fill_from_slice-taken.result c.self.invariant unrefused
    c.fill_from_slice-taken.ensures.count in
    rw c.fill_from_slice-taken.ensures.items it.whole

pub returns-clause-answer : goal.returns-clause-answer
returns-clause-answer c =
    let w = c.self.inside in
    let unrefused = rw (← c.self.view_is) at (sym c.fault.ensures ∙ c.in_default.is) in
    let it =
    written w.mask.bits w.size w.capacity w.bytes.capacity w.cyclic w.bytes.items c.args.payload.now c.fill_from_slice-taken.result c.self.invariant unrefused
    c.fill_from_slice-taken.ensures.count in
    rw (← c.self.view_is) it.answer

pub returns-clause-written : goal.returns-clause-written
returns-clause-written c =
    let w = c.self.inside in
    let unrefused = rw (← c.self.view_is) at (sym c.fault.ensures ∙ c.in_default.is) in
    let it =
    written w.mask.bits w.size w.capacity w.bytes.capacity w.cyclic w.bytes.items c.args.payload.now c.fill_from_slice-taken.result c.self.invariant unrefused
    c.fill_from_slice-taken.ensures.count in
    rw (← c.self.view_is) (rw c.fill_from_slice-taken.ensures.items it.writer)
