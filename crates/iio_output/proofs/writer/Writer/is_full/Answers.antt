use Rattle.std.proofs.Common.{◌∙◌, arith}
use Rattle.iio_output.proofs.WriterLemmas.{full_for}
use Rattle.iio_output.proofs.writer.Writer.is_full.Goals as goal

pub returns : goal.returns
returns c =
    let w = c.self.inside in
    rw (← c.self.view_is) (rw c.if-self.false
    (c.is_full.ensures ∙ full_for w.size w.capacity w.bytes.capacity w.bytes.items c.args.payload.now c.self.invariant (omega arith)))
