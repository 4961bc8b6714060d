use Rattle.std.proofs.Common.{not, ap, refl}
use Rattle.iio_output.proofs.Scans.{none_left}
use Rattle.iio_output.proofs.writer.Writer.is_standing.Goals as goal

pub returns-then-self : goal.returns-then-self
returns-then-self c =
    let w = c.self.inside in
    let none = none_left w.size w.bytes.items c.self.invariant.sized c.self.invariant.whole in
    rw (← c.self.view_is) (rw (c.if-self.true, none) (ap not c.is_empty.ensures))

pub returns-else-self : goal.returns-else-self
returns-else-self c = rw (← c.self.view_is) (rw (c.if-self.false) refl)
