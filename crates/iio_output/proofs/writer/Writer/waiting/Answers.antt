use Rattle.std.proofs.Common.{◌/◌, ap, sym, ◌∙◌}
use Rattle.iio_output.proofs.Scans.{length-scans_of}
use Rattle.iio_output.proofs.writer.Writer.waiting.Goals as goal

pub returns : goal.returns
returns c = rw (← c.self.view_is) (ap (λ n. n / c.self.inside.size) c.len.ensures.len ∙ sym (length-scans_of c.self.inside.size c.self.inside.bytes.items))
