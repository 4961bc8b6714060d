use Rattle.std.proofs.Common.{◌∙◌}
use Rattle.iio_gen.specs.Summary.{summary_text}
use Rattle.iio_gen.proofs.SummaryLaws.{writes_none, writes_part}
use Rattle.iio_gen.proofs.summary.gen_.Goals as goal

pub returns-in_default-clause-lines : goal.returns-in_default-clause-lines
returns-in_default-clause-lines g c = writes_none (summary_text c.args.n) (g.K.Sink.written c.args.output.now)

pub returns-clause-lines : goal.returns-clause-lines
returns-clause-lines g c =
    writes_part (summary_text c.args.n) c.deref.result.now (g.K.Sink.written c.args.output.now) (g.K.Sink.written c.write_whole.new.sink)
    (c.deref.ensures.value ∙ c.in-Ok.ensures) c.in-Err.ensures.part
