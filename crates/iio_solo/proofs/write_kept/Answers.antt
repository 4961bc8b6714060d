use Rattle.std.proofs.Common.{List, ℕ, [], ◌++◌, subst}
use Rattle.iio_script.specs.declared.keeping.Keeping.TheVariants.{Text}
use Rattle.iio_script.specs.declared.status.Status.TheVariants.{Done, WriteFault}
use Rattle.iio_script.specs.Ends.{Sends}
use Rattle.iio_worlds.specs.Solo.{between}
use Rattle.iio_solo.proofs.SoloEnds.{both_done, both_part, kept_prints}
use Rattle.iio_solo.proofs.write_kept.Goals as goal

pub returns-in-Ok-clause-prints : goal.returns-in-Ok-clause-prints
returns-in-Ok-clause-prints g c =
    kept_prints c.args.kept (Text c.in-Text.text) Done (g.K.Sink.written c.args.output.now) (g.K.Sink.written c.write_both.new.output) c.in-Text.is
    (both_done c.in-Text.text.items (g.K.Sink.written c.args.output.now) (g.K.Sink.written c.write_both.new.output)
    (subst (λ (t : List ℕ). Sends (g.K.Sink.written c.args.output.now) (g.K.Sink.written c.write_both.new.output) (t ++ between ++ t) []) c.deref.ensures.value
    c.in-Ok.ensures.whole))

pub returns-in-Text-clause-prints : goal.returns-in-Text-clause-prints
returns-in-Text-clause-prints g c =
    kept_prints c.args.kept (Text c.in-Text.text) WriteFault (g.K.Sink.written c.args.output.now) (g.K.Sink.written c.write_both.new.output) c.in-Text.is
    (both_part c.in-Text.text.items (g.K.Sink.written c.args.output.now) (g.K.Sink.written c.write_both.new.output)
    (subst (λ (t : List ℕ). (rest : List ℕ) × Sends (g.K.Sink.written c.args.output.now) (g.K.Sink.written c.write_both.new.output) (t ++ between ++ t) rest)
    c.deref.ensures.value c.in-Err.ensures.part))
