use Rattle.std.proofs.Common.{List, ℕ, [], subst}
use Rattle.iio_script.specs.Ends.{Sends}
use Rattle.iio_script.proofs.EndLaws.{sends_all, sends_part}
use Rattle.iio_script.proofs.ends.write_out.Goals as goal

pub returns-in-Ok-clause-whole : goal.returns-in-Ok-clause-whole
returns-in-Ok-clause-whole g c =
    subst (λ (t : List ℕ). Sends (g.K.Sink.written c.args.output.now) (g.K.Sink.written c.write_whole.new.sink) t []) c.deref.ensures.value
    (sends_all _ _ _ c.in-Ok.ensures.whole)

pub returns-in-Err-clause-part : goal.returns-in-Err-clause-part
returns-in-Err-clause-part g c =
    subst (λ (t : List ℕ). (rest : List ℕ) × Sends (g.K.Sink.written c.args.output.now) (g.K.Sink.written c.write_whole.new.sink) t rest) c.deref.ensures.value
    (sends_part _ _ _ c.in-Err.ensures.part)
