use Rattle.std.proofs.Common.{refl}
use Rattle.iiod_grammar.specs.Stream.{Streamed}
use Rattle.iio_core.specs.Front.{find_device}
use Rattle.iiod_commands.proofs.AnswerLaws.{performed, serves_short}
use Rattle.iiod_commands.proofs.ServeLaws.{finished, short_at}
use Rattle.iiod_commands.proofs.items.perform_streamed.Goals as goal

pub returns-then-is_err-clause-served : goal.returns-then-is_err-clause-served
returns-then-is_err-clause-served g c =
    finished _ _ _ _ _ _ _
    (serves_short _ _ (Streamed c.args.device.now c.args.payload.now)
    (short_at (find_device (g.I.Iio.front (g.I.Iio.kept c.args.iio.now)) c.args.device.now)) (refl, refl))
    c.finish.ensures.done (rw c.reserve.ensures.items at c.finish.ensures.text) c.finish.ensures.allowed tt

pub returns-clause-served : goal.returns-clause-served
returns-clause-served g c =
    performed _ _ _ _ _ c.write_buffer-answer.result (λ reply. tt) c.write_buffer-answer.ensures.served
    (rw (c.write_buffer-answer.ensures.kept, c.reserve.ensures.items) at c.in_ok-push_answer.ensures.prints)
