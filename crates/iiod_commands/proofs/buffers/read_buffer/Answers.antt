use Rattle.std.proofs.Common.{rules, sym, ◌∙◌}
use Rattle.iio_text.specs.declared.errors.Errno.TheVariants.{ENODEV}
use Rattle.iiod_reply.specs.Reply.{Refusal}
use Rattle.iiod_commands.proofs.ServeLaws.{finished, found_answer, answers, no_read, serves_unread, unread_answer, room_after}
use Rattle.iiod_commands.proofs.buffers.read_buffer.Goals as goal

pub returns-in-None-clause-served : goal.returns-in-None-clause-served
returns-in-None-clause-served g c =
    finished _ _ _ _ _ _ _ (no_read _ _ _ _ (search rules)) c.finish.ensures.done c.finish.ensures.text c.finish.ensures.allowed
    (found_answer c.args.device.now c.args.asked c.args.manner (Refusal ENODEV) tt)

pub returns-else-is_output-clause-served : goal.returns-else-is_output-clause-served
returns-else-is_output-clause-served g c =
    answers _ _ _ _ _ _ _ c.in-Some.dev c.read_at-took.result _ (search rules) (sym c.is_output.ensures ∙ c.if-is_output.false)
    c.read_at-took.ensures.same c.read_at-took.ensures.read c.finish_read.ensures.read

pub returns-else-is_output-clause-answers : goal.returns-else-is_output-clause-answers
returns-else-is_output-clause-answers g c = λ server room.
    c.finish_read.ensures.answers server (room_after _ _ _ _ _ _ _ _ c.read_at-took.ensures.read c.read_at-took.ensures.capacity room)

pub returns-then-is_output-clause-served : goal.returns-then-is_output-clause-served
returns-then-is_output-clause-served g c =
    finished _ _ _ _ _ _ _
    (serves_unread _ _ c.args.device.now c.args.asked c.in-Some.dev c.unknown_refusal-errno.result (search rules)
    (sym c.is_output.ensures ∙ c.if-is_output.true) c.unknown_refusal-errno.ensures.one c.unknown_refusal-errno.ensures.told)
    c.finish-then-is_output.ensures.done c.finish-then-is_output.ensures.text c.finish-then-is_output.ensures.allowed
    (unread_answer c.args.device.now c.args.asked c.args.manner c.unknown_refusal-errno.result c.unknown_refusal-errno.ensures.one)
