use Rattle.std.proofs.Common.{option_map, refl}
use Rattle.iiod_grammar.specs.Stream.{Written}
use Rattle.iiod_grammar.specs.View.{target_view}
use Rattle.iiod_commands.specs.Client.{client_of}
use Rattle.iiod_commands.proofs.AnswerLaws.{performed, serves_short, short_written}
use Rattle.iiod_commands.proofs.ServeLaws.{finished}
use Rattle.iiod_commands.proofs.items.perform_written.Goals as goal

pub returns-then-is_err-clause-served : goal.returns-then-is_err-clause-served
returns-then-is_err-clause-served g c =
    let device = c.args.device.now in
    let target = option_map target_view c.args.target in
    let payload = c.args.payload.now in
    let short = short_written _ (client_of g.I.Iio.seen c.args.client.now) device target payload in
    finished _ _ _ _ _ _ _
    (serves_short _ _ (Written device target payload) short (refl, refl))
    c.finish.ensures.done (rw c.reserve.ensures.items at c.finish.ensures.text) c.finish.ensures.allowed tt

pub returns-clause-served : goal.returns-clause-served
returns-clause-served g c =
    performed _ _ _ _ _ c.write_attribute-answer.result (λ reply. tt) c.write_attribute-answer.ensures.served
    (rw (c.write_attribute-answer.ensures.kept, c.reserve.ensures.items) at c.in_ok-push_answer.ensures.prints)
