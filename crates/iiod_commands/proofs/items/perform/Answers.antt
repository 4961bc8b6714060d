use Rattle.std.proofs.Common.{Ok}
use Rattle.iiod_grammar.specs.View.{command_view}
use Rattle.iiod_commands.proofs.AnswerLaws.{at_once_answer, performs, performs_short}
use Rattle.iiod_commands.proofs.items.perform.Goals as goal

pub returns-then-is_err-clause-served : goal.returns-then-is_err-clause-served
returns-then-is_err-clause-served g c =
    performs_short _ _ _ (command_view c.args.command.now) _ _ _ c.requires.at_once (rw c.reserve.ensures.items at c.push_no.ensures.text)
    c.push_no.ensures.allowed

pub returns-clause-served : goal.returns-clause-served
returns-clause-served g c =
    performs _ _ _ _ _ c.answer_to-answer.result _ (at_once_answer _ (Ok (command_view c.args.command.now)) c.requires.at_once)
    c.answer_to-answer.ensures.served
    (rw (c.answer_to-answer.ensures.kept, c.reserve.ensures.items) at c.push_answer.ensures.prints)

pub returns-clause-answers : goal.returns-clause-answers
returns-clause-answers g c server room = c.push_answer.ensures.answers server
