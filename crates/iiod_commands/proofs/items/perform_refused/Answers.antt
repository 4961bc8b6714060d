use Rattle.iiod_commands.proofs.AnswerLaws.{empty_performs, has_word, serves_refused}
use Rattle.iiod_commands.proofs.ServeLaws.{finished}
use Rattle.iiod_commands.proofs.items.perform_refused.Goals as goal

pub returns-in-Empty-clause-served : goal.returns-in-Empty-clause-served
returns-in-Empty-clause-served g c = rw c.in-Empty.is (empty_performs _ _ _)

pub returns-in-Unknown-clause-served : goal.returns-in-Unknown-clause-served
returns-in-Unknown-clause-served g c =
    finished _ _ _ _ _ _ _ (serves_refused _ _ c.args.why (has_word c.args.why c.in-Unknown.is)) c.finish.ensures.done c.finish.ensures.text
    c.finish.ensures.allowed tt
