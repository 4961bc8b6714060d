use Rattle.std.proofs.Common.{ap, arith, length, List, ℕ}
use Rattle.iiod_commands.proofs.AnswerLaws.{prints_no, prints_short, prints_text}
use Rattle.iiod_commands.proofs.answers.push_answer.Goals as goal

pub returns-in-Err-clause-prints : goal.returns-in-Err-clause-prints
returns-in-Err-clause-prints g c = rw c.in-Err.is (prints_no _ _ c.in-Err.no _ _ _ c.push_no.ensures.text c.push_no.ensures.allowed)

pub returns-in-Err-clause-answers : goal.returns-in-Err-clause-answers
returns-in-Err-clause-answers g c server = c.push_no.ensures.answers server (omega (arith, c.requires.room))

pub returns-in-Ok-push_text-clause-prints : goal.returns-in-Ok-push_text-clause-prints
returns-in-Ok-push_text-clause-prints g c = rw c.in-Ok.is (prints_text _ _ c.in-Ok.answer _ _ c.in-Ok-push_text.ensures.text)

pub returns-in-Err-push_text-clause-prints : goal.returns-in-Err-push_text-clause-prints
returns-in-Err-push_text-clause-prints g c =
    rw c.in-Ok.is
    (prints_short _ _ c.in-Ok.answer _ _ _ _ c.in-Err-push_text.ensures.room c.in-Err-push_text.ensures.text c.push_no-in-Err-push_text.ensures.text
    c.push_no-in-Err-push_text.ensures.allowed)

pub returns-in-Err-push_text-clause-answers : goal.returns-in-Err-push_text-clause-answers
returns-in-Err-push_text-clause-answers g c server =
    let same = ap (λ (xs : List ℕ). length xs) c.in-Err-push_text.ensures.text in
    c.push_no-in-Err-push_text.ensures.answers server (omega (arith, c.requires.room, same, c.push_text.ensures.capacity))
