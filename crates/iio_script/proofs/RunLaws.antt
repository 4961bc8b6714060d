-- What a run has written at its end.
use Rattle.std.proofs.Common.{◌≡◌, ℕ, ◌+◌, List, [], ◌++◌, Option, Ok, Err, refl, arith, rules}
use Rattle.std.proofs.lemmas.Grind.{common_steps}
use Rattle.iio_io.specs.Bytes.{TakesAtMost}
use Rattle.iio_history.specs.Input.{input_limit}
use Rattle.iio_history.specs.Outcome.{Outcome}
use Rattle.iio_script.specs.declared.status.Status.{Status}
use Rattle.iio_script.specs.declared.status.Status.TheVariants.{Memory, WriteFault}
use Rattle.iio_script.specs.Ends.{Finishes, Sends}
use Rattle.iio_script.specs.LineReader.{Follows, Hand, IsHand}
use Rattle.iio_script.specs.Plays.{AnswersScript, EndsScript, EndsSteps, EndsWriting, IsOver, Prints, Start, WritesText}
use Rattle.iio_script.proofs.AnswerLaws.{answers_more}
use Rattle.iio_script.proofs.EndLaws.{sends_more}
use Rattle.iio_script.proofs.FollowLaws.{takes_at_most}

-- ---- the end of a script

-- all that was kept was sent
sent_all : (first before after : Option (List ℕ)) (sent kept : List ℕ) → WritesText first before sent → Sends before after kept []
    → WritesText first after (sent ++ kept)
sent_all first before after sent kept writes sends = search (rules, sends_more)

pub script_written : (start : Start) (outcome : Outcome) (input : List ℕ) (status result : Status) (sent kept : List ℕ)
    (left w0 w1 w2 : Option (List ℕ))
    → WritesText w0 w1 sent → EndsSteps start outcome input (Ok status) sent kept left → EndsWriting status result w1 w2 kept
    → (more : List ℕ) × WritesText w0 w2 (sent ++ more) × EndsScript start outcome input result (sent ++ more) left
script_written start outcome input status result sent kept left w0 w1 w2 writes ends h1 = grind (arith, common_steps)

-- ---- an end before which nothing was printed

pub nothing_sent : (before : Option (List ℕ)) → WritesText before before []
nothing_sent before = search rules

prints_by : (outcome : Outcome) (status : Status) (text : List ℕ) → Finishes outcome status [] text → Prints outcome status text
prints_by outcome status text f = search rules

pub end_sent : (outcome : Outcome) (status : Status) (kept : List ℕ) (before after : Option (List ℕ)) → Finishes outcome status [] kept
    → Sends before after kept []
    → (text : List ℕ) × WritesText before after text × Prints outcome status text
end_sent outcome status kept before after f sends = (kept, sent_all before before after [] kept (nothing_sent before) sends, prints_by outcome status kept f)

pub end_failed : (outcome : Outcome) (status fault : Status) (kept : List ℕ) (before after : Option (List ℕ)) → Finishes outcome status [] kept
    → fault ≡ WriteFault
    → ((rest : List ℕ) × Sends before after kept rest) → (text : List ℕ) × WritesText before after text × Prints outcome fault text
end_failed outcome status fault kept before after f is h1 = search rules

pub end_none : (outcome : Outcome) (before : Option (List ℕ)) → (text : List ℕ) × WritesText before before text × Prints outcome Memory text
end_none outcome before = ([], nothing_sent before, record { rest = outcome.printed; parts = refl })

-- ---- a script, and how much it took

abbrev Whole : Start → Outcome → (input : List ℕ) → Status → (begin left before after : Option (List ℕ)) → Type 0
Whole start outcome input result begin left before after =
    (text : List ℕ) × WritesText before after text × EndsScript start outcome input result text left × TakesAtMost input (input_limit + 1) left
    × AnswersScript start input text begin left

pub whole_none : (start : Start) (outcome : Outcome) (input : List ℕ) (h : Hand) (left before : Option (List ℕ)) → IsHand h
    → Follows input start.front h left
    → Whole start outcome input Memory left left before before
whole_none start outcome input h left before is follows = search (rules, takes_at_most)

pub whole_written : (start : Start) (outcome : Outcome) (input : List ℕ) (status result : Status) (kept : List ℕ)
    (begin left w0 w1 w2 : Option (List ℕ))
    → ((sent : List ℕ) × WritesText w0 w1 sent × EndsSteps start outcome input (Ok status) sent kept left × TakesAtMost input (input_limit + 1) left
    × AnswersScript start input sent begin left)
    → EndsWriting status result w1 w2 kept → Whole start outcome input result begin left w0 w2
whole_written start outcome input status result kept begin left w0 w1 w2 ends writing =
    let written = script_written start outcome input status result ends.0 kept left w0 w1 w2 ends.1 ends.2 writing in
    (ends.0 ++ written.0, written.1, written.2, ends.3, answers_more start input ends.0 written.0 begin left ends.4)

pub whole_fault : (start : Start) (outcome : Outcome) (input : List ℕ) (status : Status) (kept : List ℕ)
    (begin left w0 w1 : Option (List ℕ))
    → ((sent : List ℕ) × WritesText w0 w1 sent × EndsSteps start outcome input (Err status) sent kept left × TakesAtMost input (input_limit + 1) left
    × AnswersScript start input sent begin left)
    → IsOver (Err status) → Whole start outcome input status begin left w0 w1
whole_fault start outcome input status kept begin left w0 w1 ends over = search rules
