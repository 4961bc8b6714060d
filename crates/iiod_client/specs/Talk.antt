-- What a client and a server have said so far. (libiio 0.25's iiod: a line is sent, and its answer awaited before the next.)
use Rattle.std.specs.Prelude.{◌≡◌, ℕ, ◌+◌, ◌/◌, ◌<◌, List, [], ◌∷◌, ◌++◌, length}
use Rattle.iiod_client.specs.Line.{line_text, zero_line}
use Rattle.iiod_client.specs.Answer.{IsAnswer}
use Rattle.iiod_client.specs.Ask.{Wanted, batch, question, size_for, open_line, readbuf_line, close_line, exit_line}
use Rattle.iiod_client.specs.Awaited.{Awaited, Plain, Scans, Nothing}
use Rattle.iiod_client.specs.Printed.{scan_lines}

-- a whole answer to READBUF
pub record Read : Type 0 where
  pub text : List ℕ
  pub body : List ℕ

-- the number of scans that came with these answers, of which the last comes first
abbrev pub got_by : Wanted → List Read → ℕ
got_by w [] = 0
got_by w (a ∷ before) = got_by w before + length a.body / size_for w

-- each of them answers what was asked for then
abbrev pub AreReads : Wanted → List Read → Type 0
AreReads w [] = Unit {0}
AreReads w (a ∷ before) = AreReads w before × (got_by w before < w.scans) × IsAnswer (question w (got_by w before)) a.text a.body

-- what was heard: that the device was opened, and then these answers
abbrev pub heard_of : List Read → List ℕ
heard_of [] = line_text zero_line
heard_of (a ∷ before) = heard_of before ++ a.text

-- what was sent to get them
abbrev pub sent_for : Wanted → List Read → List ℕ
sent_for w [] = open_line w
sent_for w (a ∷ before) = sent_for w before ++ readbuf_line w (batch w (got_by w before))

-- what is printed for them
abbrev pub printed_for : Wanted → List Read → List ℕ
printed_for w [] = []
printed_for w (a ∷ before) = printed_for w before ++ scan_lines w.shape w.mask a.body

-- how far a client has come, by the line that it sends next or whose answer it awaits
pub data Stage : Type 0 where
  -- OPEN
  Opening : Stage
  -- a READBUF, after these answers
  Reading : (reads : List Read) → Stage
  -- CLOSE, after all wanted scans
  Closing : (reads : List Read) → Stage
  -- EXIT
  Leaving : (reads : List Read) → Stage

-- a stage that a client can reach
abbrev pub IsStage : Wanted → Stage → Type 0
IsStage w Opening = Unit {0}
IsStage w (Reading reads) = AreReads w reads × (got_by w reads < w.scans)
IsStage w (Closing reads) = AreReads w reads × (got_by w reads ≡ w.scans)
IsStage w (Leaving reads) = AreReads w reads × (got_by w reads ≡ w.scans)

-- all answers came
abbrev pub IsLeaving : Stage → Type 0
IsLeaving (Leaving reads) = Unit {0}
IsLeaving stage = ⊥

-- what was heard before the line's answer
abbrev pub heard_at : Stage → List ℕ
heard_at Opening = []
heard_at (Reading reads) = heard_of reads
heard_at (Closing reads) = heard_of reads
heard_at (Leaving reads) = heard_of reads ++ line_text zero_line

-- what was sent before the line
abbrev pub said_before : Wanted → Stage → List ℕ
said_before w Opening = []
said_before w (Reading reads) = sent_for w reads
said_before w (Closing reads) = sent_for w reads
said_before w (Leaving reads) = sent_for w reads ++ close_line w

-- the line of a stage
abbrev pub line_at : Wanted → Stage → List ℕ
line_at w Opening = open_line w
line_at w (Reading reads) = readbuf_line w (batch w (got_by w reads))
line_at w (Closing reads) = close_line w
line_at w (Leaving reads) = exit_line

-- what was sent, with that line
abbrev pub sent_at : Wanted → Stage → List ℕ
sent_at w stage = said_before w stage ++ line_at w stage

-- what was printed before that line
abbrev pub printed_at : Wanted → Stage → List ℕ
printed_at w Opening = []
printed_at w (Reading reads) = printed_for w reads
printed_at w (Closing reads) = printed_for w reads
printed_at w (Leaving reads) = printed_for w reads

-- the answer that is awaited after that line
abbrev pub awaits : Wanted → Stage → Awaited
awaits w Opening = Plain
awaits w (Reading reads) = Scans (question w (got_by w reads))
awaits w (Closing reads) = Plain
awaits w (Leaving reads) = Nothing
