-- A line that is sent, and its answer. Only private functions cite this.
use Rattle.std.specs.Prelude.{◌≡◌, ◌⊎◌, ℕ, ◌/◌, List, [], Result, Ok, Err, ⊤, Some, None, length}
use Rattle.iiod_client.specs.declared.client_end.ClientEnd.{ClientEnd}
use Rattle.iiod_client.specs.declared.client_end.ClientEnd.TheVariants.{Done, Refused, LinkFault, WriteFault, Memory, Malformed, Cut}
use Rattle.iiod_client.specs.Line.{zero_line, refusal_of}
use Rattle.iiod_client.specs.Answer.{IsAnswer}
use Rattle.iiod_client.specs.Ask.{Wanted, batch, question, size_for, readbuf_line}
use Rattle.iiod_client.specs.Awaited.{Awaited, Scans, IsAccepted, IsRefused, IsWrong, IsUnfinished}
use Rattle.iiod_client.specs.Point.{Point, Goes, Stops, Heard, IsAtEnd}
use Rattle.iiod_client.specs.ClientEnd.{IsWhole, EndsRefused, EndsMalformed, EndsCut, EndsEarly, Faults}
use Rattle.iiod_client.specs.Printed.{scan_lines}
use Rattle.iiod_client.specs.Talk.{Read, Closing, IsStage, heard_of, sent_for, printed_for}

-- a line was sent, and the exchange failed before its answer was whole
abbrev pub Fails : Awaited → (line : List ℕ) → ClientEnd → (a b : Point) → Type 0
Fails w line Done a b = ⊥
Fails w line (Refused n) a b = (text : List ℕ) × IsRefused w n text × Goes a text line [] b
Fails w line Malformed a b = (text : List ℕ) × IsWrong w text × Goes a text line [] b
Fails w line Cut a b = (text : List ℕ) × IsUnfinished w text × Goes a text line [] b × IsAtEnd b
Fails w line LinkFault a b = Stops a [] line [] b
Fails w line WriteFault a b = ⊥
Fails w line Memory a b = Stops a [] line [] b

-- a line was sent, and this is its answer's data, if it came
abbrev pub Exchanges : {A : Type 0} → Awaited → (line body : List ℕ) → Result A ClientEnd → (a b : Point) → Type 0
Exchanges w line body (Ok done) a b = (text : List ℕ) × IsAccepted w text body × Goes a text line [] b
Exchanges w line body (Err end) a b = Fails w line end a b

-- an answer was heard, and these are its data bytes; or it failed to come
abbrev pub Hears : Awaited → (body : List ℕ) → Result ⊤ ClientEnd → (a b : Point) → Type 0
Hears w body (Ok done) a b = (text : List ℕ) × IsAccepted w text body × Heard a text b
Hears w body (Err Done) a b = ⊥
Hears w body (Err (Refused n)) a b = (text : List ℕ) × IsRefused w n text × Heard a text b
Hears w body (Err Malformed) a b = (text : List ℕ) × IsWrong w text × Heard a text b
Hears w body (Err Cut) a b = (text : List ℕ) × IsUnfinished w text × Heard a text b × IsAtEnd b
Hears w body (Err LinkFault) a b = Unit {0}
Hears w body (Err WriteFault) a b = ⊥
Hears w body (Err Memory) a b = ⊥

-- the ends of a link that gives no byte any more
abbrev pub IsLinkEnd : ClientEnd → Point → Type 0
IsLinkEnd Cut b = IsAtEnd b
IsLinkEnd LinkFault b = Unit {0}
IsLinkEnd end b = ⊥

-- the meaning of a plain answer's line
abbrev pub SaysPlain : List ℕ → Result ⊤ ClientEnd → Type 0
SaysPlain line (Ok done) = line ≡ zero_line
SaysPlain line (Err (Refused n)) = refusal_of line ≡ Some n
SaysPlain line (Err Malformed) = (line ≡ zero_line → ⊥) × (refusal_of line ≡ None)
SaysPlain line (Err end) = ⊥

-- after `got` scans further scans were asked for, and the `more` scans of the answer were printed; or that failed
abbrev pub Reads : Wanted → (got : ℕ) → Result ℕ ClientEnd → (a b : Point) → Type 0
Reads w got (Ok more) a b =
    (text : List ℕ) × (body : List ℕ) × IsAnswer (question w got) text body × (more ≡ length body / size_for w)
    × Goes a text (readbuf_line w (batch w got)) (scan_lines w.shape w.mask body) b
Reads w got (Err WriteFault) a b =
    (text : List ℕ) × (body : List ℕ) × IsAnswer (question w got) text body
    × Stops a text (readbuf_line w (batch w got)) (scan_lines w.shape w.mask body) b
Reads w got (Err Memory) a b =
    Stops a [] (readbuf_line w (batch w got)) [] b
    ⊎ ((text : List ℕ) × (body : List ℕ) × IsAnswer (question w got) text body
    × Stops a text (readbuf_line w (batch w got)) (scan_lines w.shape w.mask body) b)
Reads w got (Err end) a b = Fails (Scans (question w got)) (readbuf_line w (batch w got)) end a b

-- how a talk failed, before the refusal is printed
abbrev pub Breaks : Wanted → ClientEnd → (a b : Point) → Type 0
Breaks w Done a b = ⊥
Breaks w (Refused n) a b = EndsRefused w n [] a b
Breaks w Malformed a b = EndsMalformed w a b
Breaks w Cut a b = EndsCut w a b
Breaks w LinkFault a b = EndsEarly w a b
Breaks w WriteFault a b = EndsEarly w a b
Breaks w Memory a b = EndsEarly w a b

-- the faults of a call that may fail
abbrev pub FaultsOf : {A : Type 0} → Result A ClientEnd → (link link' output output' : ℕ) → Type 0
FaultsOf (Ok x) link link' output output' = (link' ≡ link) × (output' ≡ output)
FaultsOf (Err end) link link' output output' = Faults end link link' output output'

-- all wanted scans of the opened device were read, or the reading failed
abbrev pub ReadsAll : {A : Type 0} → Wanted → Result A ClientEnd → (a b : Point) → Type 0
ReadsAll w (Ok done) a b = (reads : List Read) × IsStage w (Closing reads) × Goes a (heard_of reads) (sent_for w reads) (printed_for w reads) b
ReadsAll w (Err end) a b = Breaks w end a b

-- a talk came to its end, or it failed
abbrev pub BreaksOf : {A : Type 0} → Wanted → Result A ClientEnd → (a b : Point) → Type 0
BreaksOf w (Ok done) a b = IsWhole w a b
BreaksOf w (Err end) a b = Breaks w end a b

-- the ends of a reading that was refused
abbrev pub Refuses : ClientEnd → ℕ → Type 0
Refuses (Refused k) n = k ≡ n
Refuses WriteFault n = Unit {0}
Refuses Memory n = Unit {0}
Refuses end n = ⊥
