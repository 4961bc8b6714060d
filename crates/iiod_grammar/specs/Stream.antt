-- The items of what a connection sends: what each line says, a WRITE or WRITEBUF together with its payload, and at most one
-- end. A piece that isn't whole yet is not an item. (libiio 0.25's iiod; the limits are this project's own.)
use Rattle.std.specs.Prelude.{◌≡◌, ℕ, ◌==◌, nat_lt, List, [], ◌∷◌, ◌++◌, length, Option, Some, None, Result, Ok, if◌then◌else◌}
use Rattle.iio_text.specs.declared.errors.Errno.{Errno}
use Rattle.iio_text.specs.declared.errors.Errno.TheVariants.{E2BIG, EFBIG}
use Rattle.iiod_grammar.specs.declared.command.Refused.{Refused}
use Rattle.iiod_grammar.specs.declared.lines.TheConstants.{MAX_LINE, MAX_PAYLOAD}
use Rattle.iiod_grammar.specs.Command.{Target, Command, Exit, Write, WriteBuf, command_of}

pub data Item : Type 0 where
  -- what a line says, if it isn't an EXIT, WRITE or WRITEBUF
  Said : (line : Result Command Refused) → Item
  -- a WRITE and its payload
  Written : (device : List ℕ) (target : Option Target) (payload : List ℕ) → Item
  -- a WRITEBUF and its payload
  Streamed : (device : List ℕ) (payload : List ℕ) → Item
  -- the connection ends: by EXIT, or by a broken limit, which is answered by an error
  End : (error : Option Errno) → Item

-- the command whose payload is being received
pub data Pending : Type 0 where
  OfWrite : (device : List ℕ) (target : Option Target) → Pending
  OfWriteBuf : (device : List ℕ) → Pending

-- the command with its payload
abbrev pub with_payload : Pending → List ℕ → Item
with_payload (OfWrite device target) payload = Written device target payload
with_payload (OfWriteBuf device) payload = Streamed device payload

-- where a stream stands after the bytes received so far
pub data Scanner : Type 0 where
  -- in a line, of which these bytes were received
  InLine : (begun : List ℕ) → Scanner
  -- in a payload of `count` bytes, of which these were received
  InPayload : (pending : Pending) (count : ℕ) (begun : List ℕ) → Scanner
  -- at its end: further bytes mean nothing
  AtEnd : Scanner

-- the items that are whole, and where the stream then stands
pub record Scanned : Type 0 where
  pub items : List Item
  pub next : Scanner

abbrev pub no_item : Scanner → Scanned
no_item next = record { items = []; next = next }

-- an item, after which a new line begins
abbrev pub one_item : Item → Scanned
one_item item = record { items = item ∷ []; next = InLine [] }

abbrev pub ended_by : Option Errno → Scanned
ended_by error = record { items = End error ∷ []; next = AtEnd }

-- a payload of `count` bytes of which these were received
abbrev pub payload_after : Pending → ℕ → List ℕ → Scanned
payload_after pending count begun = if length begun == count then one_item (with_payload pending begun) else no_item (InPayload pending count begun)

-- a payload of `count` bytes begins, if it may have that many
abbrev pub payload_begun : Pending → ℕ → Scanned
payload_begun pending count = if nat_lt MAX_PAYLOAD count then ended_by (Some EFBIG) else payload_after pending count []

-- the items that a line makes
abbrev pub after_said : Result Command Refused → Scanned
after_said (Ok Exit) = ended_by None
after_said (Ok (Write device target count)) = payload_begun (OfWrite device target) count
after_said (Ok (WriteBuf device count)) = payload_begun (OfWriteBuf device) count
after_said said = one_item (Said said)

abbrev pub after_line : List ℕ → Scanned
after_line line = after_said (command_of line)

-- after one more byte
abbrev pub after_byte : Scanner → ℕ → Scanned
after_byte (InLine begun) b =
    if b == 10 then after_line begun
    else (if nat_lt (length begun) MAX_LINE then no_item (InLine (begun ++ b ∷ [])) else ended_by (Some E2BIG))
after_byte (InPayload pending count begun) b = payload_after pending count (begun ++ b ∷ [])
after_byte AtEnd b = no_item AtEnd

-- after further bytes
abbrev pub after_bytes : Scanner → List ℕ → Scanned
after_bytes s [] = no_item s
after_bytes s (b ∷ bs) =
    let one = after_byte s b in
    let more = after_bytes one.next bs in
    record { items = one.items ++ more.items; next = more.next }

-- the items that further bytes complete
abbrev pub items_from : Scanner → List ℕ → List Item
items_from s bytes = (after_bytes s bytes).items

-- where the stream stands after further bytes
abbrev pub scanner_after : Scanner → List ℕ → Scanner
scanner_after s bytes = (after_bytes s bytes).next

-- the items of a whole stream
abbrev pub items_of : List ℕ → List Item
items_of stream = items_from (InLine []) stream

-- where a whole stream stands
abbrev pub scanner_of : List ℕ → Scanner
scanner_of stream = scanner_after (InLine []) stream

-- a stream may be cut anywhere: its items are those of the bytes before the cut, followed by those of the bytes after it, from
-- where the first ones ended
abbrev pub ItemsCutAnywhere : Type 0
ItemsCutAnywhere = (s : Scanner) (before after : List ℕ) → items_from s (before ++ after) ≡ items_from s before ++ items_from (scanner_after s before) after

abbrev pub ScannerCutAnywhere : Type 0
ScannerCutAnywhere = (s : Scanner) (before after : List ℕ) → scanner_after s (before ++ after) ≡ scanner_after (scanner_after s before) after
