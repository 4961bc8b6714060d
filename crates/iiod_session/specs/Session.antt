-- A session as contracts see it.
use Rattle.std.specs.Prelude.{◌≡◌, ℕ, false, drop, List, [], Some, Result, Ok}
use Rattle.iio_text.specs.declared.errors.Errno.TheVariants.{E2BIG}
use Rattle.iiod_grammar.specs.declared.command.Refused.{Refused}
use Rattle.iiod_grammar.specs.declared.lines.Ready.{Ready}
use Rattle.iiod_grammar.specs.declared.lines.Ready.TheVariants.{More, Line, Payload, TooLong}
use Rattle.iiod_grammar.specs.Command.{Command, Exit, ReadBuf, Write, WriteBuf, command_of}
use Rattle.iiod_grammar.specs.Lines.{LinesRecord, after_piece}
use Rattle.iiod_grammar.specs.Scans.{scanner_at}
use Rattle.iiod_grammar.specs.Stream.{AtEnd, InLine, Scanned, with_payload, after_line, ended_by, no_item, one_item}
use Rattle.iiod_commands.specs.declared.client.Client.{Client}
use Rattle.iiod_session.specs.declared.going.Going.{Going}
use Rattle.iiod_session.specs.declared.going.Going.TheVariants.{On, Waits, Ended}
use Rattle.iiod_commands.specs.declared.manner.Manner.{Manner}
use Rattle.iiod_session.specs.PendingWrite.{PendingRecord, pending_of}

-- the manner, what the connection has, and its stream: the items that are whole and not answered yet, and where the stream
-- stands after all bytes received
pub record SessionRecord (S : Type 0) : Type 0 where
  pub manner : Manner
  pub client : Client S
  pub stream : Scanned

-- ---- the stream by the session's fields

-- where the stream stands: in a line or in the payload of the command that is kept; before a READBUF that waits, which is the
-- last piece; or at its end
abbrev pub stream_by : Going → LinesRecord → (pending : PendingRecord) → Scanned
stream_by On lines pending = scanner_at lines (pending_of pending)
stream_by (Waits dev) lines pending = after_line lines.piece
stream_by Ended lines pending = no_item AtEnd

-- a line other than an EXIT, WRITE or WRITEBUF: it is an item by itself
abbrev pub IsPlain : Result Command Refused → Type 0
IsPlain (Ok Exit) = ⊥
IsPlain (Ok (Write device target count)) = ⊥
IsPlain (Ok (WriteBuf device count)) = ⊥
IsPlain said = Unit {0}

-- further lines can be taken, or the last piece is the line of the READBUF that is kept
abbrev pub IsReady : Going → LinesRecord → (pending : PendingRecord) → Type 0
IsReady On lines pending = lines.overlong ≡ false
IsReady (Waits dev) lines pending = (lines ≡ after_piece lines.piece) × (command_of lines.piece ≡ Ok (ReadBuf pending.device pending.asked))
IsReady Ended lines pending = Unit {0}

-- the items that a feed of `Lines` completed
abbrev pub piece_by : Ready → LinesRecord → (pending : PendingRecord) → Scanned
piece_by More lines pending = stream_by On lines pending
piece_by Line lines pending = after_line lines.piece
piece_by Payload lines pending = one_item (with_payload (pending_of pending) lines.piece)
piece_by TooLong lines pending = ended_by (Some E2BIG)

-- a whole piece, after which nothing has begun; nothing is said if the line is too long
abbrev pub IsWhole : Ready → LinesRecord → Type 0
IsWhole TooLong lines = Unit {0}
IsWhole More lines = ⊥
IsWhole ready lines = lines ≡ after_piece lines.piece

-- ---- bytes that were kept

-- the bytes that wait after a READBUF that waits: those after the first `taken`
abbrev pub unread_of : Going → ℕ → List ℕ → List ℕ
unread_of (Waits dev) taken bytes = drop taken bytes
unread_of going taken bytes = []

-- bytes are kept only after a READBUF that waits
abbrev pub IsKept : Going → LinesRecord → (pending : PendingRecord) → (left : List ℕ) → Type 0
IsKept On lines pending left = IsReady On lines pending × (left ≡ [])
IsKept (Waits dev) lines pending left = IsReady (Waits dev) lines pending
IsKept Ended lines pending left = Unit {0}

-- ---- a new session

pub record IsFresh {S : Type 0} (who : ℕ) (manner : Manner) (s : SessionRecord S) : Type 0 where
  pub served : s.manner ≡ manner
  pub number : s.client.who ≡ who
  pub seats : s.client.held.items ≡ []
  pub buffers : s.client.buffers.items ≡ []
  pub holdings : s.client.holdings.items ≡ []
  pub stream : s.stream ≡ no_item (InLine [])
