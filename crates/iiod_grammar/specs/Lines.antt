-- The pieces of a stream, in whatever parts its bytes come: lines, and payloads if one is wanted. (libiio 0.25's iiod; the
-- limits and the CRs before an LF are this project's own.)
use Rattle.std.specs.Prelude.{ℕ, ◌+◌, ◌-◌, ◌==◌, ◌&&◌, nat_lt, nat_le, Bool, true, false, if◌then◌else◌, List, [], ◌++◌, length, take, Option, Some, None}
use Rattle.std.specs.List.{position_or_len}
use Rattle.iiod_grammar.specs.declared.lines.TheConstants.{MAX_LINE, MAX_PAYLOAD}
use Rattle.iiod_grammar.specs.declared.lines.Ready.{Ready}
use Rattle.iiod_grammar.specs.declared.lines.Ready.TheVariants.{More, Line, Payload, TooLong}
use Rattle.iiod_grammar.specs.Command.{without_returns}

abbrev pub is_lf : ℕ → Bool
is_lf b = b == 10

-- the first piece of bytes
pub data Cut : Type 0 where
  -- no piece is whole yet
  NotYet : Cut
  -- a line, and the number of bytes that it takes with its LF and the CRs before it
  WholeLine : (line : List ℕ) (size : ℕ) → Cut
  WholePayload : (payload : List ℕ) → Cut
  -- a line that is too long
  Overlong : Cut

-- the first piece of all bytes since the piece before: a payload of the wanted number of bytes, if one is wanted; otherwise a
-- line
abbrev pub cut : Option ℕ → List ℕ → Cut
cut (Some count) bytes = if nat_lt (length bytes) count then NotYet else WholePayload (take count bytes)
cut None bytes =
    let end = position_or_len is_lf bytes in
    if nat_lt MAX_LINE end then Overlong
    else (if nat_lt end (length bytes) then WholeLine (without_returns (take end bytes)) (end + 1) else NotYet)

-- the bytes of the piece that isn't whole; the number of bytes of the payload that is wanted next; the last piece, if one is
-- whole; and whether a line was too long
pub record LinesRecord : Type 0 where
  pub begun : List ℕ
  pub wanted : Option ℕ
  pub piece : List ℕ
  pub overlong : Bool

abbrev pub new_lines : LinesRecord
new_lines = record { begun = []; wanted = None; piece = []; overlong = false }

-- a whole piece, after which a line begins
abbrev pub after_piece : List ℕ → LinesRecord
after_piece piece = record new_lines { piece = piece }

-- the result of further bytes: how many are taken, what is ready, and what is kept
pub record Fed : Type 0 where
  pub taken : ℕ
  pub ready : Ready
  pub lines : LinesRecord

-- a piece of `size` bytes, of which the begun ones had been taken
abbrev pub feed_of_cut : LinesRecord → List ℕ → Cut → Fed
feed_of_cut x bytes NotYet = record { taken = length bytes; ready = More; lines = record x { begun = x.begun ++ bytes; piece = [] } }
feed_of_cut x bytes (WholeLine line size) = record { taken = size - length x.begun; ready = Line; lines = after_piece line }
feed_of_cut x bytes (WholePayload payload) = record { taken = length payload - length x.begun; ready = Payload; lines = after_piece payload }
feed_of_cut x bytes Overlong = record { taken = 0; ready = TooLong; lines = record x { piece = []; overlong = true } }

-- the bytes begun and the further ones are looked at together: it doesn't matter how they were cut. After a line that is too
-- long no bytes are looked at.
abbrev pub feed_of : LinesRecord → List ℕ → Fed
feed_of x bytes = if x.overlong then record { taken = 0; ready = TooLong; lines = x } else feed_of_cut x bytes (cut x.wanted (x.begun ++ bytes))

-- bytes that are the beginning of a piece but not a whole one; a payload of no bytes may stand there whole
abbrev pub is_begun : Option ℕ → List ℕ → Bool
is_begun (Some count) begun = nat_le (length begun) count && nat_le count MAX_PAYLOAD
is_begun None begun = (position_or_len is_lf begun == length begun) && nat_le (length begun) MAX_LINE
