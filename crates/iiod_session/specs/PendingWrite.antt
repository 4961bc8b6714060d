-- The command that isn't done yet, as a session keeps it: a WRITE or WRITEBUF whose payload is being received, or a READBUF
-- that waits.
use Rattle.std.specs.Prelude.{ℕ, Bool, List, Option, Some, None, if◌then◌else◌, option_map}
use Rattle.iiod_grammar.specs.Command.{Place, Target, AtDevice, AtBuffer, AtDebug, AtInput, AtOutput}
use Rattle.iiod_grammar.specs.Stream.{Pending, OfWrite, OfWriteBuf}
use Rattle.iiod_session.specs.declared.pending_write.PlaceKind.{PlaceKind}
use Rattle.iiod_session.specs.declared.pending_write.PlaceKind.TheVariants.{Device, Buffer, Debug, Input, Output}

-- the words of a WRITE, or those of a READBUF; of a WRITEBUF only the device
pub record PendingRecord : Type 0 where
  pub device : List ℕ
  pub target : Option Target
  pub is_scans : Bool
  pub asked : ℕ

-- the command whose payload is being received
abbrev pub pending_of : PendingRecord → Pending
pending_of x = if x.is_scans then OfWriteBuf x.device else OfWrite x.device x.target

-- a place by its kind, and by its channel if it has one
abbrev pub place_by : PlaceKind → (channel : List ℕ) → Place
place_by Device channel = AtDevice
place_by Buffer channel = AtBuffer
place_by Debug channel = AtDebug
place_by Input channel = AtInput channel
place_by Output channel = AtOutput channel

-- a target by its parts
abbrev pub target_of_parts : Option PlaceKind → (channel : List ℕ) → (has_attribute : Bool) → (attribute : List ℕ) → Option Target
target_of_parts kind channel has_attribute attribute = option_map (λ k. (place_by k channel, if has_attribute then Some attribute else None)) kind
