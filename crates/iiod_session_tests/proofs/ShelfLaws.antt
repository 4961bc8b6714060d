-- Scans that came one after another.
use Rattle.std.proofs.Common.{◌≡◌, ℕ, List, ◌++◌, length, option_map}
use Rattle.iiod_reply.specs.Reply.{joined_scans}
use Rattle.iiod_commands.specs.Seat.{SeatRecord, after_scans}

-- that many scans came: their bytes were appended, and the seat records them
pub record Came (count : ℕ) (old new : SeatRecord) (before after : List ℕ) : Type 0 where
  pub scans : List (List ℕ)
  pub many : length scans ≡ count
  pub told : new ≡ record old { trace = option_map (after_scans scans) old.trace }
  pub bytes : after ≡ before ++ joined_scans scans
