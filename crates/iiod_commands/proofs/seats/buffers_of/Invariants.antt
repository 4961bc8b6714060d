use Rattle.std.proofs.Common.{◌≡◌, drop}
use Rattle.iiod_commands.specs.Client.{buffers_of}
use Rattle.iiod_commands.proofs.seats.buffers_of.Given as goal

abbrev pub invariant-loop-b : goal.invariant-loop-b
invariant-loop-b l = buffers_of l.dev (drop l.b-index l.buffers) ≡ buffers_of l.dev l.buffers
