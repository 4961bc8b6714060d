use Rattle.std.proofs.Common.{◌≡◌, take}
use Rattle.iio_trigger.specs.Trigger.{entries_at}
use Rattle.iio_trigger.proofs.places.add_entries.Given as goal

abbrev pub invariant-loop-place : goal.invariant-loop-place
invariant-loop-place l = l.entries.items ≡ entries_at l.t (take l.place-index l.places)
