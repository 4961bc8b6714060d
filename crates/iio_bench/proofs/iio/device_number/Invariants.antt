use Rattle.std.proofs.Common.{◌≡◌, ℕ, ◌<◌, false, get_or}
use Rattle.std.specs.Str.{bytes_eq}
use Rattle.iio_kinds.specs.Station.{any_front}
use Rattle.iio_bench.proofs.iio.device_number.Given as goal

abbrev pub invariant-loop-i : goal.invariant-loop-i
invariant-loop-i g l = (k : ℕ) (d : _) → k < l.i → bytes_eq (any_front (get_or l.devices k d)).name l.name ≡ false
