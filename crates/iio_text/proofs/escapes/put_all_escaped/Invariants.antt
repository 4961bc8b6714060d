use Rattle.std.proofs.Common.{◌≡◌, ◌≤◌, ◌*◌, ◌-◌, length, take}
use Rattle.iio_text.specs.Escape.{escaped}
use Rattle.iio_text.proofs.escapes.put_all_escaped.Given as goal

abbrev pub invariant-loop-place : goal.invariant-loop-place
invariant-loop-place l = record {
  inside : l.place ≤ length l.bytes;
  within : l.len ≤ 4 * l.place;
  text : take l.len l.room ≡ escaped (take l.place l.bytes);
}

abbrev pub decreases-loop-place : goal.decreases-loop-place
decreases-loop-place l = length l.bytes - l.place
