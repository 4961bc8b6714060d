use Rattle.std.proofs.Common.{◌≡◌, ◌≤◌, ◌*◌, take}
use Rattle.iio_text.specs.Escape.{escaped}
use Rattle.iio_text.proofs.escapes.put_each_escaped.Given as goal

abbrev pub invariant-loop-byte : goal.invariant-loop-byte
invariant-loop-byte l = record {
  within : l.len ≤ 4 * l.byte-index;
  text : take l.len l.room ≡ escaped (take l.byte-index l.bytes);
}
