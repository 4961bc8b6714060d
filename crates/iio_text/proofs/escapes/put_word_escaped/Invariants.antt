use Rattle.std.proofs.Common.{◌≡◌, ◌≤◌, ◌*◌, take}
use Rattle.std.specs.Int.{w64, to_le_bytes}
use Rattle.iio_text.specs.Escape.{escaped}
use Rattle.iio_text.proofs.escapes.put_word_escaped.Given as goal

abbrev pub invariant-loop-i : goal.invariant-loop-i
invariant-loop-i l = record {
  within : l.len ≤ 4 * l.i;
  text : take l.len l.room ≡ escaped (take l.i (to_le_bytes w64 l.word));
}
