use Rattle.std.proofs.Common.{◌≡◌, ◌≤◌, ◌+◌, ◌-◌, ◌*◌, ◌++◌, take, length, vec_capacity}
use Rattle.hex.specs.Hex.{encode_lower}
use Rattle.iio_text.proofs.appending.push_hex.Given as goal

abbrev pub invariant-loop-byte : goal.invariant-loop-byte
invariant-loop-byte l = record {
  items : l.out.items ≡ l.fn.out.items ++ encode_lower (take l.byte-index l.bytes);
  room : length l.out.items + 2 * (length l.bytes - l.byte-index) ≤ vec_capacity l.out;
}
