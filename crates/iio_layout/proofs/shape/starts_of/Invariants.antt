use Rattle.std.proofs.Common.{◌≡◌, ℕ, ◌*◌, ◌<◌, ◌≤◌, length, slice_index, sum_by, take}
use Rattle.iio_layout.proofs.shape.starts_of.Given as goal

abbrev pub invariant-loop-c : goal.invariant-loop-c
invariant-loop-c l = record {
  width : l.width ≡ sum_by (λ channel. channel.ty.repeat) (take l.c l.channels);
  small : l.width ≤ 256 * l.c;
  room : length l.starts ≡ 64;
  starts : (k : ℕ) → k < l.c → slice_index l.starts k ≡ sum_by (λ channel. channel.ty.repeat) (take k l.channels);
}
