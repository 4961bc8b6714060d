use Rattle.std.proofs.Common.{◌≡◌, ◌+◌, drop}
use Rattle.std.specs.List.{position_or_len}
use Rattle.iio_text.specs.Fixed.{is_point}
use Rattle.iio_text.proofs.decimals.point_place.Given as goal

abbrev pub invariant-loop-i : goal.invariant-loop-i
invariant-loop-i l = position_or_len is_point l.text ≡ l.i + position_or_len is_point (drop l.i l.text)
