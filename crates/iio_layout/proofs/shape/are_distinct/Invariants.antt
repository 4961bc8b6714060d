use Rattle.std.proofs.Common.{◌≡◌, ℕ, ◌<◌, false, get_or}
use Rattle.iio_layout.specs.Shape.{same_channel}
use Rattle.iio_layout.specs.declared.channel.Channel.{Channel}
use Rattle.iio_layout.proofs.shape.are_distinct.Given as goal

abbrev pub invariant-loop-c : goal.invariant-loop-c
invariant-loop-c l =
    (i j : ℕ) (d : Channel) → i < j → j < l.c → same_channel (get_or l.channels i d) (get_or l.channels j d) ≡ false
