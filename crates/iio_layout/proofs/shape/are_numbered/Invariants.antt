use Rattle.std.proofs.Common.{◌≡◌, ℕ, ◌<◌, get_or}
use Rattle.iio_layout.specs.declared.channel.Channel.{Channel}
use Rattle.iio_layout.specs.declared.channel.Suffix.TheVariants.{Number}
use Rattle.iio_layout.proofs.shape.are_numbered.Given as goal

abbrev pub invariant-loop-c : goal.invariant-loop-c
invariant-loop-c l = (k : ℕ) (d : Channel) → k < l.c → (get_or l.channels k d).suffix ≡ Number k
