-- The first draws from 1, by computation: the state, its upper bits, and the first channel's line.
use Rattle.std.proofs.Common.{◌≡◌, ◌/◌, ◌^◌, refl, codes}
use Rattle.std.specs.Fmt.{digits}
use Rattle.iio_gen.specs.Generator.{draw, next_state}
use Rattle.iio_gen.specs.Input.{channel_line}

first_state : next_state 1 ≡ 7806831264735756412
unfolding next_state
first_state = refl

upper_bits : 7806831264735756412 / 2 ^ 33 ≡ 908834774
upper_bits = refl

first_draw : (draw 6 1).0 ≡ 2
unfolding next_state
first_draw = refl

first_channel : (channel_line 0 1).0 ≡ codes "channel voltage0 le:u8/8>>0\n"
unfolding digits next_state
first_channel = refl
