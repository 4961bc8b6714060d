use Rattle.std.proofs.Common.{◌≡◌, ℤ, List, ◌++◌, length, take, vec_len, option_map}
use Rattle.iio_text.specs.Words.{words_of, is_space}
use Rattle.iio_desc.specs.DeviceLines.{ints_of}
use Rattle.iio_desc.proofs.device_builder.push_ints.Given as goal

abbrev pub invariant-loop-word : goal.invariant-loop-word
invariant-loop-word l = record {
  told : option_map (λ (vs : List ℤ). l.fn.ints.items ++ vs) (ints_of (words_of is_space l.fn.words))
      ≡ option_map (λ (vs : List ℤ). l.ints.items ++ vs) (ints_of (words_of is_space l.rest));
  before : take (vec_len l.fn.ints) l.ints.items ≡ l.fn.ints.items;
}

abbrev pub decreases-loop-word : goal.decreases-loop-word
decreases-loop-word l = length l.rest
