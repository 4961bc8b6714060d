use Rattle.std.proofs.Common.{◌≡◌, ℕ, ◌+◌, ◌≤◌, List, ◌++◌, length, map, vec_capacity, option_map}
use Rattle.iio_text.specs.Words.{words_of, is_space}
use Rattle.iio_desc.specs.DeviceLines.{masks_of}
use Rattle.iio_desc.proofs.device_builder.read_masks.Given as goal

abbrev pub invariant-loop-word : goal.invariant-loop-word
invariant-loop-word l = record {
  told : masks_of l.channels l.count (words_of is_space l.fn.words)
      ≡ option_map (λ (ms : List ℕ). map (λ mask. mask.bits) l.masks.items ++ ms) (masks_of l.channels l.count (words_of is_space l.rest));
  room : length l.masks.items + length (words_of is_space l.rest) ≤ vec_capacity l.masks;
}

abbrev pub decreases-loop-word : goal.decreases-loop-word
decreases-loop-word l = length l.rest
