-- A scan mask as the set of the places of its one bits: channel c is in the mask if bit c is 1. (Kernel:
-- driver-api/iio, `active_scan_mask`.)
use Rattle.std.specs.Prelude.{ℕ, ◌-◌, ◌^◌, ◌==◌, Bool, if◌then◌else◌, List, [], ◌∷◌, Option, Some, filter, find, bit_and, bit_or}
use Rattle.std.specs.Int.{bit_at}
use Rattle.std.specs.List.{range_with_len}

-- whether channel c is in the mask
abbrev pub has : ℕ → ℕ → Bool
has bits c = bit_at bits c == 1

-- the channels that are in either mask
abbrev pub union_of : ℕ → ℕ → ℕ
union_of bits other = bit_or bits other

-- whether each channel of the first mask is in the second
abbrev pub is_within : ℕ → ℕ → Bool
is_within bits other = bit_and bits other == bits

-- the channels that are in one of these masks
abbrev pub union_of_all : List ℕ → ℕ
union_of_all [] = 0
union_of_all (mask ∷ masks) = union_of mask (union_of_all masks)

-- the mask without channel c
abbrev pub without_channel : ℕ → ℕ → ℕ
without_channel bits c = if has bits c then bits - 2 ^ c else bits

-- the channels of a mask before channel n, in their order
abbrev pub channels_below : ℕ → ℕ → List ℕ
channels_below bits n = filter (λ c. has bits c) (range_with_len 0 n)

-- the channels of a mask, in their order
unfoldable pub channels_of : ℕ → List ℕ
channels_of bits = channels_below bits 64

-- the mask that is asked for if a device lists its masks: the first that contains what is wanted; if none are listed, what is
-- wanted itself (kernel: `iio_scan_mask_match`)
abbrev pub matching_mask : List ℕ → ℕ → Option ℕ
matching_mask [] wanted = Some wanted
matching_mask (m ∷ ms) wanted = find (λ bits. is_within wanted bits) (m ∷ ms)
