-- What a scan type says, its profile, and the values that it can carry.
use Rattle.std.specs.Prelude.{ℕ, ◌+◌, ◌-◌, ◌*◌, ◌/◌, ◌^◌, Bool, ◌==◌, ◌&&◌, ◌||◌, nat_le, IsTrue, ℤ, pos, neg_ℤ, ◌≤ℤ◌}
use Rattle.std.specs.Int.{int_min, int_max}
use Rattle.iio_scan_type.specs.declared.Sign.{Sign}
use Rattle.iio_scan_type.specs.declared.Sign.TheVariants.{Signed, Unsigned}
use Rattle.iio_scan_type.specs.declared.Endian.{Endian}
use Rattle.iio_scan_type.specs.declared.TheConstants.{MAX_CHANNEL_SIZE, MAX_REPEAT}

-- a scan type: sign, bits of the value, bits of its storage, places it is shifted to the left, elements, byte order
-- (kernel ABI, sysfs-bus-iio, `in_*_type`)
pub record Format : Type 0 where
  pub sign : Sign
  pub realbits : ℕ
  pub storagebits : ℕ
  pub shift : ℕ
  pub repeat : ℕ
  pub endian : Endian

-- the bytes of one element
abbrev pub element_size : Format → ℕ
element_size f = f.storagebits / 8

-- the bytes of a channel: all its elements (kernel ABI, sysfs-bus-iio)
abbrev pub size_of : Format → ℕ
size_of f = f.storagebits / 8 * f.repeat

-- the most bits of a value: each value is a signed number of 64 bits (this project's own)
abbrev pub max_realbits : Sign → ℕ
max_realbits Signed = 64
max_realbits Unsigned = 63

-- a storage of whole words
abbrev pub is_storage : ℕ → Bool
is_storage n = n == 8 || n == 16 || n == 32 || n == 64

-- a count of elements
abbrev pub is_repeat : ℕ → Bool
is_repeat n = n == 1 || n == 2 || n == 4 || n == MAX_REPEAT

-- the scan types that there are (this project's own profile)
abbrev pub in_profile : Format → Bool
in_profile f =
    is_storage f.storagebits && is_repeat f.repeat && nat_le (size_of f) MAX_CHANNEL_SIZE && nat_le 1 f.realbits
    && nat_le f.realbits (max_realbits f.sign)
    && nat_le (f.realbits + f.shift) f.storagebits

-- a type is one of these
abbrev pub IsInProfile : Format → Type 0
IsInProfile f = IsTrue (in_profile f)

-- the least value of `bits` bits
abbrev pub least_by : Sign → ℕ → ℤ
least_by Signed bits = neg_ℤ (pos (2 ^ (bits - 1)))
least_by Unsigned bits = pos 0

-- the greatest value of `bits` bits
abbrev pub greatest_by : Sign → ℕ → ℤ
greatest_by Signed bits = pos (2 ^ (bits - 1) - 1)
greatest_by Unsigned bits = pos (2 ^ bits - 1)

-- the ends of a type's range
abbrev pub least_of : Format → ℤ
least_of f = least_by f.sign f.realbits

abbrev pub greatest_of : Format → ℤ
greatest_of f = greatest_by f.sign f.realbits

-- the value lies in the type's range
abbrev pub IsInRange : Format → ℤ → Type 0
IsInRange f v = (least_of f ≤ℤ v) × (v ≤ℤ greatest_of f)

-- the value, or the nearer end of the range if it lies outside (this project's own)
abbrev pub saturated : Format → ℤ → ℤ
saturated f v = int_max (least_of f) (int_min v (greatest_of f))

-- the type of a timestamp, `s64/64>>0` (kernel, `IIO_CHAN_SOFT_TIMESTAMP`)
abbrev pub stamp_format : Endian → Format
stamp_format endian = record { sign = Signed; realbits = 64; storagebits = 64; shift = 0; repeat = 1; endian = endian }
