-- How values stand in bytes, both ways.
use Rattle.std.specs.Prelude.{ℕ, ◌+◌, ◌-◌, ◌*◌, ◌/◌, ◌%◌, ◌^◌, List, [], ◌∷◌, ◌++◌, take, drop, reverse, ℤ, pos, negsuc, ◌-ℤ◌, nat_lt, if◌then◌else◌}
use Rattle.std.specs.Int.{bytes_low_first, bytes_high_first}
use Rattle.iio_scan_type.specs.declared.Sign.{Sign}
use Rattle.iio_scan_type.specs.declared.Sign.TheVariants.{Signed, Unsigned}
use Rattle.iio_scan_type.specs.declared.Endian.{Endian}
use Rattle.iio_scan_type.specs.declared.Endian.TheVariants.{Big, Little}
use Rattle.iio_scan_type.specs.Format.{Format, element_size}

-- the lowest bits of a value in two's complement: v mod 2 ^ bits
abbrev pub low_bits : ℕ → ℤ → ℕ
low_bits bits (pos n) = n % 2 ^ bits
low_bits bits (negsuc n) = 2 ^ bits - 1 - n % 2 ^ bits

-- a number in `size` bytes, in a byte order
abbrev pub number_bytes : Endian → ℕ → ℕ → List ℕ
number_bytes Little size n = bytes_low_first 0 size n
number_bytes Big size n = bytes_high_first size n

-- an element: (v mod 2 ^ realbits) * 2 ^ shift in the bytes of the storage, all other bits 0 (kernel ABI,
-- sysfs-bus-iio; that the other bits are 0 is this project's own)
abbrev pub element_bytes : Format → ℤ → List ℕ
element_bytes f v = number_bytes f.endian (element_size f) (low_bits f.realbits v * 2 ^ f.shift)

-- a channel: its elements, one after the other
abbrev pub channel_bytes : Format → List ℤ → List ℕ
channel_bytes f [] = []
channel_bytes f (v ∷ vs) = element_bytes f v ++ channel_bytes f vs

-- the number that bytes stand for, lowest first
abbrev pub low_first_number : List ℕ → ℕ
low_first_number [] = 0
low_first_number (b ∷ bs) = b + 256 * low_first_number bs

-- the number that bytes stand for, in a byte order
abbrev pub number_of : Endian → List ℕ → ℕ
number_of Little bytes = low_first_number bytes
number_of Big bytes = low_first_number (reverse bytes)

-- the value of `bits` bits, read in two's complement if it is signed
abbrev pub value_by : Sign → ℕ → ℕ → ℤ
value_by Unsigned bits n = pos n
value_by Signed bits n = if nat_lt n (2 ^ (bits - 1)) then pos n else (pos n -ℤ pos (2 ^ bits))

-- the value of an element whose storage has this number; the bits outside the shifted value say nothing
abbrev pub value_in : Format → ℕ → ℤ
value_in f n = value_by f.sign f.realbits (n / 2 ^ f.shift % 2 ^ f.realbits)

-- element k of a channel's bytes
abbrev pub element_at : Format → List ℕ → ℕ → List ℕ
element_at f bytes k = take (element_size f) (drop (k * element_size f) bytes)

-- the value of element k in a channel's bytes
abbrev pub value_at : Format → List ℕ → ℕ → ℤ
value_at f bytes k = value_in f (number_of f.endian (element_at f bytes k))
