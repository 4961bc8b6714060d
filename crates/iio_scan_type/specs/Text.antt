-- The spellings of a scan type (kernel ABI, sysfs-bus-iio: `le:u12/16>>4`, `le:s32/32X2>>0`).
use Rattle.std.specs.Prelude.{◌≡◌, ℕ, ◌+◌, ◌-◌, ◌*◌, Bool, true, false, ◌==◌, ◌&&◌, nat_le, if◌then◌else◌, List, [], ◌∷◌, ◌++◌, codes, Option, Some, None, option_and_then, ◌⊎◌}
use Rattle.std.specs.Fmt.{decimal}
use Rattle.iio_scan_type.specs.declared.Sign.{Sign}
use Rattle.iio_scan_type.specs.declared.Sign.TheVariants.{Signed, Unsigned}
use Rattle.iio_scan_type.specs.declared.Endian.{Endian}
use Rattle.iio_scan_type.specs.declared.Endian.TheVariants.{Big, Little}
use Rattle.iio_scan_type.specs.Format.{Format, in_profile}

abbrev pub endian_text : Endian → List ℕ
endian_text Big = codes "be:"
endian_text Little = codes "le:"

abbrev pub sign_text : Sign → List ℕ
sign_text Signed = codes "s"
sign_text Unsigned = codes "u"

-- the repeat; a single element isn't written
abbrev pub repeat_text : ℕ → List ℕ
repeat_text n = if n == 1 then [] else codes "X" ++ decimal n

-- the spelling without the shift
abbrev pub short_text : Format → List ℕ
short_text f =
    endian_text f.endian ++ (sign_text f.sign ++ (decimal f.realbits ++ (codes "/" ++ (decimal f.storagebits ++ repeat_text f.repeat))))

-- the printed spelling
abbrev pub type_text : Format → List ℕ
type_text f = short_text f ++ (codes ">>" ++ decimal f.shift)

-- a text that is read as the type: the printed one, and with a shift of 0 also the one without it
abbrev pub IsTypeText : List ℕ → Format → Type 0
IsTypeText text f = (text ≡ type_text f) ⊎ ((f.shift ≡ 0) × (text ≡ short_text f))

-- ---- reading a text: each part gives what it read and the bytes after it

infixl 10 ◌>>=◌
abbrev pub ◌>>=◌ : {A B : Type 0} → Option A → (A → Option B) → Option B
o >>= f = option_and_then f o

-- the bytes after this one
abbrev pub after_byte : ℕ → List ℕ → Option (List ℕ)
after_byte c [] = None
after_byte c (b ∷ bs) = if b == c then Some bs else None

-- what this letter means, or what that one means
abbrev pub either_at : {A : Type 0} → ℕ → A → ℕ → A → List ℕ → Option (A × List ℕ)
either_at c x d y [] = None
either_at c x d y (b ∷ bs) = if b == c then Some (x, bs) else (if b == d then Some (y, bs) else None)

-- `be:` or `le:`
abbrev pub endian_at : List ℕ → Option (Endian × List ℕ)
endian_at text = do
  order ← either_at 98 Big 108 Little text
  rest ← after_byte 101 order.1
  rest ← after_byte 58 rest
  Some (order.0, rest)

-- `s` or `u`
abbrev pub sign_at : List ℕ → Option (Sign × List ℕ)
sign_at = either_at 115 Signed 117 Unsigned

abbrev pub is_empty : List ℕ → Bool
is_empty [] = true
is_empty (b ∷ bs) = false

abbrev pub is_digit : ℕ → Bool
is_digit b = nat_le 48 b && nat_le b 57

-- the number whose first digit is this one, of two digits at most
abbrev pub second_digit : ℕ → List ℕ → ℕ × List ℕ
second_digit n [] = (n, [])
second_digit n (b ∷ bs) = if is_digit b then (10 * n + (b - 48), bs) else (n, b ∷ bs)

-- a number of one or two digits, without a leading zero; none in the profile has more
abbrev pub small_at : List ℕ → Option (ℕ × List ℕ)
small_at [] = None
small_at (b ∷ bs) = if is_digit b then Some (if b == 48 then (0, bs) else second_digit (b - 48) bs) else None

-- `X` and a number other than 1, or 1 if nothing is said
abbrev pub repeat_at : List ℕ → Option (ℕ × List ℕ)
repeat_at [] = Some (1, [])
repeat_at (b ∷ bs) = if b == 88 then (small_at bs >>= λ n. if n.0 == 1 then None else Some n) else Some (1, b ∷ bs)

-- `>>` and a number, which end the text, or 0 if nothing is said
abbrev pub shift_at : List ℕ → Option ℕ
shift_at [] = Some 0
shift_at (b ∷ bs) = do
  rest ← after_byte 62 (b ∷ bs)
  rest ← after_byte 62 rest
  shift ← small_at rest
  if is_empty shift.1 then Some shift.0 else None

-- the type, if it is in the profile
abbrev pub profiled : Format → Option Format
profiled f = if in_profile f then Some f else None

-- the type that a text spells, if it spells one
abbrev pub type_of : List ℕ → Option Format
type_of text = do
  endian ← endian_at text
  sign ← sign_at endian.1
  realbits ← small_at sign.1
  rest ← after_byte 47 realbits.1
  storagebits ← small_at rest
  repeat ← repeat_at storagebits.1
  shift ← shift_at repeat.1
  profiled (record {
    sign = sign.0;
    realbits = realbits.0;
    storagebits = storagebits.0;
    shift = shift;
    repeat = repeat.0;
    endian = endian.0;
  })
