-- What a driver of a device's sensor is, apart from how it is built: what it samples, what is added, and what it has been
-- asked. (Kernel, driver-api/iio: a driver fills one scan of the active channels at a trigger. That asks have numbers, and that
-- listed ones fail, are this project's own.)
use Rattle.std.specs.Prelude.{◌≡◌, ℕ, ◌+◌, ◌-◌, ◌^◌, min, ◌==◌, Bool, List, slice_index_or, if◌then◌else◌, ℤ, pos, ◌+ℤ◌, Option, Some}
use Rattle.std.specs.List.{list_any}
use Rattle.iio_scan_type.specs.Format.{Format, saturated}
use Rattle.iio_layout.specs.Shape.{ShapeRecord, formats_of}
use Rattle.iio_layout.specs.Layout.{format_at}
use Rattle.iio_layout.specs.Scan.{elements_below, values_by}

-- `sample shape c k t` is a driver's number for element k of channel c at moment t; `bias c` is what is added to the
-- numbers of channel c; `asked` is how often it was asked; `last` is the moment and the bits of the mask of its last capture;
-- `fails` has the numbers of the asks that fail; `faults` is how many have failed
pub record Driver : Type 0 where
  pub sample : ShapeRecord → ℕ → ℕ → ℤ → ℤ
  pub bias : ℕ → ℤ
  pub asked : ℕ
  pub last : Option (ℤ × ℕ)
  pub fails : List ℕ
  pub faults : ℕ

-- a driver that was never asked, and has no bias
pub record IsFresh (d : Driver) : Type 0 where
  pub asked : d.asked ≡ 0
  pub bias : d.bias ≡ (λ c. pos 0)

-- ---- biases

-- biases that are kept in a list, channel 0 first
abbrev pub bias_in : List ℤ → ℕ → ℤ
bias_in biases c = slice_index_or biases c (pos 0)

-- the biases with this one for channel c
abbrev pub with_one : (ℕ → ℤ) → ℕ → ℤ → ℕ → ℤ
with_one biases c bias k = if k == c then bias else biases k

-- ---- values

-- a sample plus its bias, added exactly, or the nearer end of the type's range if the sum lies outside
abbrev pub with_bias : Format → ℤ → ℤ → ℤ
with_bias format sample bias = saturated format (sample +ℤ bias)

-- the value of element k of channel c at a moment
abbrev pub value_of : Driver → ShapeRecord → ℤ → ℕ → ℕ → ℤ
value_of d shape t c k = with_bias (format_at (formats_of shape) c) (d.sample shape c k t) (d.bias c)

-- the values of channel c at a moment
abbrev pub channel_values : Driver → ShapeRecord → ℤ → ℕ → List ℤ
channel_values d shape t c = elements_below (value_of d shape t c) (format_at (formats_of shape) c).repeat

-- the values of all channels at a moment, in order
abbrev pub values_of : Driver → ShapeRecord → ℤ → List ℤ
values_of d shape t = values_by shape (value_of d shape t)

-- ---- asks

-- one more, or 2 ^ 64 - 1 once that is reached
abbrev pub next_count : ℕ → ℕ
next_count n = min (n + 1) (2 ^ 64 - 1)

-- whether the next ask fails
abbrev pub ask_fails : Driver → Bool
ask_fails d = list_any (λ n. n == next_count d.asked) d.fails

-- the driver after one ask
abbrev pub after_ask : Driver → Driver
after_ask d = record d { asked = next_count d.asked; faults = if ask_fails d then next_count d.faults else d.faults }

-- the driver after an ask for a capture
abbrev pub after_capture : Driver → ℤ → ℕ → Driver
after_capture d t mask = record (after_ask d) { last = Some (t, mask) }

-- the driver after a bias was set
abbrev pub after_bias : Driver → ℕ → ℤ → Driver
after_bias d c bias = record d { bias = with_one d.bias c bias }
