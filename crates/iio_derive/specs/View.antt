-- What always holds of an averaging device's fields. Cited by its model and by private functions alone.
use Rattle.std.specs.Prelude.{◌≡◌, ℕ, zero, suc, All, length, vec_capacity, Option, IfSome, ◌+◌, ◌*◌, ◌-◌, ◌^◌, ◌<◌, ◌≤◌, List, slice_index, ℤ, pos, neg_ℤ, ◌≤ℤ◌}
use Rattle.iio_layout.specs.Layout.{place_of, scan_size, size_at}
use Rattle.iio_layout.specs.Shape.{ShapeRecord, count_of, formats_of, width_of}
use Rattle.iio_derive.specs.declared.average.Average.TheInside.{Inside}
use Rattle.iio_derive.specs.declared.members.Membership.{Membership}
use Rattle.iio_derive.specs.Members.{member_at}
use Rattle.iio_derive.specs.Sized.{IsSized}
use Rattle.iio_derive.specs.Window.{Window, full_mask, no_window}

-- a sum of `count` values of 64 bits
pub record IsSum (count : ℕ) (sum : ℤ) : Type 0 where
  pub low : neg_ℤ (pos (count * 2 ^ 63)) ≤ℤ sum
  pub high : sum ≤ℤ pos (count * (2 ^ 63 - 1))

-- where channel c stands in a scan of all channels, with its bytes within it
pub record IsPlace (shape : ShapeRecord) (c place : ℕ) : Type 0 where
  pub is : place ≡ place_of shape (full_mask shape) c
  pub within : place + size_at (formats_of shape) c ≤ scan_size shape (full_mask shape)

-- the places of all channels
abbrev pub ArePlaces : ShapeRecord → List ℕ → Type 0
ArePlaces shape places = (c : ℕ) → c < count_of shape → IsPlace shape c (slice_index places c)

-- the captures of which no mean was made yet, by their number and what stands in the sums
abbrev pub window_of : ℕ → List ℤ → Window
window_of zero sums = no_window
window_of (suc n) sums = record { count = suc n; sums = sums }

-- each member's queue has scans under its mask
abbrev pub AreSized : ShapeRecord → List (Option Membership) → Type 0
AreSized shape seats = (number : ℕ) → IfSome (member_at number seats) (λ m. IsSized shape m)

-- what holds of an averaging device's fields
pub record IsSound (a : Inside) : Type 0 where
  pub low : 2 ≤ a.size
  pub high : a.size ≤ 1000
  pub counted : a.count < a.size
  pub placed : ArePlaces a.shape a.places
  pub width : length a.sums.items ≡ width_of a.shape
  pub summed : 1 ≤ a.count → All (λ s. IsSum a.count s) a.sums.items
  pub read : 8 * length a.shape.channels ≤ vec_capacity a.values
  pub roomy : 16 * count_of a.shape ≤ length a.room.items
  pub few : length a.seats.items < 2 ^ 32
  pub sized : AreSized a.shape a.seats.items
