-- An averaging device as callers see it, and how each call changes it. (This project's own.)
use Rattle.std.specs.Prelude.{◌≡◌, ℕ, Bool, true, false, List, [], Option, Some, None, is_some, if◌then◌else◌, ◌∷◌, Result, Ok, Err, IsSome, MatchOption, ℤ}
use Rattle.std.specs.List.{list_any}
use Rattle.iio_base.specs.declared.Mem.{Mem}
use Rattle.iio_mask.specs.declared.Mask.{Mask}
use Rattle.iio_layout.specs.Layout.{scan_size}
use Rattle.iio_layout.specs.Shape.{ShapeRecord}
use Rattle.iio_derive.specs.declared.members.Membership.{Membership}
use Rattle.iio_derive.specs.Members.{ChangesOne, SeatOffered, Takes, TakesScans, member_at, member_count}
use Rattle.iio_derive.specs.Means.{IsWindowOf, mean_with}
use Rattle.iio_derive.specs.Values.{moment_in, values_in}
use Rattle.iio_derive.specs.Window.{Window, is_filled_by, means_of, no_window, sums_with, window_with}

-- an averaging device: its channels, how many captures make a mean, those of which none was made yet, and its members, each at
-- the place that is its number
pub record AverageRecord : Type 0 where
  pub shape : ShapeRecord
  pub size : ℕ
  pub window : Window
  pub seats : List (Option Membership)

-- a device without a member
abbrev pub new_average : ShapeRecord → ℕ → AverageRecord
new_average shape size = record { shape = shape; size = size; window = no_window; seats = [] }

-- whether there is a member
abbrev pub has_member : List (Option Membership) → Bool
has_member seats = list_any (λ (seat : Option Membership). is_some seat) seats

-- a member whose queue is empty
abbrev pub new_member : ShapeRecord → Mask → (capacity : ℕ) → Membership
new_member shape mask capacity = record {
  mask = mask;
  queue = record { scans = []; taken = 0; lost = 0; size = scan_size shape mask.bits; capacity = capacity };
}

-- a member joins under a number that none has; lack of memory changes nothing
abbrev pub Joins : Mask → (capacity : ℕ) → Result ℕ Mem → AverageRecord → AverageRecord → Type 0
Joins mask capacity (Ok number) old new =
    (member_at number old.seats ≡ None)
    × ChangesOne number (Some (new_member old.shape mask capacity)) old.seats new.seats
    × (new ≡ record old { seats = new.seats })
Joins mask capacity (Err e) old new = new ≡ old

-- the window after a member left: it begins anew when the last one leaves
abbrev pub window_left : List (Option Membership) → Window → Window
window_left seats w = if has_member seats then w else no_window

-- the member of that number leaves; if there is none, nothing changes
abbrev pub Leaves : ℕ → Bool → AverageRecord → AverageRecord → Type 0
Leaves number false old new = (is_some (member_at number old.seats) ≡ false) × (new ≡ old)
Leaves number true old new =
    (is_some (member_at number old.seats) ≡ true)
    × ChangesOne number None old.seats new.seats
    × (new ≡ record old { window = window_left new.seats old.window; seats = new.seats })

-- each member was offered its scan of these values at this moment, once
abbrev pub AllOffered : ShapeRecord → List ℤ → ℤ → (old new : List (Option Membership)) → Type 0
AllOffered shape values t old new = (number : ℕ) → SeatOffered shape values t (member_at number old) (member_at number new)

-- another capture: with it the window isn't full; or it is, the mean is offered to each member, and the window begins anew
abbrev pub Adds : List ℕ → Option ℕ → AverageRecord → AverageRecord → Type 0
Adds scan None old new =
    (is_filled_by old.size old.window ≡ false)
    × (new ≡ record old { window = window_with old.window (values_in old.shape scan) })
Adds scan (Some count) old new =
    (is_filled_by old.size old.window ≡ true)
    × (count ≡ member_count old.seats)
    × AllOffered old.shape (means_of old.size (sums_with old.window (values_in old.shape scan))) (moment_in old.shape scan) old.seats new.seats
    × (new ≡ record old { window = no_window; seats = new.seats })

-- the member's oldest scan is taken; if there is no such member, nothing changes
abbrev pub TakesOf : ℕ → Option Bool → (out out' : List ℕ) → AverageRecord → AverageRecord → Type 0
TakesOf number None out out' old new = (is_some (member_at number old.seats) ≡ false) × (new ≡ old) × (out' ≡ out)
TakesOf number (Some given) out out' old new =
    (is_some (member_at number old.seats) ≡ true)
    × Takes number given out out' old.seats new.seats
    × (new ≡ record old { seats = new.seats })

-- the member's oldest scans are taken; if there is no such member, nothing changes
abbrev pub TakesScansOf : (number most : ℕ) → Option ℕ → (before after : List ℕ) → AverageRecord → AverageRecord → Type 0
TakesScansOf number most None before after old new = (is_some (member_at number old.seats) ≡ false) × (new ≡ old) × (after ≡ before)
TakesScansOf number most (Some count) before after old new =
    (is_some (member_at number old.seats) ≡ true)
    × TakesScans number most count before after old.seats new.seats
    × (new ≡ record old { seats = new.seats })

-- another capture, by the captures since the first member joined, the newest first: with the capture that fills a window the
-- mean of the window's captures is offered, and with no other
abbrev pub MeansOf : List ℕ → Option ℕ → AverageRecord → AverageRecord → List (List ℤ) → Type 0
MeansOf scan result old new captures =
    IsWindowOf old.size new.window (values_in old.shape scan ∷ captures)
    × MatchOption (mean_with old.size (values_in old.shape scan) captures) (result ≡ None)
    (λ mean. IsSome result × AllOffered old.shape mean (moment_in old.shape scan) old.seats new.seats)
