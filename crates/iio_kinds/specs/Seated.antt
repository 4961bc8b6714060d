-- What always holds of the members of an averaging device. Only this crate's private functions cite this file.
use Rattle.std.specs.Prelude.{◌≡◌, ℕ, ◌+◌, ◌-◌, ◌<◌, ◌≤◌, ◌==◌, ◌&&◌, not, true, List, [], ◌∷◌, map, filter, length, Option, Some, None, IfSome, is_some, if◌then◌else◌}
use Rattle.std.specs.List.{list_any, AllByRecursion}
use Rattle.iio_layout.specs.Layout.{scan_size}
use Rattle.iio_layout.specs.Shape.{ShapeRecord, width_of}
use Rattle.iio_derive.specs.declared.members.Membership.{Membership}
use Rattle.iio_derive.specs.Average.{AverageRecord}
use Rattle.iio_derive.specs.Members.{member_at}
use Rattle.iio_derive.specs.Window.{Window}
use Rattle.iio_device.specs.Site.{is_empty}
use Rattle.iio_core.specs.Machine.{MemberId}
use Rattle.iio_kinds.specs.Inner.{AreApart}
use Rattle.iio_kinds.specs.declared.mean_device.MeanSeat.{MeanSeat}

abbrev pub mean_number_of : MeanSeat → ℕ
mean_number_of s = s.number

abbrev pub slot_of : MeanSeat → ℕ
slot_of s = s.slot

-- the slot of the member of that number and mask
abbrev pub slot_at : MemberId → List MeanSeat → Option ℕ
slot_at id [] = None
slot_at id (s ∷ ss) = if s.number == id.number && s.mask.bits == id.mask then Some s.slot else slot_at id ss

-- the member has the seat's mask and capacity, and scans of that mask's size; it was offered no more scans than there were
-- means
pub record IsMemberOf (shape : ShapeRecord) (captures : ℕ) (s : MeanSeat) (m : Membership) : Type 0 where
  pub mask : m.mask.bits ≡ s.mask.bits
  pub capacity : m.queue.capacity ≡ s.capacity
  pub size : m.queue.size ≡ scan_size shape s.mask.bits
  pub offered : m.queue.taken + m.queue.lost ≤ captures

pub record IsSeated (shape : ShapeRecord) (captures next : ℕ) (slots : List (Option Membership)) (s : MeanSeat) : Type 0 where
  pub numbered : s.number < next
  pub live : is_some (member_at s.slot slots) ≡ true
  pub member : IfSome (member_at s.slot slots) (IsMemberOf shape captures s)

-- each seat has a member
abbrev pub AreSeated : ShapeRecord → (captures next : ℕ) → List (Option Membership) → List MeanSeat → Type 0
AreSeated shape captures next slots seats = AllByRecursion (IsSeated shape captures next slots) seats

-- each member has a seat
abbrev pub HasSeats : List (Option Membership) → List MeanSeat → Type 0
HasSeats slots seats = (slot : ℕ) → is_some (member_at slot slots) ≡ true → list_any (λ (s : MeanSeat). s.slot == slot) seats ≡ true

-- if there is no member, no captures count towards the next mean
abbrev pub BeginsAnew : List MeanSeat → Window → Type 0
BeginsAnew seats window = is_empty seats ≡ true → (window.count ≡ 0) × (window.sums ≡ [])

-- if a capture counts towards the next mean, there are as many sums as it has values
abbrev pub IsWide : ShapeRecord → Window → Type 0
IsWide shape window = 1 ≤ window.count → length window.sums ≡ width_of shape

-- the members' seats, their queues and the window
pub record IsSeating (a : AverageRecord) (captures next starts : ℕ) (seats : List MeanSeat) : Type 0 where
  pub seated : AreSeated a.shape captures next a.seats seats
  pub apart : AreApart (map slot_of seats)
  pub once : AreApart (map mean_number_of seats)
  pub all : HasSeats a.seats seats
  pub idle : BeginsAnew seats a.window
  pub wide : IsWide a.shape a.window
  pub begun : starts + (length seats - 1) ≤ next

-- the number of the attachment after another member's joining
abbrev pub attachment_with : List MeanSeat → (starts : ℕ) → ℕ
attachment_with seats starts = if is_empty seats then starts + 1 else starts

-- the number of the attachment after the last member's joining is undone
abbrev pub attachment_without : List MeanSeat → (starts : ℕ) → ℕ
attachment_without seats starts = if is_empty seats then starts - 1 else starts

-- the slot of the member of that number
abbrev pub slot_by : ℕ → List MeanSeat → Option ℕ
slot_by number [] = None
slot_by number (s ∷ ss) = if s.number == number then Some s.slot else slot_by number ss

-- the seats of the members of other numbers
abbrev pub seats_without : ℕ → List MeanSeat → List MeanSeat
seats_without number seats = filter (λ (s : MeanSeat). not (s.number == number)) seats
