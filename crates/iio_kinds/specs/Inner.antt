-- Inner members: the members that averaging devices have at an input device.
use Rattle.std.specs.Prelude.{◌≡◌, ℕ, All, ◌==◌, not, true, false, List, [], ◌∷◌, find, filter, length, map, Option, option_map, is_some}
use Rattle.std.specs.List.{AllByRecursion, IsDistinct}
use Rattle.iio_kfifo.specs.Queue.{Queue}
use Rattle.iio_scan_type.specs.Format.{IsInProfile}
use Rattle.iio_layout.specs.Layout.{scan_size}
use Rattle.iio_layout.specs.Shape.{ShapeRecord}
use Rattle.iio_derive.specs.Window.{full_mask}
use Rattle.iio_device.specs.declared.membership.Membership.{Membership}
use Rattle.iio_device.specs.Members.{is_live}
use Rattle.iio_device.specs.Site.{is_empty}
use Rattle.iio_core.specs.Machine.{Member}
use Rattle.iio_kinds.specs.declared.in_device.Inner.{Inner}
use Rattle.std.specs.Prelude.{◌≡◌, ℕ, ◌-◌, ◌^◌, ◌<◌, ◌≤◌, not, Bool, true, false, List, length, Some, slice_get}
use Rattle.std.specs.List.{list_any}
use Rattle.std.specs.Option.{option_map_or}
use Rattle.iio_desc.specs.Description.{DeviceHead, no_shape, shape_of_means}
use Rattle.iio_desc.specs.Kind.{Kind, Input, Average, is_average}
use Rattle.iio_core.specs.Calls.{is_inner_of}
use Rattle.iio_core.specs.Machine.{Station, station_in}
use Rattle.iio_kinds.specs.Places.{is_hosted}

abbrev pub number_of : Inner → ℕ
number_of i = i.number

abbrev pub average_of : Inner → ℕ
average_of i = i.average

-- the averaging device whose inner member has that number, if any
abbrev pub inner_at : List Inner → ℕ → Option ℕ
inner_at inners number = option_map average_of (find (λ (i : Inner). i.number == number) inners)

-- a member as it is told; it is an inner one if it is among these
abbrev pub with_inner_name : List Inner → Member → Member
with_inner_name inners x = record x { inner = inner_at inners x.number }

-- the number of the inner member of an averaging device
abbrev pub number_by : (average : ℕ) → List Inner → Option ℕ
number_by average inners = option_map number_of (find (λ (i : Inner). i.average == average) inners)

-- the others
abbrev pub inners_without : (average : ℕ) → List Inner → List Inner
inners_without average inners = filter (λ (i : Inner). not (i.average == average)) inners

-- ---- what always holds of an input device

-- a member with the mask of all channels and room for one scan, for which no scan waits
pub record IsIdle (shape : ShapeRecord) (m : Membership Queue) : Type 0 where
  pub mask : m.mask.bits ≡ full_mask shape
  pub capacity : m.tail.capacity ≡ 1
  pub scans : m.tail.scans ≡ []

-- each inner member is such a member
abbrev pub AreIdle : ShapeRecord → List Inner → List (Membership Queue) → Type 0
AreIdle shape inners members = AllByRecursion (λ (m : Membership Queue). is_some (inner_at inners m.number) ≡ true → IsIdle shape m) members

-- each inner member has the mask of all channels
abbrev pub AreWhole : ShapeRecord → List Inner → List (Membership Queue) → Type 0
AreWhole shape inners members = AllByRecursion (λ (m : Membership Queue). is_some (inner_at inners m.number) ≡ true → m.mask.bits ≡ full_mask shape) members

-- each inner member is there
abbrev pub AreThere : List (Membership Queue) → List Inner → Type 0
AreThere members inners = AllByRecursion (λ (i : Inner). is_live i.number members ≡ true) inners

-- no number occurs twice
abbrev pub AreApart : List ℕ → Type 0
AreApart numbers = IsDistinct (λ a b. a == b) numbers

-- if there is an inner member, the room is that of a scan of all channels
abbrev pub HasRoom : ShapeRecord → List Inner → (room : List ℕ) → Type 0
HasRoom shape inners room = is_empty inners ≡ false → length room ≡ scan_size shape (full_mask shape)

pub record HasInners (shape : ShapeRecord) (members : List (Membership Queue)) (inners : List Inner) (room : List ℕ) : Type 0 where
  pub idle : AreIdle shape inners members
  pub there : AreThere members inners
  pub once : AreApart (map number_of inners)
  pub apart : AreApart (map average_of inners)
  pub roomy : HasRoom shape inners room
  pub types : All (λ channel. IsInProfile channel.ty) shape.channels

-- whether a device has the inner member of averaging device j
abbrev pub has_inner : ℕ → Station → Bool
has_inner j st = list_any (is_inner_of j) st.members
