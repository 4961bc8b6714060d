-- Where an OPEN needs a place, and its refusals in their order, by plain conditions. (Which errno is the kernel's or libiio's,
-- and which this project's own, is said in docs/FORMATS.md.)
use Rattle.std.specs.Prelude.{ℕ, ◌*◌, ◌==◌, ◌||◌, nat_lt, Bool, true, List, [], ◌∷◌, Option, Some, None, unwrap_or}
use Rattle.iio_text.specs.declared.errors.Errno.{Errno}
use Rattle.iio_text.specs.declared.errors.Errno.TheVariants.{EBUSY, ENODEV, EINVAL, ENOSYS}
use Rattle.iio_layout.specs.Shape.{ShapeRecord}
use Rattle.iio_desc.specs.Kind.{Kind, Average}
use Rattle.iio_derive.specs.Window.{full_mask}
use Rattle.iio_device.specs.declared.roster.JoinFault.{JoinFault}
use Rattle.iio_device.specs.Joining.{member_faults}
use Rattle.iio_kfifo.specs.declared.limits.TheConstants.{MAX_BYTES}
use Rattle.iio_core.specs.declared.limits.TheConstants.{MAX_SCANS}
use Rattle.iio_core.specs.Faults.{errno_of}

-- whether a member can't have a queue of `capacity` scans of `size` bytes
abbrev pub is_excess : ℕ → ℕ → Bool
is_excess capacity size = capacity == 0 || nat_lt MAX_SCANS capacity || nat_lt MAX_BYTES (capacity * size)

-- the refusals by what an OPEN asks for, before other members are looked at
abbrev pub asked_refusals : Bool → Bool → Bool → Bool → Bool → Bool → List (Bool × Errno)
asked_refusals is_gone is_cyclic is_no_mask is_without_data is_too_much is_open =
    (is_gone, ENODEV)
    ∷ (is_cyclic, ENOSYS)
    ∷ (is_no_mask, EINVAL)
    ∷ (is_without_data, EINVAL)
    ∷ (is_too_much, EINVAL)
    ∷ (is_open, EBUSY)
    ∷ []

-- the refusals by what a REMASK asks for, before other members are looked at
abbrev pub mask_refusals : Bool → Bool → Bool → List (Bool × Errno)
mask_refusals is_no_mask is_without_data is_too_much =
    (is_no_mask, EINVAL)
    ∷ (is_without_data, EINVAL)
    ∷ (is_too_much, EINVAL)
    ∷ []

-- another refusal, if its fault has an errno
abbrev pub with_errno : Bool → Option Errno → List (Bool × Errno) → List (Bool × Errno)
with_errno applies None refusals = refusals
with_errno applies (Some errno) refusals = (applies, errno) ∷ refusals

-- the same refusals in the same order, by their errnos
abbrev pub errnos_of : List (Bool × JoinFault) → List (Bool × Errno)
errnos_of [] = []
errnos_of (r ∷ rs) = with_errno r.0 (errno_of r.1) (errnos_of rs)

-- the refusals of another member of a device
abbrev pub join_refusals : Bool → Bool → Bool → List (Bool × Errno)
join_refusals is_without_trigger is_without_union is_full = errnos_of (member_faults is_without_trigger is_without_union is_full)

-- where a new member needs a trigger, a listed mask and a place
pub record Host (D : Type 0) : Type 0 where
  pub device : D
  pub shape : ShapeRecord
  pub mask : ℕ
  pub beside : List ℕ
  pub joins : Bool

module _ {D : Type 0} where
  -- the device itself
  abbrev pub own_host : D → ShapeRecord → (mask : ℕ) → (beside : List ℕ) → Host D
  own_host d shape mask beside = record { device = d; shape = shape; mask = mask; beside = beside; joins = true }

  -- a base, for the inner member, if there is none yet. Its mask is the union, whatever masks are there
  abbrev pub inner_host : (joins : Bool) → D → ShapeRecord → Host D
  inner_host joins d shape = record { device = d; shape = shape; mask = full_mask shape; beside = []; joins = joins }

  -- for an averaging device it is its base
  abbrev pub host_by : Kind → (own : Host D) → (at_base : ℕ → Option (Host D)) → Host D
  host_by (Average base window) own at_base = unwrap_or (at_base base) own
  host_by kind own at_base = own
