-- What holds of a bank's own devices: each has the number of its place and the front's shape.
use Rattle.std.specs.Prelude.{◌≡◌, ℕ, List, length, slice_get, Some}
use Rattle.iio_kfifo.specs.declared.tail.Tail.{Ghosts}
use Rattle.iio_desc.specs.declared.limits.TheConstants.{MAX_TRIGGERS}
use Rattle.iio_device.specs.declared.device.Fitted.{Fitted}
use Rattle.iio_device.specs.declared.iio_dev.IioDev.{IioDev}
use Rattle.iio_core.specs.Front.{shape_at}
use Rattle.iio_kfifo.specs.Ends.{WriterEnd}
use Rattle.iiod_bank.specs.declared.front.HubFront.{HubFront}
use Rattle.iiod_bank.specs.FrontOf.{front_of}

pub record FitsAt {X : Type 0} {V : X → Type 0} {g : Ghosts WriterEnd} (front : HubFront) (i : ℕ) (d : Fitted (IioDev WriterEnd g) X V) : Type 0 where
  pub number : d.core.number ≡ i
  pub shaped : d.core.roster.shape ≡ shape_at (front_of front) i

pub record Fits {X : Type 0} {V : X → Type 0} {g : Ghosts WriterEnd} (front : HubFront) (devices : List (Fitted (IioDev WriterEnd g) X V)) (triggers : ℕ) : Type
    0 where
  pub many : length devices ≡ length front.devices.items
  pub each : (i : ℕ) (d : Fitted (IioDev WriterEnd g) X V) → slice_get devices i ≡ Some d → FitsAt front i d
  pub sixteen : triggers ≡ MAX_TRIGGERS
