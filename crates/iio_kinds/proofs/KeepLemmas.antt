-- What no call changes of a device, by what each kind keeps.
use Rattle.std.proofs.Common.{◌≡◌, ℕ, List, refl}
use Rattle.iio_desc.specs.Description.{DeviceHead}
use Rattle.iio_desc.specs.Kind.{Input}
use Rattle.iio_layout.specs.Shape.{ShapeRecord}
use Rattle.iio_sensor.specs.Driver.{Driver}
use Rattle.iio_device.specs.declared.plug.Plug.{Plug}
use Rattle.iio_device.specs.Device.{view_of}
use Rattle.iio_kinds.specs.declared.any_device.AnyDevice.TheVariants as any
use Rattle.iio_kinds.specs.declared.in_device.InDevice.{InDevice}
use Rattle.iio_kinds.specs.declared.mean_device.MeanDevice.{MeanDevice}
use Rattle.iio_kinds.specs.declared.out_device.OutDevice.{OutDevice}
use Rattle.iio_kinds.specs.Acting.{Keeps, KeepsCaptures}
use Rattle.iio_kinds.specs.MeanStation.{KeepsMean}
use Rattle.iio_kinds.specs.OutStation.{KeepsOut}
use Rattle.iio_kinds.specs.Station.{KeepsFront, KeepsHead, KeepsIn, KeepsInCaptures}

pub front_by : (n n' : List ℕ) (s s' : ShapeRecord) → n' ≡ n → s' ≡ s
    → (let x : DeviceHead = record { name = n'; kind = Input; shape = s' } in x) ≡ (let y : DeviceHead = record { name = n; kind = Input; shape = s } in y)
front_by n n' s s' name shape = cc

module _ {X : Type 0} {V : X → Type 0} where
  pub keeps_view : (drive : Plug X V → Driver) (x y : InDevice X V) → Keeps (view_of drive x.device) (view_of drive y.device) → KeepsIn x y
  keeps_view drive x y k = record { front = front_by _ _ _ _ k.name k.shape; number = k.number }

  pub keeps_captures : (drive : Plug X V → Driver) (x y : InDevice X V) → KeepsCaptures (view_of drive x.device) (view_of drive y.device) → KeepsInCaptures x y
  keeps_captures drive x y k = record { head = keeps_view drive x y k.device; captures = k.captures }

  pub head_input : (x y : InDevice X V) → KeepsIn x y → KeepsHead (any.Input x) (any.Input y)
  head_input x y k = record { front = k.front; number = k.number }

  pub keeps_input : (x y : InDevice X V) → KeepsInCaptures x y → KeepsFront (any.Input x) (any.Input y)
  keeps_input x y k = record { head = head_input x y k.head; captures = k.captures }

  pub keeps_output : (x y : OutDevice) → KeepsOut x y → KeepsFront {X = X} {V = V} (any.Output x) (any.Output y)
  keeps_output x y k = record { head = record { front = k.head; number = k.number }; captures = refl }

  pub keeps_mean : (x y : MeanDevice) → KeepsMean x y → KeepsFront {X = X} {V = V} (any.Average x) (any.Average y)
  keeps_mean x y k = record { head = record { front = k.head; number = k.number }; captures = refl }
