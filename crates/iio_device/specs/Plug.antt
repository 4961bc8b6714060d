-- The driver of what a device samples.
use Rattle.std.specs.Prelude.{Option, Some, None}
use Rattle.std.specs.declared.dyn_box.DynBox.{DynBox}
use Rattle.std.specs.declared.alloc.Global.{Global}
use Rattle.iio_sensor.specs.Driver.{Driver}
use Rattle.iio_sensor.specs.Recorded as recorded
use Rattle.iio_device.specs.declared.plug.Plug.{Plug}
use Rattle.iio_device.specs.declared.plug.Plug.TheVariants.{Own, Given}
use Rattle.iio_device.specs.Site.{no_driver}

-- recorded rows are a driver of their own; `given` says which driver one that was handed in is
abbrev pub driver_of : {X : Type 0} {V : X → Type 0} → (DynBox X Global V → Driver) → Plug X V → Driver
driver_of given (Own r) = recorded.driver_of r
driver_of given (Given d) = given d

-- an unplugged device has none
abbrev pub driver_in : {P : Type 0} → (P → Driver) → Option P → Driver
driver_in driver None = no_driver
driver_in driver (Some plug) = driver plug
