use Rattle.std.proofs.Common.{◌≡◌, map}
use Rattle.iio_device.specs.Plug.{driver_of}
use Rattle.iio_kinds.specs.Station.{any_front, captures_by, head_by, number_by, station_by, stations_by}
use Rattle.iio_bench.proofs.first.as_inputs.Given as goal

abbrev pub invariant-loop-device : goal.invariant-loop-device
invariant-loop-device g l = record {
  stations :
      stations_by (driver_of (λ b. (g.dyn-1.0.entry b.vtable).1.driver b.value)) l.inputs.items
      ≡ map (station_by (driver_of (λ b. (g.dyn-1.0.entry b.vtable).1.driver b.value))) l.yielded;
  fronts : map any_front l.inputs.items ≡ map (λ d. head_by d.core) l.yielded;
  numbers : map number_by l.inputs.items ≡ map (λ d. d.core.number) l.yielded;
  captures : map captures_by l.inputs.items ≡ map (λ d. d.core.roster.captures) l.yielded;
}
