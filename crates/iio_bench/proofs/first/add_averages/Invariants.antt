use Rattle.std.proofs.Common.{map}
use Rattle.iio_device.specs.Plug.{driver_of}
use Rattle.iio_bench.specs.First.{mean_head_over, mean_station_over}
use Rattle.iio_kinds.specs.Station.{any_front, any_station, captures_by, number_by}
use Rattle.iio_bench.proofs.FirstLemmas.{Adding}
use Rattle.iio_bench.proofs.first.add_averages.Given as goal

abbrev pub invariant-loop-desc : goal.invariant-loop-desc
invariant-loop-desc g l =
    (goal.iterator-loop-desc g).can_next l.desc-iterator ×
    (goal.iterator-loop-desc g).is_finite l.desc-iterator ×
    Adding (mean_station_over (map any_front l.fn.devices.items)) (mean_head_over (map any_front l.fn.devices.items))
    (any_station (driver_of (λ b. (g.dyn-1.0.entry b.vtable).1.driver b.value))) any_front number_by captures_by
    l.fn.descs.items l.fn.devices.items l.yielded l.desc-iterator.rest.items l.devices.items
