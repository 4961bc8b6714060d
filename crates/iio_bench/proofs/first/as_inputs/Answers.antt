use Rattle.std.proofs.Common.{ap, ◌∙◌}
use Rattle.iio_device.specs.Plug.{driver_of}
use Rattle.iio_kinds.specs.declared.any_device.AnyDevice.TheVariants as any
use Rattle.iio_kinds.specs.Station.{any_front, any_station, captures_by, head_by, number_by, station_by}
use Rattle.iio_bench.proofs.FirstLemmas.{in_first, pushed}
use Rattle.iio_bench.proofs.first.as_inputs.Goals as goal

pub loop-device-preserved : goal.loop-device-preserved
loop-device-preserved g c =
    let drive = driver_of (λ b. (g.dyn-1.0.entry b.vtable).1.driver b.value) in
    let same = c.new.ensures.0 in
    record {
      stations =
          pushed (any_station drive) (station_by drive) c.loop-device.inputs.items c.push.new.self.items c.loop-device.yielded (any.Input c.new.result)
          c.in-Some.device c.in_ok-push.ensures.items c.loop-device.invariant.stations
          (in_first drive c.new.result c.new.ensures.1 ∙ ap (λ d. station_by drive d) same);
      fronts =
          pushed any_front (λ d. head_by d.core) c.loop-device.inputs.items c.push.new.self.items c.loop-device.yielded (any.Input c.new.result)
          c.in-Some.device c.in_ok-push.ensures.items c.loop-device.invariant.fronts (ap (λ d. head_by d.core) same);
      numbers =
          pushed number_by (λ d. d.core.number) c.loop-device.inputs.items c.push.new.self.items c.loop-device.yielded (any.Input c.new.result)
          c.in-Some.device c.in_ok-push.ensures.items c.loop-device.invariant.numbers (ap (λ d. d.core.number) same);
      captures =
          pushed captures_by (λ d. d.core.roster.captures) c.loop-device.inputs.items c.push.new.self.items c.loop-device.yielded
          (any.Input c.new.result) c.in-Some.device c.in_ok-push.ensures.items c.loop-device.invariant.captures (ap (λ d. d.core.roster.captures) same);
    }
