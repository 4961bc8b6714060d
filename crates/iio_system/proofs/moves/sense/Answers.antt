use Rattle.std.proofs.Common.{w64}
use Rattle.std.proofs.lemmas.Int.{to_z-of_z}
use Rattle.std.proofs.lemmas.Result.{on_ok_weaker}
use Rattle.iio_device.specs.Plug.{driver_of}
use Rattle.iio_system.proofs.MoveLaws.{sense_makes}
use Rattle.iio_system.proofs.moves.sense.Goals as goal

pub returns-clause-makes : goal.returns-clause-makes
returns-clause-makes g c =
    on_ok_weaker c.push_sense.result
    (λ line cs. sense_makes (driver_of (λ b. (g.dyn-1.0.entry b.vtable).1.driver b.value)) c.args.dev c.args.t c.args.bench.now c.sense-sensed.new.self cs
    c.args.out.now.items c.push_sense.new.out.items c.name_of_device.result.now c.sense-sensed.result
    c.requires c.sense-sensed.ensures.front (rw (to_z-of_z w64 c.args.t c.ranges.t) at c.sense-sensed.ensures.told)
    c.name_of_device.ensures (rw (to_z-of_z w64 c.args.t c.ranges.t) at c.sense-sensed.ensures.answer) line) c.push_sense.ensures
