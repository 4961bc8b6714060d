use Rattle.std.proofs.Common.{w64}
use Rattle.std.proofs.lemmas.Int.{to_z-of_z}
use Rattle.std.proofs.lemmas.Result.{on_ok_weaker}
use Rattle.iio_device.specs.Plug.{driver_of}
use Rattle.iio_system.proofs.MoveLaws.{clock_makes}
use Rattle.iio_system.proofs.moves.set_clock.Goals as goal

pub returns-clause-makes : goal.returns-clause-makes
returns-clause-makes g c =
    on_ok_weaker c.push_clock.result
    (λ line cs. clock_makes (driver_of (λ b. (g.dyn-1.0.entry b.vtable).1.driver b.value)) c.args.t c.args.bench.now c.set_clock.new.self cs
    c.args.out.now.items c.push_clock.new.out.items c.set_clock.ensures.front (rw (to_z-of_z w64 c.args.t c.ranges.t) at c.set_clock.ensures.told) line)
    (rw (to_z-of_z w64 c.args.t c.ranges.t) at c.push_clock.ensures)
