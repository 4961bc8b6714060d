use Rattle.std.proofs.Common.{w64}
use Rattle.std.proofs.lemmas.Int.{to_z-of_z}
use Rattle.std.proofs.lemmas.Result.{on_ok_weaker}
use Rattle.iio_device.specs.Plug.{driver_of}
use Rattle.iio_system.proofs.MoveLaws.{poll_holds, poll_line}
use Rattle.iio_system.proofs.moves.poll.Goals as goal

pub returns-clause-makes : goal.returns-clause-makes
returns-clause-makes g c =
    let told = rw (to_z-of_z w64 c.args.t c.ranges.t) at c.poll-polled.ensures.told in
    on_ok_weaker c.push_poll.result
    (λ line cs s m h. (
      poll_line (driver_of (λ b. (g.dyn-1.0.entry b.vtable).1.driver b.value)) c.args.trigger c.args.t c.args.bench.now c.poll-polled.new.self cs
          c.poll-polled.ensures.front told s m h
          c.args.out.now.items c.push_poll.new.out.items c.name_of_trigger.result.now c.poll-polled.result c.name_of_trigger.ensures
          (rw (to_z-of_z w64 c.args.t c.ranges.t) at c.poll-polled.ensures.answer) line,
      poll_holds (driver_of (λ b. (g.dyn-1.0.entry b.vtable).1.driver b.value)) c.args.trigger c.args.t c.args.bench.now c.poll-polled.new.self cs
          c.poll-polled.ensures.front told s m h,
    )) c.push_poll.ensures
