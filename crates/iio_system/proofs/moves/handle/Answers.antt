use Rattle.std.proofs.Common.{arith, refl}
use Rattle.std.proofs.lemmas.Result.{on_ok_weaker}
use Rattle.iio_device.specs.Plug.{driver_of}
use Rattle.iio_bench.specs.Bench.{captures_of, room_at}
use Rattle.iio_system.proofs.MoveLaws.{handle_holds, handle_line, no_end, rise_counted, rise_more}
use Rattle.iio_system.proofs.moves.handle.Goals as goal

pub returns-clause-makes : goal.returns-clause-makes
returns-clause-makes g c =
    let last = no_end (captures_of c.args.bench.now) c.args.dev c.requires.captures in
    let told = rw last at c.handle-became.ensures.told in
    on_ok_weaker c.push_became.result
    (λ line cs s m h. (
      handle_line (driver_of (λ b. (g.dyn-1.0.entry b.vtable).1.driver b.value)) c.args.trigger c.args.dev c.args.bench.now c.handle-became.new.self cs
          c.requires.dev c.handle-became.ensures.front told s m h
          c.args.out.now.items c.push_became.new.out.items _ _ (room_at c.handle-became.new.self c.args.dev) c.handle-became.result refl refl
          (rw last at c.handle-became.ensures.answer) c.handle-became.ensures.room line,
      handle_holds (driver_of (λ b. (g.dyn-1.0.entry b.vtable).1.driver b.value)) c.args.trigger c.args.dev c.args.bench.now c.handle-became.new.self cs
          c.requires.dev c.handle-became.ensures.front told s m h,
    )) c.push_became.ensures

pub returns-clause-captures : goal.returns-clause-captures
returns-clause-captures g c = rise_more 1 32 _ _ (omega arith) (rise_counted c.handle-became.result c.args.dev _ _ c.handle-became.ensures.captures)
