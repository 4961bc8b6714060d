use Rattle.std.proofs.Common.{refl}
use Rattle.std.proofs.lemmas.Result.{on_ok_weaker}
use Rattle.iio_device.specs.Plug.{driver_of}
use Rattle.iio_bench.specs.Bench.{captures_of, room_at}
use Rattle.iio_system.proofs.FireLaws.{plays_none, plays_some}
use Rattle.iio_system.proofs.MoveLaws.{not_ended, rise_counted}
use Rattle.iio_system.proofs.moves.handle_one.Goals as goal

pub returns-in-None-clause-makes : goal.returns-in-None-clause-makes
returns-in-None-clause-makes g c =
    let last = not_ended (captures_of c.args.bench.now) c.args.dev c.requires.captures in
    let told = rw last at c.in-None.ensures.told in
    λ cs s m h. plays_none (driver_of (λ b. (g.dyn-1.0.entry b.vtable).1.driver b.value)) c.args.trigger c.args.dev c.args.bench.now c.handle.new.self cs
    c.requires.dev c.in-None.ensures.front told s m h c.args.out.now.items (rw last at c.in-None.ensures.answer)

pub returns-in-None-clause-captures : goal.returns-in-None-clause-captures
returns-in-None-clause-captures g c = rise_counted c.handle.result c.args.dev _ _ c.handle.ensures.captures

pub returns-in-Some-clause-makes : goal.returns-in-Some-clause-makes
returns-in-Some-clause-makes g c =
    let last = not_ended (captures_of c.args.bench.now) c.args.dev c.requires.captures in
    let told = rw last at c.in-Some.ensures.told in
    on_ok_weaker c.push_became.result
    (λ line cs s m h. plays_some (driver_of (λ b. (g.dyn-1.0.entry b.vtable).1.driver b.value)) c.args.trigger c.args.dev c.args.bench.now c.handle.new.self cs
    c.requires.dev c.in-Some.ensures.front told s m h
    c.args.out.now.items c.push_became.new.out.items _ _ (room_at c.handle.new.self c.args.dev) c.in-Some.became refl refl (rw last at c.in-Some.ensures.answer)
    c.in-Some.ensures.room line) c.push_became.ensures

pub returns-in-Some-clause-captures : goal.returns-in-Some-clause-captures
returns-in-Some-clause-captures g c = rise_counted c.handle.result c.args.dev _ _ c.handle.ensures.captures
