use Rattle.std.proofs.lemmas.Result.{on_ok_weaker}
use Rattle.iio_device.specs.Plug.{driver_of}
use Rattle.iio_system.proofs.MoveLaws.{unplug_makes}
use Rattle.iio_system.proofs.moves.unplug.Goals as goal

pub returns-clause-makes : goal.returns-clause-makes
returns-clause-makes g c =
    on_ok_weaker c.push_unplug.result
    (λ line cs. unplug_makes (driver_of (λ b. (g.dyn-1.0.entry b.vtable).1.driver b.value)) c.args.dev c.args.bench.now c.unplug-was_plugged.new.self cs
    c.args.out.now.items c.push_unplug.new.out.items c.name_of_device.result.now c.unplug-was_plugged.result
    c.requires c.unplug-was_plugged.ensures.front c.unplug-was_plugged.ensures.told c.name_of_device.ensures
    c.unplug-was_plugged.ensures.answer line) c.push_unplug.ensures
