use Rattle.iio_device.specs.Plug.{driver_of}
use Rattle.iio_device.specs.Device.{view_of}
use Rattle.iio_kinds.proofs.HandleLemmas.{captures_are, handled_any, handles_keep}
use Rattle.iio_kinds.proofs.calls.handle_due.Goals as goal

pub returns-clause-answer : goal.returns-clause-answer
returns-clause-answer g c =
    let drive = driver_of (λ b. (g.dyn-1.0.entry b.vtable).1.driver b.value) in
    (handled_any c.args.due.now c.handle.result (view_of drive c.args.device.now) (view_of drive c.handle.new.self) c.handle.ensures c.requires
    c.args.device.now.core.roster.sound.ruled).0

pub returns-clause-station : goal.returns-clause-station
returns-clause-station g c =
    let drive = driver_of (λ b. (g.dyn-1.0.entry b.vtable).1.driver b.value) in
    (handled_any c.args.due.now c.handle.result (view_of drive c.args.device.now) (view_of drive c.handle.new.self) c.handle.ensures c.requires
    c.args.device.now.core.roster.sound.ruled).1

pub returns-clause-keeps : goal.returns-clause-keeps
returns-clause-keeps g c =
    let drive = driver_of (λ b. (g.dyn-1.0.entry b.vtable).1.driver b.value) in
    handles_keep c.args.due.now c.handle.result (view_of drive c.args.device.now) (view_of drive c.handle.new.self) c.handle.ensures

pub returns-clause-captures : goal.returns-clause-captures
returns-clause-captures g c =
    let drive = driver_of (λ b. (g.dyn-1.0.entry b.vtable).1.driver b.value) in
    captures_are c.args.due.now c.handle.result (view_of drive c.args.device.now) (view_of drive c.handle.new.self) c.handle.ensures
