use Rattle.std.proofs.Common.{refl}
use Rattle.iio_device.specs.Plug.{driver_of}
use Rattle.iio_kinds.specs.Faults.{joining_of}
use Rattle.iio_kinds.specs.OutStation.{out_head, out_station}
use Rattle.iio_kinds.specs.Station.{in_station}
use Rattle.iio_kinds.proofs.AnyCalls.{joins_once, joins_output}
use Rattle.iio_kinds.proofs.KeepLemmas.{keeps_input, keeps_output}
use Rattle.iio_kinds.proofs.any_device.AnyDevice.join.Goals as goal

pub returns-in-Input-clause-joins : goal.returns-in-Input-clause-joins
returns-in-Input-clause-joins g c =
    let drive = driver_of (λ b. (g.dyn-1.0.entry b.vtable).1.driver b.value) in
    let own = c.in-Input.device in
    rw c.in-Input.is
    (joins_once (joining_of own.device.core.number own.device.core.roster.shape c.args.mask c.args.capacity c.args.cyclic c.args.inner)
    c.join.result (in_station drive own) (in_station drive c.join.new.self) c.args.trigger.now c.join.new.trigger (rw c.in-Input.is at c.requires.cycles)
    c.join.ensures.joins)

pub returns-in-Input-clause-keeps : goal.returns-in-Input-clause-keeps
returns-in-Input-clause-keeps g c = rw c.in-Input.is (keeps_input _ _ c.join.ensures.keeps)

pub returns-in-Output-clause-joins : goal.returns-in-Output-clause-joins
returns-in-Output-clause-joins g c =
    let own = c.in-Output.device in
    rw c.in-Output.is
    (joins_output (out_head own) (out_station own) (joining_of own.number own.out.shape c.args.mask c.args.capacity c.args.cyclic c.args.inner) c.start.result
    (out_station own) (out_station c.start.new.self) c.args.trigger.now c.start.new.trigger refl (rw c.in-Output.is at c.requires.inner) c.start.ensures.joins)

pub returns-in-Output-clause-keeps : goal.returns-in-Output-clause-keeps
returns-in-Output-clause-keeps g c = rw c.in-Output.is (keeps_output _ _ c.start.ensures.keeps)
