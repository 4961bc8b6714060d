use Rattle.iio_device.specs.Plug.{driver_of}
use Rattle.iio_device.specs.Device.{view_of}
use Rattle.iio_kinds.specs.Acting.{id_of}
use Rattle.iio_kinds.proofs.CallLemmas.{under_is}
use Rattle.iio_kinds.proofs.TakeLemmas.{take_empty, take_none, take_scan}
use Rattle.iio_kinds.proofs.calls.take_from.Goals as goal

pub returns-in-None-clause-takes : goal.returns-in-None-clause-takes
returns-in-None-clause-takes g c =
    take_none (id_of c.args.number c.args._mask) _ _ _ _ _
    (under_is (id_of c.args.number c.args._mask) _ c.args.device.now.core.roster.sound.numbers c.requires.there) c.requires.size c.in-None.ensures.taken
    c.in-None.ensures.rest c.nothing.ensures

pub returns-in-Some-false-clause-takes : goal.returns-in-Some-false-clause-takes
returns-in-Some-false-clause-takes g c =
    take_empty (id_of c.args.number c.args._mask) _ c.in-Some-false.field-0 c.args.out.now c.take.new.out
    (view_of (driver_of (λ b. (g.dyn-1.0.entry b.vtable).1.driver b.value)) c.args.device.now)
    (view_of (driver_of (λ b. (g.dyn-1.0.entry b.vtable).1.driver b.value)) c.take.new.self)
    (under_is (id_of c.args.number c.args._mask) _ c.args.device.now.core.roster.sound.numbers c.requires.there) c.in-Some-false.field-0-test
    c.in-Some-false.ensures.taken c.in-Some-false.ensures.rest c.nothing-in-Some-false.ensures

pub returns-in-Some-true-clause-takes : goal.returns-in-Some-true-clause-takes
returns-in-Some-true-clause-takes g c =
    take_scan (id_of c.args.number c.args._mask) c.in-Some-true.field-0 c.args.out.now c.take.new.out
    (view_of (driver_of (λ b. (g.dyn-1.0.entry b.vtable).1.driver b.value)) c.args.device.now)
    (view_of (driver_of (λ b. (g.dyn-1.0.entry b.vtable).1.driver b.value)) c.take.new.self)
    (under_is (id_of c.args.number c.args._mask) _ c.args.device.now.core.roster.sound.numbers c.requires.there) c.in-Some-true.field-0-test
    c.args.device.now.core.roster.sound.numbers c.in-Some-true.ensures.taken c.in-Some-true.ensures.rest
