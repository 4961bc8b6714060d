use Rattle.std.proofs.Common.{ℕ, Option, ap, ◌∙◌, arith, unwrap_or}
use Rattle.iio_device.specs.Plug.{driver_of}
use Rattle.iio_device.specs.Device.{view_of}
use Rattle.iio_kinds.specs.Acting.{id_of}
use Rattle.iio_kinds.proofs.TakeLemmas.{bytes_within, no_scans_taken, scans_taken}
use Rattle.iio_kinds.proofs.calls.take_scans.Goals.{in_default-via-in-Some+else-count-gt0, in_default-via-in_default}
use Rattle.iio_kinds.proofs.calls.take_scans.Goals as goal

pub returns-in-Some-clause-takes : goal.returns-in-Some-clause-takes
returns-in-Some-clause-takes g c =
    scans_taken (id_of c.args.number c.args.mask) c.args.most c.args.out.now.items c.take_scans.new.out.items
    (view_of (driver_of (λ b. (g.dyn-1.0.entry b.vtable).1.driver b.value)) c.args.device.now)
    (view_of (driver_of (λ b. (g.dyn-1.0.entry b.vtable).1.driver b.value)) c.take_scans.new.self)
    c.args.device.now.core.roster.sound.numbers c.take_scans.result c.in-Some.count c.take_scans.ensures.taken c.take_scans.ensures.rest c.in-Some.is
    c.if-count-gt0.true

pub returns-in_default-clause-takes : goal.returns-in_default-clause-takes
returns-in_default-clause-takes g c =
    no_scans_taken (id_of c.args.number c.args.mask) c.args.most c.args.out.now.items c.take_scans.new.out.items
    (view_of (driver_of (λ b. (g.dyn-1.0.entry b.vtable).1.driver b.value)) c.args.device.now)
    (view_of (driver_of (λ b. (g.dyn-1.0.entry b.vtable).1.driver b.value)) c.take_scans.new.self)
    c.args.device.now.core.roster.sound.numbers c.nothing.result c.take_scans.result c.take_scans.ensures.taken c.take_scans.ensures.rest c.requires.some
    (elim c.in_default.branch [
      | in_default-via-in-Some+else-count-gt0 w ↦ ap (λ (o : Option ℕ). unwrap_or o 0) w.in-Some.is
          ∙ omega (arith, w.if-count-gt0.false)
      | in_default-via-in_default w ↦ ap (λ (o : Option ℕ). unwrap_or o 0) w.in_default.is
    ])
    c.nothing.ensures

pub returns-in-Some-clause-most : goal.returns-in-Some-clause-most
returns-in-Some-clause-most g c =
    bytes_within (id_of c.args.number c.args.mask) c.args.most c.args.out.now.items c.take_scans.new.out.items
    (view_of (driver_of (λ b. (g.dyn-1.0.entry b.vtable).1.driver b.value)) c.args.device.now)
    (view_of (driver_of (λ b. (g.dyn-1.0.entry b.vtable).1.driver b.value)) c.take_scans.new.self)
    c.args.device.now.core.roster.sound.numbers c.take_scans.result _ c.take_scans.ensures.taken c.take_scans.ensures.sized

pub returns-in_default-clause-most : goal.returns-in_default-clause-most
returns-in_default-clause-most g c =
    bytes_within (id_of c.args.number c.args.mask) c.args.most c.args.out.now.items c.take_scans.new.out.items
    (view_of (driver_of (λ b. (g.dyn-1.0.entry b.vtable).1.driver b.value)) c.args.device.now)
    (view_of (driver_of (λ b. (g.dyn-1.0.entry b.vtable).1.driver b.value)) c.take_scans.new.self)
    c.args.device.now.core.roster.sound.numbers c.take_scans.result _ c.take_scans.ensures.taken c.take_scans.ensures.sized
