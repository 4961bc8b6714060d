use Rattle.std.proofs.Common.{◌∙◌, refl, sym}
use Rattle.iio_device.specs.Plug.{driver_of}
use Rattle.iio_device.specs.Device.{view_of}
use Rattle.iio_kinds.specs.Acting.{id_of}
use Rattle.iio_kinds.proofs.RemaskLemmas.{dead}
use Rattle.iio_kinds.proofs.remasking.remask.Goals as goal

pub returns-then-not-is_live_under-clause-acts : goal.returns-then-not-is_live_under-clause-acts
returns-then-not-is_live_under-clause-acts g c =
    let view = view_of (driver_of (λ b. (g.dyn-1.0.entry b.vtable).1.driver b.value)) c.args.device.now in
    dead (id_of c.args.seat.now.number c.args.seat.now.mask) c.args.mask c.args.seat.now.capacity view view
    (sym c.plugged.ensures ∙ c.if-not-plugged.false) (sym c.is_live_under.ensures ∙ c.if-not-is_live_under.true) refl
