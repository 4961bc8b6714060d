use Rattle.std.proofs.Common.{◌∙◌, refl, sym}
use Rattle.iio_device.specs.Plug.{driver_of}
use Rattle.iio_device.specs.Device.{view_of}
use Rattle.iio_kinds.specs.Acting.{id_of}
use Rattle.iio_kinds.proofs.CallLemmas.{scans_absent}
use Rattle.iio_kinds.proofs.TakeLemmas.{nothing_taken}
use Rattle.iio_kinds.proofs.calls.take.Goals as goal

pub returns-else-is_live_under-clause-takes : goal.returns-else-is_live_under-clause-takes
returns-else-is_live_under-clause-takes g c =
    let view = view_of (driver_of (λ b. (g.dyn-1.0.entry b.vtable).1.driver b.value)) c.args.device.now in
    nothing_taken (id_of c.args.number c.args.mask) c.nothing.result view view
    (scans_absent (id_of c.args.number c.args.mask) c.args.device.now.core.roster.members.items (sym c.is_live_under.ensures ∙ c.if-is_live_under.false)) refl
    c.nothing.ensures c.args.out.now
