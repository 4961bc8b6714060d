use Rattle.std.proofs.Common.{◌∙◌, ap, refl}
use Rattle.iio_device.specs.Plug.{driver_of}
use Rattle.iio_device.specs.Device.{view_of}
use Rattle.iio_kfifo.specs.Queue.{Queue}
use Rattle.iio_kinds.specs.Acting.{id_of}
use Rattle.iio_kinds.proofs.CallLemmas.{under_is}
use Rattle.iio_kinds.proofs.JoinLemmas.{good_mask}
use Rattle.iio_kinds.proofs.RemaskLemmas.{done, faulty, knows_by}
use Rattle.iio_kinds.proofs.remasking.exchange.Goals as goal

pub returns-in-Err-clause-acts : goal.returns-in-Err-clause-acts
returns-in-Err-clause-acts g c =
    let id = id_of c.args.seat.now.number c.args.seat.now.mask in
    let view = view_of (driver_of (λ b. (g.dyn-1.0.entry b.vtable).1.driver b.value)) c.args.device.now in
    faulty id c.args.mask c.args.seat.now.capacity view view c.in-Err.fault c.remask_no.result
    (good_mask c.args.device.now.core.roster.shape c.args.mask.bits c.requires.below c.requires.channel)
    (knows_by id c.args.mask c.args.seat.now.capacity view view (under_is id _ c.args.device.now.core.roster.sound.numbers c.requires.there))
    c.in-Err.ensures c.remask_no.ensures refl

pub returns-in-Ok-remask-clause-acts : goal.returns-in-Ok-remask-clause-acts
returns-in-Ok-remask-clause-acts g c =
    let id = id_of c.args.seat.now.number c.args.seat.now.mask in
    let view = view_of (driver_of (λ b. (g.dyn-1.0.entry b.vtable).1.driver b.value)) c.args.device.now in
    let after = view_of (driver_of (λ b. (g.dyn-1.0.entry b.vtable).1.driver b.value)) c.remask.new.self in
    done id c.args.mask c.args.seat.now.capacity view after c.in-Ok.tail c.in-Ok-remask.before c.from.result
    (good_mask c.args.device.now.core.roster.shape c.args.mask.bits c.requires.below c.requires.channel)
    (knows_by id c.args.mask c.args.seat.now.capacity view after (under_is id _ c.args.device.now.core.roster.sound.numbers c.requires.there))
    (ap (λ (q : Queue). q.scans) c.in-Ok.ensures) (ap (λ (q : Queue). q.lost) c.in-Ok.ensures) (ap (λ (q : Queue). q.capacity) c.in-Ok.ensures)
    (c.from.ensures ∙ c.waiting.ensures.count) c.in-Ok-remask.ensures
