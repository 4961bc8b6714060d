use Rattle.std.proofs.Common.{◌∙◌, Ok, ap}
use Rattle.iio_device.specs.declared.membership.Member.{Member}
use Rattle.iio_layout.specs.Layout.{scan_size}
use Rattle.iio_layout.specs.Shape.{ShapeRecord}
use Rattle.iiod_hub.proofs.OpenLaws.{same_buffer}
use Rattle.iiod_hub.proofs.RemaskLaws.{remasks}
use Rattle.iiod_hub.proofs.link.HubLinkIio.remask.Goals as goal

pub returns-in-Ok-clause-bank : goal.returns-in-Ok-clause-bank
returns-in-Ok-clause-bank g c =
    remasks _ _ c.args.dev c.new-work.result.member.number _ _ c.args.seat.now c.begin_anew.new.self (Ok c.in-Ok.field-0) (Ok c.begin_anew.result)
    (ap (λ (m : Member). m.number) c.new-work.ensures.0)
    (same_buffer _ _ _ _ _ _ c.new-work.ensures.1 c.new-work.ensures.2
    (c.new-work.ensures.3 ∙ c.scan_size-size.ensures.value ∙ ap (λ (s : ShapeRecord). scan_size s c.args.mask.bits) c.shape.ensures))
    c.begin_anew.ensures
    c.in-Ok.ensures.told
