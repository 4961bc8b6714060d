use Rattle.std.proofs.Common.{rules, ◌∙◌, Ok, Err, ap}
use Rattle.iio_layout.specs.Layout.{scan_size}
use Rattle.iio_layout.specs.Shape.{ShapeRecord}
use Rattle.iio_core.specs.Front.{Front, size_at}
use Rattle.iiod_hub.proofs.OpenLaws.{opens, same_buffer}
use Rattle.iiod_hub.proofs.link.HubLinkIio.open.Goals as goal

pub returns-in-Ok-clause-bank : goal.returns-in-Ok-clause-bank
returns-in-Ok-clause-bank g c =
    opens _ _ c.args.dev _ _ (Ok c.in-Ok.field-0) _
    (same_buffer _ _ _ _ _ _ c.new-job.ensures.0 c.new-job.ensures.1
    (c.new-job.ensures.2 ∙ c.scan_size-size.ensures.value ∙ ap (λ (s : ShapeRecord). scan_size s c.args.mask.bits) c.shape.ensures
    ∙ ap (λ (f : Front). size_at f c.args.dev c.args.mask.bits) c.front.ensures))
    (search rules) c.in-Ok.ensures.told

pub returns-in-Err-clause-bank : goal.returns-in-Err-clause-bank
returns-in-Err-clause-bank g c =
    opens _ _ c.args.dev _ _ (Err c.in-Err.no) _
    (same_buffer _ _ _ _ _ _ c.new-job.ensures.0 c.new-job.ensures.1
    (c.new-job.ensures.2 ∙ c.scan_size-size.ensures.value ∙ ap (λ (s : ShapeRecord). scan_size s c.args.mask.bits) c.shape.ensures
    ∙ ap (λ (f : Front). size_at f c.args.dev c.args.mask.bits) c.front.ensures))
    (search rules) c.in-Err.ensures.told
