use Rattle.std.proofs.Common.{map, ap, ◌∙◌}
use Rattle.iio_desc.specs.Description.{AverageRecord, Description, DeviceRecord, OutputRecord}
use Rattle.iio_script.proofs.OutlineLemmas.{finds_same}
use Rattle.iio_script.proofs.outline.outline.Goals as goal

pub returns : goal.returns
returns c =
    finds_same _ c.args.desc.now
    (c.in_ok-copy_triggers.ensures ∙ c.deref.ensures.value ∙ ap (λ (d : Description). d.triggers) c.desc.view_is)
    (c.in_ok-outline_devices.ensures ∙ ap (λ ds. map (λ (d : DeviceRecord). d.name) ds) c.deref-2.ensures.value
    ∙ ap (λ (d : Description). map (λ (d : DeviceRecord). d.name) d.devices) c.desc.view_is)
    (c.in_ok-outline_outputs.ensures ∙ ap (λ ds. map (λ (d : OutputRecord). d.name) ds) c.deref-3.ensures.value
    ∙ ap (λ (d : Description). map (λ (d : OutputRecord). d.name) d.outputs) c.desc.view_is)
    (c.in_ok-copy_averages.ensures ∙ ap (λ ds. map (λ (d : AverageRecord). d.name) ds) c.deref-4.ensures.value
    ∙ ap (λ (d : Description). map (λ (d : AverageRecord). d.name) d.averages) c.desc.view_is)
