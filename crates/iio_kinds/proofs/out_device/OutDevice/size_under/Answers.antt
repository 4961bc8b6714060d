use Rattle.std.proofs.Common.{◌∙◌, ap}
use Rattle.iio_layout.specs.Layout.{scan_size}
use Rattle.iio_kinds.proofs.OutLemmas.{size_cut}
use Rattle.iio_kinds.proofs.out_device.OutDevice.size_under.Goals as goal
use Rattle.iio_kinds.proofs.out_device.OutDevice.size_under.Goals.{then-count-lt64, else-count-lt64}

pub returns : goal.returns
returns c =
    c.scan_size.ensures.value
    ∙ elim c.if-count-lt64.branch [
      | then-count-lt64 w ↦ size_cut c.args.self.now.out.shape c.shape-shape.result.now c.count-count.result c.args.mask.bits c.if-count-lt64.bits
          c.shape-shape.ensures c.count-count.ensures.value w.if-count-lt64.true w.bits-is
      | else-count-lt64 w ↦ ap (λ s. scan_size s c.if-count-lt64.bits) c.shape-shape.ensures ∙ ap (scan_size c.args.self.now.out.shape) w.bits-is
    ]
