use Rattle.std.proofs.Common.{ℤ, pos, List, None, ap, sym, ◌∙◌}
use Rattle.std.proofs.lemmas.Simd.{splat_is_map}
use Rattle.iio_output.specs.Out.{OutRecord}
use Rattle.iio_output.proofs.out.Out.new.Goals as goal

pub returns : goal.returns
returns c =
    let shape = c.args.shape in
    let with_last : List ℤ → OutRecord = λ vs. record { shape = shape; last = vs; underruns = 0; writer = None } in
    ap with_last (c.in_ok-last.ensures.items_if_clones_equal (λ y h. h) ∙ splat_is_map shape.channels c.inputs.result (pos 0) (sym c.inputs.ensures.value))
