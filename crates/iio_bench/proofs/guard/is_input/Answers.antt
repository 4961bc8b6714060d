use Rattle.std.proofs.Common.{◌∙◌, Bool, ap, sym}
use Rattle.std.specs.Prelude.{◌&&◌, not}
use Rattle.iio_desc.specs.Kind.{is_average}
use Rattle.iio_core.specs.Front.{kind_at}
use Rattle.iio_bench.specs.Bench.{front_of}
use Rattle.iio_bench.proofs.AnyLemmas.{input_is}
use Rattle.iio_bench.proofs.guard.is_input.Goals as goal

pub returns-then-not-is_output : goal.returns-then-not-is_output
returns-then-not-is_output g c =
    ap not c.is_average.ensures ∙ sym (ap (λ (b : Bool). not b && not (is_average (kind_at (front_of c.args.bench.now) c.args.dev))) (sym c.is_output.ensures
    ∙ c.if-not-is_output.true)) ∙ input_is (kind_at (front_of c.args.bench.now) c.args.dev)

pub returns-else-not-is_output : goal.returns-else-not-is_output
returns-else-not-is_output g c =
    ap not c.if-not-is_output.false ∙ sym (ap (λ (b : Bool). not b && not (is_average (kind_at (front_of c.args.bench.now) c.args.dev))) (sym
    c.is_output.ensures ∙ c.if-not-is_output.false)) ∙ input_is (kind_at (front_of c.args.bench.now) c.args.dev)
