use Rattle.std.proofs.Common.{None, ◌∙◌, arith}
use Rattle.iio_layout.specs.Id.{same_id}
use Rattle.iio_layout.specs.Laws.{count_is}
use Rattle.iio_layout.specs.Shape.{id_at}
use Rattle.iio_layout.proofs.ShapeLemmas.{channel_of-at, place_within}
use Rattle.iio_layout.proofs.shape.Shape.find.Goals as goal

pub overflow_cast-result : goal.overflow_cast-result
overflow_cast-result c =
    let shape = c.args.self.now in
    let within = place_within (λ channel. same_id (id_at channel) (c.in_ok-kind.kind, c.in_ok-kind.suffix)) shape.channels c.in_ok-at.at
    c.in_ok-at.ensures.value in
    omega (arith, within, count_is shape, c.in_ok-at.ensures.sound.few)

pub returns-in_err-at : goal.returns-in_err-at
returns-in_err-at c =
    c.from_residual-in_err-at.ensures
    ∙ channel_of-at c.args.self.now c.args.id.now (c.in_ok-kind.kind, c.in_ok-kind.suffix) None c.in_ok-kind.ensures.value c.in_err-at.ensures.value
