use Rattle.std.proofs.Common.{◌∙◌, sym, ap, arith}
use Rattle.iio_kfifo.specs.declared.view.Part.TheVariants.{Fresh}
use Rattle.iio_kfifo.specs.Rule.{new_view}
use Rattle.iio_kfifo.proofs.EndsLaws.{splits}
use Rattle.iio_kfifo.proofs.ends.ends_of.Goals as goal

pub split_seat-other-requires : goal.split_seat-other-requires
split_seat-other-requires c = (
  c.requires.ring,
  omega (arith, c.requires.table.1),
  splits c.args.table.shared.key c.args.seat.id c.args.seat.me.0
      (ap (λ x. x.0) c.requires.seat ∙ ap (λ n. new_view Fresh n) (sym c.requires.key.1)),
)
