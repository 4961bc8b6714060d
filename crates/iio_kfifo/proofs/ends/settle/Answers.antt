use Rattle.std.proofs.Common.{◌∙◌, ap, arith}
use Rattle.iio_kfifo.proofs.EndsLaws.{joins, settle_at}
use Rattle.iio_kfifo.proofs.ends.settle.Goals as goal

pub join_seat-requires : goal.join_seat-requires
join_seat-requires c =
    let h = c.requires in (
      h.ring.0,
      h.reads.0,
      h.reads.1,
      omega (arith, h.ring.1),
      joins c.args.shared.now.key c.args.seat.now.id c.args.other.id c.args.seat.now.me.0
          c.args.other.me.0 h.writes h.reads.2,
    )

pub load-requires : goal.load-requires
load-requires c =
    let h = c.requires in (
      c.join_seat.ensures.0 ∙ h.ring.0,
      omega (arith, h.ring.1),
      settle_at c.args.shared.now.key c.join_seat.new.seat.id c.args.shared.now.table_id.slots
          c.join_seat.new.seat.me.0 c.join_seat.new.seat.me.1 (ap (λ x. x.0.part) c.join_seat.ensures.2),
    )
