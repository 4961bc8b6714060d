use Rattle.std.proofs.Common.{◌+◌, ap, arith}
use Rattle.iio_kfifo.proofs.WriterLaws.{close_at}
use Rattle.iio_kfifo.proofs.writer.close_ring.Goals as goal

pub store-requires : goal.store-requires
store-requires c =
    let h = c.requires.rests in (
      h.rests.ring,
      omega (arith, h.rests.words),
      close_at c.args.shared.now.key c.args.seat.now.id c.args.shared.now.table_id.slots (c.args.lost + 1)
          c.args.seat.now.me.0 c.args.seat.now.me.1 h.rests.held h.rests.is h.still (ap (λ n. n + 1) c.requires.lost),
    )
