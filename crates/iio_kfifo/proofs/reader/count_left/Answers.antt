use Rattle.std.proofs.Common.{arith}
use Rattle.iio_kfifo.proofs.ReaderLaws.{count_in_at}
use Rattle.iio_kfifo.proofs.reader.count_left.Goals as goal

pub load-found-requires : goal.load-found-requires
load-found-requires c =
    let h = c.requires.rests in (
      h.rests.ring,
      omega (arith, h.rests.words),
      count_in_at c.args.shared.now.key c.args.seat.now.id c.args.shared.now.table_id.slots c.args.seat.now.me.0
          c.args.seat.now.me.1 h.rests.held h.rests.is h.idle,
    )
