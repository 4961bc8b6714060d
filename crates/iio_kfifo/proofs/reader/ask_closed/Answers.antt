use Rattle.std.proofs.Common.{arith}
use Rattle.iio_kfifo.proofs.ReaderLaws.{ask_at}
use Rattle.iio_kfifo.proofs.reader.ask_closed.Goals as goal

pub load-requires : goal.load-requires
load-requires c =
    let h = c.requires.rests in (
      h.rests.ring,
      omega (arith, h.rests.words),
      ask_at c.args.shared.now.key c.args.seat.now.id c.args.shared.now.table_id.slots c.args.seat.now.me.0
          c.args.seat.now.me.1 h.rests.held h.rests.is h.idle,
    )
