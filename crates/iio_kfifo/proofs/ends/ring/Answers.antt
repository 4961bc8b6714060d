use Rattle.std.proofs.Common.{refl, arith}
use Rattle.iio_kfifo.proofs.EndsLaws.{opens}
use Rattle.iio_kfifo.proofs.ends.ring.Goals as goal

pub new-requires : goal.new-requires
new-requires c =
    opens (record { slots = c.args.capacity; size = c.args.size }) c.in_ok-cells.cells.items _ (record { count = refl; ins = refl; outs = refl; closed = refl })
    (omega (arith, c.requires.some)) c.in_ok-cells.ensures.count c.in_ok-cells.ensures.size
