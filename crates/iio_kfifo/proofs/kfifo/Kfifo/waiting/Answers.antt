use Rattle.std.proofs.Common.{◌*◌, sym}
use Rattle.iio_kfifo.specs.Ring.{bytes_from}
use Rattle.iio_kfifo.proofs.Scans.{length-scans_in}
use Rattle.iio_kfifo.proofs.kfifo.Kfifo.waiting.Goals as goal

pub returns-clause-count : goal.returns-clause-count
returns-clause-count c =
    rw (← c.self.view_is) (sym
    (length-scans_in c.self.inside.size c.self.inside.waiting (bytes_from (c.self.inside.first * c.self.inside.size) c.self.inside.bytes.items)))
