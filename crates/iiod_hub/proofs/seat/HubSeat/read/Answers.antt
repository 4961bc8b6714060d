use Rattle.std.proofs.Common.{ap}
use Rattle.iio_kfifo.specs.Ends.{ReaderEnd}
use Rattle.iiod_hub.proofs.SeatLaws.{some_read}
use Rattle.iiod_hub.proofs.seat.HubSeat.read.Goals as goal

pub returns-then-count-want-clause-reads : goal.returns-then-count-want-clause-reads
returns-then-count-want-clause-reads c =
    rw (ap (λ (r : ReaderEnd). r.knows) c.nothing-then-count-want.ensures.reader)
    (some_read c.closed-closed.result _ _ _ _ _ _ _ c.closed-closed.ensures.asks c.take_scans-count.ensures.takes c.if-count-eq0.false)

pub returns-clause-reads : goal.returns-clause-reads
returns-clause-reads c = some_read c.closed-closed.result _ _ _ _ _ _ _ c.closed-closed.ensures.asks c.take_scans-count.ensures.takes c.if-count-eq0.false
