use Rattle.std.proofs.Common.{◌≡◌, ◌∙◌, ap, refl, arith}
use Rattle.iio_kfifo.specs.Ends.{ReaderEnd}
use Rattle.iiod_bank.specs.Received.{size_of}
use Rattle.iiod_hub.proofs.SeatLaws.{full, mid_is, short, some_read}
use Rattle.iiod_hub.proofs.seat.HubSeat.take_scans.Goals as goal

pub returns-then-count-most-clause-takes : goal.returns-then-count-most-clause-takes
returns-then-count-most-clause-takes c =
    let r = some_read c.closed-closed.result _ _ _ _ _ _ _ c.closed-closed.ensures.asks c.take_scans-count.ensures.takes c.if-count-eq0.false in
    let size : size_of c.take_scans-count.new.self ≡ size_of c.args.self.now.reader =
    ap (λ (x : ReaderEnd). size_of x) c.take_scans-count.ensures.same ∙ ap (λ (x : ReaderEnd). size_of x) c.closed-closed.ensures.same in (
      r.scans,
      r.bytes,
      short c.args._dev c.args.most c.closed-closed.result _ _ _ _ r.scans refl (mid_is c.args.self.now c.take_scans-count.new.self r.scans size r.received)
          c.nothing-then-count-most.ensures.seen
          (omega (arith, r.many, r.some)) (omega (arith, r.many, r.most)),
    )

pub returns-else-count-most-clause-takes : goal.returns-else-count-most-clause-takes
returns-else-count-most-clause-takes c =
    let r = some_read c.closed-closed.result _ _ _ _ _ _ _ c.closed-closed.ensures.asks c.take_scans-count.ensures.takes c.if-count-eq0.false in
    let size : size_of c.take_scans-count.new.self ≡ size_of c.args.self.now.reader =
    ap (λ (x : ReaderEnd). size_of x) c.take_scans-count.ensures.same ∙ ap (λ (x : ReaderEnd). size_of x) c.closed-closed.ensures.same in (
      r.scans,
      r.bytes,
      full c.args._dev c.args.most _ _ _ r.scans refl (mid_is c.args.self.now c.take_scans-count.new.self r.scans size r.received)
          (omega (arith, r.many, r.most, c.if-count-most.false)) c.requires.some,
    )
