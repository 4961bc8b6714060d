use Rattle.std.proofs.Common.{◌+◌, ◌<◌, ◌-◌, ◌^◌, arith}
use Rattle.iio_kfifo.proofs.WriterCalls.{one_taken, one_lost, counts_taken, counts_lost}
use Rattle.iio_kfifo.proofs.writer.WriterTail.offer.Goals as goal

pub invariant_of-self : goal.invariant_of-self
invariant_of-self c =
    let q = c.self.inside in
    let k = c.deref.result.now.shared.key in (
      rw (← c.deref.ensures) c.in-Taken.ensures.rests,
      counts_taken q.slots q.seat.me.0.writing c.offer_to-answer.new.seat.me.0.writing c.args.scan.now _ q.count q.lost q.slots q.size c.self.invariant.1
          c.in-Taken.ensures.answers,
    )

pub invariant_of-self-in-Lost : goal.invariant_of-self-in-Lost
invariant_of-self-in-Lost c =
    let q = c.self.inside in
    let h = c.self.invariant in
    let asked = rw (← c.self.view_is) at c.requires.fewer in
    let fewer : q.count + q.lost < 2 ^ 64 - 1 = omega (arith, asked, h.1.counted, h.1.lost_is) in (
      rw (← c.deref.ensures) c.in-Lost.ensures.rests,
      counts_lost q.slots q.seat.me.0.writing c.offer_to-answer.new.seat.me.0.writing c.args.scan.now _ q.count q.lost q.slots q.size h.1
          (omega (arith, h.0.rests.room, h.1.slots_is)) fewer c.in-Lost.ensures.answers,
    )

pub returns-in-Taken-clause-counts : goal.returns-in-Taken-clause-counts
returns-in-Taken-clause-counts c =
    let q = c.self.inside in
    rw (← c.self.view_is) (rw c.in-Taken.is
    (one_taken q.slots q.seat.me.0.writing c.offer_to-answer.new.seat.me.0.writing c.args.scan.now c.in-Taken.ensures.answers))

pub returns-in-Lost-clause-counts : goal.returns-in-Lost-clause-counts
returns-in-Lost-clause-counts c =
    let q = c.self.inside in
    rw (← c.self.view_is) (rw c.in-Lost.is
    (one_lost q.slots q.seat.me.0.writing c.offer_to-answer.new.seat.me.0.writing c.args.scan.now c.in-Lost.ensures.answers))
