use Rattle.std.proofs.Common.{◌+◌, ◌*◌, ℕ, List, vec_capacity, ap, sym, ◌∙◌, refl, arith}
use Rattle.iio_kfifo.specs.Queue.{Queue}
use Rattle.iio_kfifo.specs.Ring.{bytes_from}
use Rattle.iio_kfifo.proofs.Rings.{offer_ring, ring_offer}
use Rattle.iio_kfifo.proofs.Scans.{length-scans_in}
use Rattle.iio_kfifo.proofs.kfifo.KfifoTail.offer.Goals as goal

pub returns-then-self-clause-gives : goal.returns-then-self-clause-gives
returns-then-self-clause-gives c =
    let q = c.self.inside in
    rw (← c.self.view_is) (omega (arith, length-scans_in q.size q.waiting (bytes_from (q.first * q.size) q.bytes.items)), refl)

pub invariant_of-self-2 : goal.invariant_of-self-2
invariant_of-self-2 c =
    let q = c.self.inside in
    let size = ap (λ (v : Queue). v.size) c.self.view_is in
    let m = c.self.invariant.most in
    rw (c.write_at.ensures.items, c.slot_after-slot.ensures.value)
    (offer_ring q.first q.waiting q.size q.capacity (vec_capacity q.bytes) q.bytes.items c.self.invariant (omega (arith, m)) c.args.scan.now
    (c.requires.size ∙ sym size) (vec_capacity c.write_at.new.bytes) c.write_at.ensures.room)

pub returns-clause-gives : goal.returns-clause-gives
returns-clause-gives c =
    let q = c.self.inside in
    let size = ap (λ (v : Queue). v.size) c.self.view_is in
    let m = c.self.invariant.most in
    let offered =
    ring_offer q.first q.waiting q.size q.capacity (vec_capacity q.bytes) q.bytes.items c.self.invariant (omega (arith, m)) c.args.scan.now
    (c.requires.size ∙ sym size) in
    let with_scans : List (List ℕ) → Queue = λ xs. record { scans = xs; taken = q.taken + 1; lost = q.lost; size = q.size; capacity = q.capacity } in
    rw (← c.self.view_is) (
      omega (arith, m, length-scans_in q.size q.waiting (bytes_from (q.first * q.size) q.bytes.items)),
      rw
          (c.write_at.ensures.items, c.slot_after-slot.ensures.value) (ap with_scans offered),
    )
