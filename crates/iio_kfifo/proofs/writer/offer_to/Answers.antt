use Rattle.std.proofs.Common.{◌+◌, ◌%◌, ◌<◌, ℕ, length, sym, refl, ap, ◌∙◌, arith}
use Rattle.atomic_table.specs.Table.{rest}
use Rattle.iio_kfifo.specs.Offers.{accepted}
use Rattle.iio_kfifo.proofs.WriterLaws.{look_out_at, accept_at}
use Rattle.iio_kfifo.proofs.WriterCalls.{begun, in_hand_is, may_accept}
use Rattle.iio_kfifo.proofs.writer.offer_to.Goals as goal

pub load-found-requires : goal.load-found-requires
load-found-requires c =
    let h = c.requires.rests in (
      h.rests.ring,
      omega (arith, h.rests.words),
      look_out_at c.args.shared.now.key c.args.seat.now.id c.args.shared.now.table_id.slots c.args.seat.now.me.0
          c.args.seat.now.me.1 h.rests.held h.rests.is h.idle h.still h.rests.slots,
    )

pub slot_mut-cell-requires : goal.slot_mut-cell-requires
slot_mut-cell-requires c =
    let h = c.requires.rests in
    let z = c.args.shared.now.table_id.slots in
    let room : length (accepted c.args.seat.now.me.0.writing.offers) < c.load-found.result + z =
    omega (arith, c.if-count-found.false, c.requires.count, c.requires.slots, h.rests.slots) in
    let g = begun z c.load-found.result c.args.seat.now.me c.load-found.new.seat.me c.load-found.ensures.2 room in (
      c.load-found.ensures.0 ∙ h.rests.ring,
      (
        g.cell,
        in_hand_is c.load-found.new.seat.me.1 _ _ g.cell
            (ap (λ (n : ℕ). n % z) (sym c.requires.count) ∙ ap (λ (n : ℕ). c.args.count % n) (h.rests.slots ∙ c.requires.slots)) g.held,
      ),
    )

pub store-requires : goal.store-requires
store-requires c =
    let h = c.requires.rests in
    let z = c.args.shared.now.table_id.slots in
    let room : length (accepted c.args.seat.now.me.0.writing.offers) < c.load-found.result + z =
    omega (arith, c.if-count-found.false, c.requires.count, c.requires.slots, h.rests.slots) in
    let g = begun z c.load-found.result c.args.seat.now.me c.load-found.new.seat.me c.load-found.ensures.2 room in (
      c.load-found.ensures.0 ∙ h.rests.ring,
      omega (arith, h.rests.words),
      accept_at c.args.shared.now.key c.load-found.new.seat.id z c.load-found.new.seat.me.0 (c.args.count % c.args.slots) _ (rest c.load-found.new.seat.me.1)
          (c.args.count + 1)
          (ap (λ l. rest l) g.held)
          (may_accept c.args.shared.now.key z c.args.slots c.load-found.result c.args.count c.args.lost c.args.seat.now.me.0 c.load-found.new.seat.me _
          h.rests.is h.still c.requires.count c.requires.lost c.requires.fewer c.requires.slots
          (ap (λ l. length l) c.copy_from_slice.ensures.items ∙ c.requires.size) refl g),
    )
