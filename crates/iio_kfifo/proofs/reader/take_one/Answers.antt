use Rattle.std.proofs.Common.{◌≡◌, ◌+◌, ◌%◌, ◌<◌, ◌≤◌, ◌∷◌, ℕ, length, sym, refl, ap, subst, ◌∙◌, arith}
use Rattle.atomic_table.specs.Table.{rest}
use Rattle.iio_kfifo.specs.Steps.{Turned}
use Rattle.iio_kfifo.proofs.ReaderLaws.{look_in_at, receive_at}
use Rattle.iio_kfifo.proofs.ReaderCalls.{looked, begun, next, front_is, same_cell, may_receive}
use Rattle.iio_kfifo.proofs.reader.take_one.Goals as goal

pub load-found-requires : goal.load-found-requires
load-found-requires c =
    let h = c.requires.rests in (
      h.rests.ring,
      omega (arith, h.rests.words),
      look_in_at c.args.shared.now.key c.args.seat.now.id c.args.shared.now.table_id.slots c.args.seat.now.me.0
          c.args.seat.now.me.1 h.rests.held h.rests.is h.idle h.rests.slots,
    )

pub slot_mut-cell-requires : goal.slot_mut-cell-requires
slot_mut-cell-requires c =
    let h = c.requires.rests in
    let z = c.args.shared.now.table_id.slots in
    let a = c.args.seat.now.me in
    let b = c.load-found.new.seat.me in
    let g = looked z c.load-found.result a b c.load-found.ensures.2 in
    let some : 0 < length g.hand = omega (arith, g.found, c.requires.count, c.if-found-count.false) in
    let n = next z a.0.size (length a.0.reading.received) 0 g.hand b.1 (begun z c.load-found.result a.0 b g) some in
    let from : length a.0.reading.received + 0 ≡ c.args.count = omega (arith, c.requires.count) in (
      c.load-found.ensures.0 ∙ h.rests.ring,
      (
        n.cell,
        front_is b.1 n.behind _ (c.args.count % c.args.slots) n.cell
            (ap (λ (m : ℕ). m % z) from ∙ ap (λ (m : ℕ). c.args.count % m) (h.rests.slots ∙ c.requires.slots)) n.is,
      ),
    )

pub copy_from_slice-requires : goal.copy_from_slice-requires
copy_from_slice-requires c =
    let h = c.requires.rests in
    let z = c.args.shared.now.table_id.slots in
    let a = c.args.seat.now.me in
    let b = c.load-found.new.seat.me in
    let g = looked z c.load-found.result a b c.load-found.ensures.2 in
    let some : 0 < length g.hand = omega (arith, g.found, c.requires.count, c.if-found-count.false) in
    let n = next z a.0.size (length a.0.reading.received) 0 g.hand b.1 (begun z c.load-found.result a.0 b g) some in
    let same = same_cell b.1 _ n.behind _ _ c.slot_mut-cell.result.now n.cell c.slot_mut-cell.ensures.value n.is in
    c.requires.size ∙ sym h.rests.size ∙ sym n.sized ∙ ap (λ x. length x.bytes.items) (sym same) ∙ ap (λ xs. length xs) (sym c.deref.ensures.value)

pub store-requires : goal.store-requires
store-requires c =
    let h = c.requires.rests in
    let k = c.args.shared.now.key in
    let z = c.args.shared.now.table_id.slots in
    let a = c.args.seat.now.me in
    let b = c.load-found.new.seat.me in
    let g = looked z c.load-found.result a b c.load-found.ensures.2 in
    let some : 1 ≤ length g.hand = omega (arith, g.found, c.requires.count, c.if-found-count.false) in
    let held = (c.args.count % c.args.slots, c.slot_mut-cell.result.now) ∷ rest b.1 in
    let turned =
    subst (λ l. Turned z a.0.size (length a.0.reading.received) 0 g.hand l) c.slot_mut-cell.ensures.value (begun z c.load-found.result a.0 b g) in (
      c.load-found.ensures.0 ∙ h.rests.ring,
      omega (arith, h.rests.words),
      receive_at k c.load-found.new.seat.id z (c.args.count + 1) b.0 held
          (may_receive k z c.load-found.result 1 0 a.0 b b.0 held c.args.count g h.rests.is h.rests.slots h.rests.size refl turned c.requires.count some),
    )
