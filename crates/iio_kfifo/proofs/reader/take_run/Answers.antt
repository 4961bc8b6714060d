use Rattle.std.proofs.Common.{◌≡◌, ◌+◌, ◌*◌, ◌≤◌, length, sym, ap, subst, ◌∙◌, arith}
use Rattle.iio_kfifo.specs.Steps.{Turned}
use Rattle.iio_kfifo.proofs.ReaderLaws.{look_in_at, receive_at}
use Rattle.iio_kfifo.proofs.ReaderCalls.{looked, may_receive}
use Rattle.iio_kfifo.proofs.reader.take_run.Goals as goal

pub load-found-requires : goal.load-found-requires
load-found-requires c =
    let h = c.requires.rests in (
      h.rests.ring,
      omega (arith, h.rests.words),
      look_in_at c.args.shared.now.key c.args.seat.now.id c.args.shared.now.table_id.slots c.args.seat.now.me.0
          c.args.seat.now.me.1 h.rests.held h.rests.is h.idle h.rests.slots,
    )

pub store-requires : goal.store-requires
store-requires c =
    let h = c.requires.rests in
    let k = c.args.shared.now.key in
    let z = c.args.shared.now.table_id.slots in
    let a = c.args.seat.now.me in
    let b = c.load-found.new.seat.me in
    let d = c.append_run.new.seat.me in
    let g = looked z c.load-found.result a b c.load-found.ensures.2 in
    let run = c.min-run.result in
    let few : run ≤ length g.hand = omega (arith, g.found, c.requires.count, c.min-run.ensures) in
    let from_view = rw g.view at c.append_run.ensures.held in
    let turned : Turned z a.0.size (length a.0.reading.received) run g.hand d.1 =
    subst (λ s. Turned s a.0.size (length a.0.reading.received) run g.hand d.1) (sym c.requires.slots ∙ sym h.rests.slots) from_view in (
      c.append_run.ensures.ring ∙ c.load-found.ensures.0 ∙ h.rests.ring,
      omega (arith, h.rests.words),
      receive_at k c.append_run.new.seat.id z (c.args.count + run) d.0 d.1
          (may_receive k z c.load-found.result run run a.0 b d.0 d.1 c.args.count g h.rests.is h.rests.slots h.rests.size c.append_run.ensures.view turned
          c.requires.count few),
    )

pub returns-clause-sized : goal.returns-clause-sized
returns-clause-sized c =
    let z = c.args.shared.now.table_id.slots in
    let a = c.args.seat.now.me in
    let b = c.load-found.new.seat.me in
    let g = looked z c.load-found.result a b c.load-found.ensures.2 in
    let size : b.0.size ≡ c.args.shared.now.key.size = ap (λ x. x.size) g.view ∙ c.requires.rests.rests.size in
    c.append_run.ensures.sized ∙ ap (λ n. length c.args.out.now.items + c.min-run.result * n) size
