use Rattle.std.proofs.Common.{◌≡◌, ◌+◌, ◌*◌, ◌<◌, ◌≤◌, ◌++◌, ℕ, List, length, take, sym, ap, subst, ◌∙◌, arith, mul-le-mul_right}
use Rattle.std.specs.List.{flat_map}
use Rattle.std.proofs.lemmas.List.{append_assoc, length-append}
use Rattle.iio_kfifo.specs.declared.view.Sent.{Sent}
use Rattle.iio_kfifo.specs.Rule.{sent_at}
use Rattle.iio_kfifo.specs.Steps.{Turned, in_hand}
use Rattle.iio_kfifo.proofs.ReaderCalls.{next, front_is, hand_is, flat_more, next_mod}
use Rattle.iio_kfifo.proofs.reader.append_run.Goals as goal

pub append_next-requires-clause-held : goal.append_next-requires-clause-held
append_next-requires-clause-held c =
    let i = c.loop.invariant in
    let n =
    next c.args.slots c.args.seat.now.me.0.size (length c.args.seat.now.me.0.reading.received) c.loop.counter c.args.seat.now.me.0.reading.hand c.loop.seat.me.1
    i.held (omega (arith, c.requires.few, c.loop-test.true)) in
    (n.cell, front_is c.loop.seat.me.1 n.behind _ c.loop.at n.cell (sym i.at) n.is)

pub append_next-requires-clause-room : goal.append_next-requires-clause-room
append_next-requires-clause-room c =
    let i = c.loop.invariant in
    let size = c.args.seat.now.me.0.size in
    let n =
    next c.args.slots size (length c.args.seat.now.me.0.reading.received) c.loop.counter c.args.seat.now.me.0.reading.hand c.loop.seat.me.1 i.held
    (omega (arith, c.requires.few, c.loop-test.true)) in
    let long : length (in_hand c.loop.seat.me.1) ≡ size = ap (λ xs. length xs) (hand_is c.loop.seat.me.1 n.behind _ n.cell n.is) ∙ n.sized in
    let less : c.loop.counter + 1 ≤ c.args.run = omega (arith, c.loop-test.true) in
    let few : (c.loop.counter + 1) * size ≤ c.args.run * size = mul-le-mul_right size less in
    omega (arith, long, few, i.long, i.room, c.requires.room)

pub loop-preserved : goal.loop-preserved
loop-preserved c =
    let i = c.loop.invariant in
    let size = c.args.seat.now.me.0.size in
    let hand = c.args.seat.now.me.0.reading.hand in
    let from = length c.args.seat.now.me.0.reading.received in
    let less : c.loop.counter < length hand = omega (arith, c.requires.few, c.loop-test.true) in
    let n = next c.args.slots size from c.loop.counter hand c.loop.seat.me.1 i.held less in
    let e = c.append_next.ensures in
    let scan : in_hand c.loop.seat.me.1 ≡ (sent_at hand c.loop.counter).scan =
    hand_is c.loop.seat.me.1 n.behind _ n.cell n.is ∙ ap (λ (s : Sent). s.scan) n.sent in
    let long : length (in_hand c.loop.seat.me.1) ≡ size = ap (λ xs. length xs) (hand_is c.loop.seat.me.1 n.behind _ n.cell n.is) ∙ n.sized in
    let bytes = e.bytes in record {
      below = omega (arith, c.loop-test.true);
      ring = e.ring ∙ i.ring;
      view = ap (λ x. x.0) e.view ∙ i.view;
      held = subst (λ l. Turned c.args.slots size from (c.loop.counter + 1) hand l) (sym (ap (λ x. x.1) e.view)) n.after;
      bytes =
          bytes ∙ ap (λ (xs : List ℕ). xs ++ in_hand c.loop.seat.me.1) i.bytes
          ∙ ap (λ (xs : List ℕ). (c.args.out.now.items ++ flat_map (λ (s : Sent). s.scan) (take c.loop.counter hand)) ++ xs) scan
          ∙ append_assoc c.args.out.now.items _ _ ∙ ap (λ (xs : List ℕ). c.args.out.now.items ++ xs) (sym (flat_more hand c.loop.counter less));
      long = omega (arith, ap (λ (xs : List ℕ). length xs) bytes, length-append c.loop.out.items (in_hand c.loop.seat.me.1), long, i.long);
      room = omega (arith, e.room, i.room);
      at = c.next_slot-at.ensures ∙ next_mod c.args.slots from c.loop.counter c.loop.at c.requires.slot.0 i.at;
    }
