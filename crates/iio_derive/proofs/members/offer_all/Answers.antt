use Rattle.std.proofs.Common.{◌<◌, length, arith}
use Rattle.std.proofs.lemmas.Grind.{elements}
use Rattle.iio_derive.proofs.MemberLemmas.{member_read, offered_more, offered_none}
use Rattle.iio_derive.proofs.members.offer_all.Goals.{in-Some, in_default}
use Rattle.iio_derive.proofs.members.offer_all.Goals as goal

pub loop-i-preserved : goal.loop-i-preserved
loop-i-preserved c =
    let shape = c.args.shape.now in
    let values = c.args.values.now in
    let old = c.args.seats.now.items in
    let seats = c.loop-i.seats.items in
    let i = c.loop-i.i in
    let before = c.loop-i.invariant.offering in
    let same = before.same in
    let less : i < length seats = omega (arith, same) in
    elim c.match-index_mut.branch [
      | in-Some w ↦
          let is = member_read seats i c.index_mut.result.now _ less c.index_mut.ensures.value w.in-Some.is in
          rw w.seats-is (record {
            offering = offered_more shape values _ i old seats w.in-Some.member w.offer_one.new.member less before is w.offer_one.ensures;
            all = c.loop-i.invariant.all;
          })
      | in_default w ↦
          let is = member_read seats i c.index_mut.result.now _ less c.index_mut.ensures.value w.in_default.is in
          rw (w.seats-is, w.in_default.is) (record { offering = offered_none shape values _ i old seats before is; all = c.loop-i.invariant.all })
    ]

pub offer_one-requires-clause-sized : goal.offer_one-requires-clause-sized
offer_one-requires-clause-sized c = grind (arith, elements)

pub offer_one-requires-clause-room : goal.offer_one-requires-clause-room
offer_one-requires-clause-room c = grind (arith, elements)

pub offer_one-requires-clause-fewer : goal.offer_one-requires-clause-fewer
offer_one-requires-clause-fewer c = grind (arith, elements)
