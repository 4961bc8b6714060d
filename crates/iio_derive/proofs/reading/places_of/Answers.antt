use Rattle.std.proofs.Common.{◌≡◌, ◌==◌, length, ap, ◌∙◌, arith}
use Rattle.std.proofs.lemmas.List.{length-set}
use Rattle.std.proofs.lemmas.Nat.Bits.{bit_at_ones}
use Rattle.iio_layout.specs.Shape.{count_of}
use Rattle.iio_derive.proofs.ReadLemmas.{places_more}
use Rattle.iio_derive.proofs.reading.places_of.Goals as goal

pub place-requires-clause-selected : goal.place-requires-clause-selected
place-requires-clause-selected c = rw c.full_mask-full.ensures.value (ap (λ n. n == 1) (bit_at_ones (count_of c.args.shape.now) c.loop-c.c (omega arith)))

pub loop-c-preserved : goal.loop-c-preserved
loop-c-preserved c =
    let room : length c.loop-c.places ≡ 64 = c.loop-c.invariant.room in
    let few = c.count-c-end.ensures.sound.few in
    let value = rw c.full_mask-full.ensures.value at c.place.ensures.value in
    let within = rw c.full_mask-full.ensures.value at c.place.ensures.within in
    record {
      room = length-set c.loop-c.places c.loop-c.c c.place.result ∙ room;
      below =
          places_more c.args.shape.now c.loop-c.c c.place.result c.loop-c.places (omega (arith, room, few)) (record { is = value; within = within })
          c.loop-c.invariant.below;
    }
