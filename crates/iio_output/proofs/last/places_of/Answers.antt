use Rattle.std.proofs.Common.{◌≡◌, length, sym, ◌∙◌, arith}
use Rattle.std.proofs.lemmas.List.{length-set}
use Rattle.iio_layout.specs.Laws.{data_channel}
use Rattle.iio_output.proofs.LastLemmas.{places_more, places_same}
use Rattle.iio_output.proofs.last.places_of.Goals.{then-contains, else-contains}
use Rattle.iio_output.proofs.last.places_of.Goals as goal

pub place-requires-clause-channel : goal.place-requires-clause-channel
place-requires-clause-channel c = data_channel c.args.shape.now c.loop-c.c (omega arith)

pub loop-c-preserved : goal.loop-c-preserved
loop-c-preserved c = elim c.if-contains.branch [
  | then-contains w ↦
      let room : length c.loop-c.places ≡ 64 = c.loop-c.invariant.room in
      let few = c.inputs-c-end.ensures.sound.few in
      let all = data_channel c.args.shape.now c.loop-c.c (omega arith) in
      rw w.places-is (record {
        room = length-set c.loop-c.places c.loop-c.c w.place.result ∙ room;
        below = places_more c.args.shape.now c.args.mask.bits c.loop-c.c w.place.result c.loop-c.places (omega (arith, room, few, all))
            (record { is = w.place.ensures.value; within = w.place.ensures.within }) c.loop-c.invariant.below;
      })
  | else-contains w ↦
      rw w.places-is (record {
        room = c.loop-c.invariant.room;
        below =
            places_same c.args.shape.now c.args.mask.bits c.loop-c.c c.loop-c.places (sym c.contains.ensures ∙ w.if-contains.false) c.loop-c.invariant.below;
      })
]
