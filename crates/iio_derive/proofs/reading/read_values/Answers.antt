use Rattle.std.proofs.Common.{arith}
use Rattle.std.proofs.lemmas.Grind.{common_steps}
use Rattle.iio_layout.specs.Laws.{data_channel}
use Rattle.iio_derive.proofs.ReadLemmas.{values_more}
use Rattle.iio_derive.proofs.reading.read_values.Goals as goal

pub loop-c-preserved : goal.loop-c-preserved
loop-c-preserved c =
    let shape = c.args.shape.now in
    let place = (c.requires.places c.loop-c.c (data_channel shape c.loop-c.c (omega arith))).is in
    record {
      read =
          values_more shape c.args.scan.now c.loop-c.c _ _ c.data_type-ty.result.now _ _ c.data_type-ty.ensures.value c.size.ensures.value place
          c.loop-c.invariant.read c.read_channel.ensures.values;
      few = omega arith;
      room = omega arith;
    }

pub bounds-places-c : goal.bounds-places-c
bounds-places-c c = grind (arith, common_steps)

pub slice_bounds-read_channel-end : goal.slice_bounds-read_channel-end
slice_bounds-read_channel-end c = grind (arith, common_steps)
