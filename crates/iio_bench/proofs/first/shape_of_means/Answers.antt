use Rattle.std.proofs.Common.{List, [], ◌∷◌, ◌++◌, ap, sym, ◌∙◌}
use Rattle.iio_layout.specs.declared.channel.Channel.{Channel}
use Rattle.iio_bench.proofs.FirstLemmas.{take_next}
use Rattle.iio_bench.proofs.first.shape_of_means.Goals as goal

pub loop-c-preserved : goal.loop-c-preserved
loop-c-preserved c = record {
  channels =
      c.in_ok-push.ensures.items ∙ ap (λ (xs : List Channel). xs ++ c.channel.result.now ∷ []) c.loop-c.invariant.channels
      ∙ sym (take_next c.args.shape.now.channels c.loop-c.c c.channel.result.now c.channel.ensures);
  all = c.inputs-c-end.ensures.value;
}
