use Rattle.std.proofs.Common.{rules, arith}
use Rattle.std.proofs.lemmas.Grind.{common_steps}
use Rattle.iiod_commands.proofs.SeatsLaws.{closing_more}
use Rattle.iiod_commands.proofs.leaving.close_all.Goals as goal

pub loop-h-preserved : goal.loop-h-preserved
loop-h-preserved g c = record {
  kept = search rules;
  held = grind (arith, common_steps);
  told =
      closing_more g.I.Iio.seen (g.I.Iio.front (g.I.Iio.kept c.args.iio.now)) _ _ _ _ _ _ c.in-Some.h c.in-Some.ensures.items c.loop-h.invariant.told
      (rw (c.loop-h.invariant.kept, c.into_seat-dev.ensures.dev, c.into_seat-dev.ensures.seat) at c.close.ensures.told);
}
