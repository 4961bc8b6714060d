use Rattle.std.proofs.Common.{rules, arith}
use Rattle.std.proofs.lemmas.Grind.{common_steps}
use Rattle.iiod_commands.proofs.SeatsLaws.{releasing_more}
use Rattle.iiod_commands.proofs.leaving.release_all.Goals as goal

pub loop-dev-preserved : goal.loop-dev-preserved
loop-dev-preserved g c = record {
  kept = search rules;
  known = grind (arith, common_steps);
  told = releasing_more _ _ _ _ _ _ _ c.in-Some.dev _ c.in-Some.ensures.items c.loop-dev.invariant.told c.ev_close.ensures.no_memory c.ev_close.ensures.told;
}
