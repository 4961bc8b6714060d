use Rattle.std.proofs.Common.{[], ◌∷◌}
use Rattle.iiod_grammar.proofs.TargetLemmas.{target_of-name}
use Rattle.iiod_grammar.proofs.line.target_of_three.Goals as goal

pub returns-in_default : goal.returns-in_default
returns-in_default c = target_of-name c.args.a.now (c.args.b.now ∷ c.args.c.now ∷ []) c.place_word.result c.place_word.ensures c.in_default.is
