use Rattle.std.proofs.Common.{[]}
use Rattle.iiod_grammar.proofs.TargetLemmas.{target_of-name}
use Rattle.iiod_grammar.proofs.line.target_of_one.Goals as goal

pub returns-in-None : goal.returns-in-None
returns-in-None c = target_of-name c.args.a.now [] c.place_word.result c.place_word.ensures c.in-None.is
