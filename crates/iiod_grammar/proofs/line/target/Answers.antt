use Rattle.std.proofs.Common.{refl}
use Rattle.iiod_grammar.proofs.TargetLemmas.{target-three, target-many}
use Rattle.iiod_grammar.proofs.line.target.Goals as goal

pub returns-in-None : goal.returns-in-None
returns-in-None c =
    target-three _ _ _ _ _ _ _ _ c.in-Some.ensures.found c.in-Some-next.ensures.found c.in-Some-next-2.ensures.found (c.in-None.ensures.none.0 refl)
    c.target_of_three.ensures

pub returns-in-Some-next-3 : goal.returns-in-Some-next-3
returns-in-Some-next-3 c =
    target-many _ _ _ _ _ _ _ _ _ c.in-Some.ensures.found c.in-Some-next.ensures.found c.in-Some-next-2.ensures.found c.in-Some-next-3.ensures.found
