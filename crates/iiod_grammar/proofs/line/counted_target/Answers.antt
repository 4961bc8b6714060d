use Rattle.std.proofs.Common.{refl}
use Rattle.iiod_grammar.proofs.TargetLemmas.{counted-three, counted-four, counted-many}
use Rattle.iiod_grammar.proofs.line.counted_target.Goals as goal

pub returns-in_default-next-3 : goal.returns-in_default-next-3
returns-in_default-next-3 c =
    counted-three _ _ _ _ _ _ _ _ c.in-Some.ensures.found c.in-Some-next.ensures.found c.in-Some-next-2.ensures.found (c.in_default-next-3.ensures.none.0 refl)
    c.target_of_two.ensures

pub returns-in-None : goal.returns-in-None
returns-in-None c =
    counted-four _ _ _ _ _ _ _ _ _ _ c.in-Some.ensures.found c.in-Some-next.ensures.found c.in-Some-next-2.ensures.found c.in-Some-next-3.ensures.found
    (c.in-None.ensures.none.0 refl) c.target_of_three.ensures

pub returns-in-Some-next-4 : goal.returns-in-Some-next-4
returns-in-Some-next-4 c =
    counted-many _ _ _ _ _ _ _ _ _ _ _ _ c.in-Some.ensures.found c.in-Some-next.ensures.found c.in-Some-next-2.ensures.found c.in-Some-next-3.ensures.found
    c.in-Some-next-4.ensures.found c.last_word.ensures
