use Rattle.std.proofs.Common.{◌≡◌, List, ℕ, None}
use Rattle.iiod_client.specs.declared.answer.State.TheVariants.{More}
use Rattle.iiod_client.specs.Point.{Heard, point}
use Rattle.iiod_client.specs.Standing.{Stands, most_to_come, state_of}
use Rattle.iiod_client.proofs.hearing.hear_answer.Given as goal

abbrev pub invariant-loop-answer : goal.invariant-loop-answer
invariant-loop-answer g l = record {
  asked : l.answer.asked ≡ l.fn.answer.asked;
  more : state_of l.answer.place ≡ More;
  heard : (text : List ℕ) × Stands l.answer text
      × Heard (point (g.L.Link.left l.fn.link) l.fn.incoming None None) text (point (g.L.Link.left l.link) l.incoming None None);
  written : g.L.Link.written l.link ≡ g.L.Link.written l.fn.link;
  steady : g.L.Link.faults l.link ≡ g.L.Link.faults l.fn.link;
}

abbrev pub decreases-loop-answer : goal.decreases-loop-answer
decreases-loop-answer g l = most_to_come l.answer
