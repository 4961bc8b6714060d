use Rattle.std.proofs.Common.{◌≡◌, ◌≤◌, length, drop}
use Rattle.iiod_grammar.specs.Marks.{marks_of}
use Rattle.iiod_grammar.proofs.blanks.marks_of_few.Given as goal

abbrev pub invariant-loop-place : goal.invariant-loop-place
invariant-loop-place l = record {
  within : l.place ≤ length l.text;
  value : l.marks ≡ marks_of (drop l.place l.text);
}

abbrev pub decreases-loop-place : goal.decreases-loop-place
decreases-loop-place l = l.place
