use Rattle.std.proofs.Common.{◌≡◌, ◌≤◌, ℕ, List, None, IfNone}
use Rattle.iio_script.specs.LineReader.{Follows, to_take}
use Rattle.iio_script.proofs.line_reader.LineReader.find.Given as goal

abbrev pub invariant-loop-found : goal.invariant-loop-found
invariant-loop-found g l = record {
  follows : (input : List ℕ) (front : List (List ℕ)) → Follows input front l.fn.self (g.S.Source.left l.fn.source)
      → Follows input front l.self (g.S.Source.left l.source);
  given : l.self.given ≡ l.fn.self.given;
  over : l.self.over ≡ l.fn.self.over;
  silent : IfNone (g.S.Source.left l.fn.source) (g.S.Source.left l.source ≡ None);
  counted : g.S.Source.faults l.fn.source ≤ g.S.Source.faults l.source;
  steady : g.S.Source.faults l.source ≡ g.S.Source.faults l.fn.source;
}

abbrev pub decreases-loop-found : goal.decreases-loop-found
decreases-loop-found g l = to_take l.self
