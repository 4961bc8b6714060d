use Rattle.std.proofs.Common.{◌≡◌, ◌≤◌, length, take}
use Rattle.iiod_grammar.specs.Command.{without_returns}
use Rattle.iiod_grammar.proofs.line.len_without_returns.Given as goal

abbrev pub invariant-loop-len : goal.invariant-loop-len
invariant-loop-len l = record {
  rest : without_returns (take l.len l.line) ≡ without_returns l.line;
  within : l.len ≤ length l.line;
}

abbrev pub decreases-loop-len : goal.decreases-loop-len
decreases-loop-len l = l.len
