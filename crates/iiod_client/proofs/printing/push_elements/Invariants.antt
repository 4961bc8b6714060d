use Rattle.std.proofs.Common.{◌≡◌, ◌++◌}
use Rattle.iiod_client.specs.Printed.{elements_text}
use Rattle.iiod_client.proofs.printing.push_elements.Given as goal

abbrev pub invariant-loop-k : goal.invariant-loop-k
invariant-loop-k l = l.out.items ≡ l.fn.out.items ++ elements_text l.ty l.bytes l.k
