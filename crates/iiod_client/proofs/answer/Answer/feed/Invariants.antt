use Rattle.std.proofs.Common.{length, take, ◌-◌, ◌+◌, ◌≡◌, ◌≤◌, ◌++◌, ℕ, List}
use Rattle.iiod_client.specs.Standing.{Stands, most_to_come}
use Rattle.iiod_client.proofs.answer.Answer.feed.Given as goal

abbrev pub invariant-loop-taken : goal.invariant-loop-taken
invariant-loop-taken l = record {
  within : l.taken ≤ length l.bytes;
  bounded : l.taken + most_to_come l.self ≤ most_to_come l.fn.self;
  asked : l.self.asked ≡ l.fn.self.asked;
  stands : (text : List ℕ) → Stands l.fn.self text → Stands l.self (text ++ take l.taken l.bytes);
}

abbrev pub decreases-loop-taken : goal.decreases-loop-taken
decreases-loop-taken l = length l.bytes - l.taken
