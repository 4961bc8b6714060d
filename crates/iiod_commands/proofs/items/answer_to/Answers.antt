use Rattle.std.proofs.Common.{inl, inr}
use Rattle.iiod_commands.proofs.AnswerLaws.{help_serves, print_serves, timeout_serves, version_serves}
use Rattle.iiod_commands.proofs.items.answer_to.Goals as goal

pub returns-in-Help-clause-served : goal.returns-in-Help-clause-served
returns-in-Help-clause-served g c = rw c.in-Help.is (help_serves _ _)

pub returns-in-Version-clause-served : goal.returns-in-Version-clause-served
returns-in-Version-clause-served g c = rw c.in-Version.is (version_serves _ _)

pub returns-in-Print-clause-served : goal.returns-in-Print-clause-served
returns-in-Print-clause-served g c = rw c.in-Print.is (print_serves _ _)

pub returns-in-Timeout-clause-served : goal.returns-in-Timeout-clause-served
returns-in-Timeout-clause-served g c = rw c.in-Timeout.is (timeout_serves _ _ _)

pub returns-in-Exit-clause-served : goal.returns-in-Exit-clause-served
returns-in-Exit-clause-served g c = elim c.in-Exit.is [
  | inl exit ↦ absurd (rw exit at c.requires.at_once)
  | inr (inl write) ↦ absurd (rw write.3 at c.requires.at_once)
  | inr (inr (inl scans)) ↦ absurd (rw scans.2 at c.requires.at_once)
  | inr (inr (inr read)) ↦ absurd (rw read.2 at c.requires.at_once)
]
