use Rattle.iiod_commands.specs.Client.{IsClient}
use Rattle.iiod_bank.specs.FrontOf.{front_of}
use Rattle.iiod_session_tests.specs.Shelf.{seen_of}
use Rattle.iiod_session_tests.proofs.tests.hear_all.Given as goal

abbrev pub invariant-loop-exchange : goal.invariant-loop-exchange
invariant-loop-exchange g l = IsClient seen_of (front_of l.shelf.front) l.session.client
