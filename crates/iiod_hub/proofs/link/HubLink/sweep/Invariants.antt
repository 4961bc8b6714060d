use Rattle.std.proofs.Common.{◌≡◌, ◌≤◌}
use Rattle.iiod_bank.specs.Told.{Moves}
use Rattle.iiod_hub.specs.Link.{Swept}
use Rattle.iiod_hub.proofs.link.HubLink.sweep.Given as goal

abbrev pub invariant-loop-dev : goal.invariant-loop-dev
invariant-loop-dev g l = (g.B.Bank.front l.self.bank ≡ g.B.Bank.front l.initial.self.bank)
    × (l.dev ≤ l.dev-end)
    × Moves (g.B.Bank.told l.initial.self.bank) (g.B.Bank.told l.self.bank) (λ b c. Swept l.trigger l.dev b c)
