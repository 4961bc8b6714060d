use Rattle.std.proofs.Common.{rules, ◌∙◌}
use Rattle.iiod_hub.proofs.HandleLaws.{swept}
use Rattle.iiod_hub.proofs.link.HubLink.sweep.Goals as goal

pub loop-dev-preserved : goal.loop-dev-preserved
loop-dev-preserved g c =
    (c.handle.ensures.front ∙ c.loop-dev.invariant.0, search rules, swept _ _ _ _ _ _ c.loop-dev.invariant.2 c.handle.ensures.bank)
