use Rattle.std.proofs.Common.{arith, sym, ◌∙◌}
use Rattle.std.proofs.lemmas.Grind.{common_steps}
use Rattle.std.specs.Option.{option_copied}
use Rattle.iiod_commands.proofs.ServeLaws.{set_found}
use Rattle.iiod_commands.proofs.triggers.set_trigger_at.Goals as goal

pub returns-clause-told : goal.returns-clause-told
returns-clause-told g c = λ client.
    set_found _ _ _ client (option_copied c.args.name) c.args.dev c.in_ok-trigger.trigger c.plugged.result c.set_trigger.result c.plugged.ensures
    (grind (arith, common_steps))
    (sym c.is_average.ensures ∙ grind (arith, common_steps)) (sym c.named_trigger.ensures.value ∙ c.in_ok-trigger.was) c.set_trigger.ensures.told
