use Rattle.std.proofs.Common.{refl, ◌∙◌}
use Rattle.iiod_hub.proofs.HandleLaws.{passes}
use Rattle.iiod_hub.proofs.link.HubLink.handle.Goals as goal

pub returns-in-Captured-clause-bank : goal.returns-in-Captured-clause-bank
returns-in-Captured-clause-bank g c =
    passes _ _ _ _ _ _ _ c.in_ok-due.due c.device-handled.result c.trigger-2.result
    c.in_ok-due.ensures.told c.device-handled.ensures.told c.trigger-2.ensures.told c.chime.ensures.told

pub returns-in_default : goal.returns-in_default
returns-in_default g c = record {
  front = c.trigger-2.ensures.front ∙ c.device-handled.ensures.front ∙ c.in_ok-due.ensures.front;
  bank = passes _ _ _ _ _ _ _ c.in_ok-due.due c.device-handled.result c.trigger-2.result
      c.in_ok-due.ensures.told c.device-handled.ensures.told c.trigger-2.ensures.told refl;
}
