use Rattle.std.proofs.Common.{◌∙◌}
use Rattle.std.proofs.lemmas.Option.{slice_get_read}
use Rattle.iiod_bank.specs.FrontOf.{front_of}
use Rattle.iiod_bank.proofs.FrontLemmas.{name_past, name_there}
use Rattle.iiod_bank.proofs.front.HubFront.trigger_name.Goals as goal

pub returns-then-at-len : goal.returns-then-at-len
returns-then-at-len c =
    c.bytes.ensures.value ∙ name_there (front_of c.args.self.now) c.args.trigger c.index.result.now
    (slice_get_read _ c.len.result _ _ (c.len.ensures ∙ c.args.self.now.triggers.ok.0) c.if-at-len.true c.index.ensures)

pub returns-else-at-len : goal.returns-else-at-len
returns-else-at-len c = name_past (front_of c.args.self.now) c.args.trigger c.len.result (c.len.ensures ∙ c.args.self.now.triggers.ok.0) c.if-at-len.false
