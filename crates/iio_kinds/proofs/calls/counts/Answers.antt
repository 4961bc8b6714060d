use Rattle.std.proofs.Common.{◌∙◌, ap, length, sym}
use Rattle.iio_kinds.specs.Acting.{id_of}
use Rattle.iio_kinds.proofs.CallLemmas.{lost_absent, lost_is, scans_absent, under_is, waiting_is}
use Rattle.iio_kinds.proofs.calls.counts.Goals as goal

pub returns-then-not-is_live_under-clause-waiting : goal.returns-then-not-is_live_under-clause-waiting
returns-then-not-is_live_under-clause-waiting g c =
    ap (λ q. length q) (sym (scans_absent (id_of c.args.number c.args.mask) c.args.device.now.core.roster.members.items
    (sym c.is_live_under.ensures ∙ c.if-not-is_live_under.true)))

pub returns-then-not-is_live_under-clause-lost : goal.returns-then-not-is_live_under-clause-lost
returns-then-not-is_live_under-clause-lost g c =
    sym (lost_absent (id_of c.args.number c.args.mask) c.args.device.now.core.roster.members.items (sym c.is_live_under.ensures ∙ c.if-not-is_live_under.true))

pub returns-clause-waiting : goal.returns-clause-waiting
returns-clause-waiting g c =
    waiting_is (id_of c.args.number c.args.mask) _ _ _ c.args.device.now.core.roster.members.items
    (under_is (id_of c.args.number c.args.mask) _ c.args.device.now.core.roster.sound.numbers (sym c.is_live_under.ensures ∙ c.if-not-is_live_under.false))
    c.waiting.ensures c.unwrap_or.ensures c.from.ensures

pub returns-clause-lost : goal.returns-clause-lost
returns-clause-lost g c =
    lost_is (id_of c.args.number c.args.mask) _ _ c.args.device.now.core.roster.members.items
    (under_is (id_of c.args.number c.args.mask) _ c.args.device.now.core.roster.sound.numbers (sym c.is_live_under.ensures ∙ c.if-not-is_live_under.false))
    c.lost.ensures c.unwrap_or-2.ensures
