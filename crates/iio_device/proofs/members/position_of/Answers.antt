use Rattle.std.proofs.Common.{sym}
use Rattle.iio_device.specs.declared.membership.Membership.{Membership}
use Rattle.iio_device.proofs.ApartLemmas.{found_at, has_at}
use Rattle.iio_device.proofs.members.position_of.Goals as goal

pub returns-then-stands_at-clause-live : goal.returns-then-stands_at-clause-live
returns-then-stands_at-clause-live g c =
    sym (has_at (λ (m : Membership g.row.Q.Denot). m.number) c.args.members.now c.likely_place-at.result c.args.number
    (c.stands_at.ensures.within c.if-stands_at.true) (c.stands_at.ensures.number c.if-stands_at.true))

pub returns-then-stands_at-clause-member : goal.returns-then-stands_at-clause-member
returns-then-stands_at-clause-member g c d =
    let number = c.stands_at.ensures.number c.if-stands_at.true d in
    rw number at
    (found_at (λ (m : Membership g.row.Q.Denot). m.number) c.args.members.now c.likely_place-at.result d c.requires.apart
    (c.stands_at.ensures.within c.if-stands_at.true))
