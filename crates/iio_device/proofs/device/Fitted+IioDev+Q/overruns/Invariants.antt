use Rattle.std.proofs.Common.{◌≡◌, ◌+◌, ◌-◌, ◌^◌, min, take}
use Rattle.std.specs.List.{sum_by}
use Rattle.iio_device.specs.declared.membership.Membership.{Membership}
use Rattle.iio_device.proofs.device.Fitted+IioDev+Q.overruns.Given as goal

abbrev pub invariant-loop-member : goal.invariant-loop-member
invariant-loop-member g l =
    let queue = g.Q.Tail in
    l.total ≡ min (l.self.core.totals.lost
    + sum_by (λ (m : Membership g.row.Q.Denot). queue.lost m.tail) (take l.member-index l.self.core.roster.members.items)) (2 ^ 64 - 1)
