use Rattle.std.proofs.Common.{◌≡◌, ◌+◌, ◌-◌, ◌^◌, map, min, take}
use Rattle.std.specs.List.{sum_by}
use Rattle.iio_kinds.specs.MeanStation.{mean_member}
use Rattle.iio_kinds.proofs.mean_device.MeanDevice.overruns.Given as goal

-- those of the members so far
abbrev pub invariant-loop-seat : goal.invariant-loop-seat
invariant-loop-seat l =
    l.total ≡ min (l.self.totals.lost + sum_by (λ x. x.lost) (map (mean_member l.self.average.seats) (take l.seat-index l.seat-items))) (2 ^ 64 - 1)
