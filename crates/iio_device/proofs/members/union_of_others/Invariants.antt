use Rattle.std.proofs.Common.{◌≡◌, take}
use Rattle.iio_mask.specs.Mask.{union_of_all}
use Rattle.iio_device.specs.Members.{masks_of, without}
use Rattle.iio_device.proofs.members.union_of_others.Given as goal

abbrev pub invariant-loop-member : goal.invariant-loop-member
invariant-loop-member g l = l.union.bits ≡ union_of_all (masks_of (without l.number (take l.member-index l.members)))
