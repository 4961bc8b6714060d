use Rattle.std.proofs.Common.{◌≡◌, ◌≤◌, length}
use Rattle.iio_device.specs.Moves.{MovedBelow}
use Rattle.iio_device.specs.Members.{WasOffered}
use Rattle.iio_device.specs.Groups.{scan_for}
use Rattle.iio_device.proofs.members.offer_all.Given as goal

abbrev pub invariant-loop-i : goal.invariant-loop-i
invariant-loop-i g l = let tail = g.Q.Tail in record {
  moved : MovedBelow (λ a b. WasOffered tail (scan_for l.active.bits l.union l.groups a.mask.bits) a b)
      l.i l.fn.members.items l.members.items;
  all : length l.fn.members.items ≤ l.i-end;
  within : l.i-end ≤ length l.members.items;
  placed : length l.places.items ≡ length l.members.items;
}
