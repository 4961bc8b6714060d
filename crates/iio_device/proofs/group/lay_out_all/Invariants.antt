use Rattle.std.proofs.Common.{◌≡◌, ◌≤◌, length}
use Rattle.iio_device.specs.Moves.{MovedBelow}
use Rattle.iio_device.specs.Groups.{laid_out}
use Rattle.iio_device.proofs.group.lay_out_all.Given as goal

abbrev pub invariant-loop-i : goal.invariant-loop-i
invariant-loop-i l = record {
  moved : MovedBelow (λ x y. y ≡ laid_out l.active.bits l.union x) l.i l.fn.groups.items l.groups.items;
  all : length l.fn.groups.items ≤ l.i-end;
}
