use Rattle.std.proofs.Common.{◌≡◌, ◌≤◌, length, vec_capacity}
use Rattle.iio_device.specs.Moves.{MovedBelow}
use Rattle.iio_device.specs.Groups.{remade}
use Rattle.iio_device.proofs.group.remake_all.Given as goal

abbrev pub invariant-loop-i : goal.invariant-loop-i
invariant-loop-i l = record {
  moved : MovedBelow (λ x y. y ≡ remade l.shape l.active.bits x) l.i l.fn.groups.items l.groups.items;
  all : length l.fn.groups.items ≤ l.i-end;
  capacity : vec_capacity l.groups ≡ vec_capacity l.fn.groups;
}
