use Rattle.std.proofs.Common.{◌≡◌, ◌≤◌, length, drop}
use Rattle.iio_device.specs.Members.{is_live, member_of}
use Rattle.iio_device.proofs.members.walk_to.Given as goal

abbrev pub invariant-loop-i : goal.invariant-loop-i
invariant-loop-i g l = record {
  rest : is_live l.number (drop l.i l.members) ≡ is_live l.number l.members;
  found : member_of l.number (drop l.i l.members) ≡ member_of l.number l.members;
  all : length l.members ≤ l.i-end;
}
