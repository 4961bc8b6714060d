use Rattle.std.proofs.Common.{◌≡◌, ◌+◌, ◌-◌, ◌≤◌, length, take, drop}
use Rattle.std.specs.List.{position_or_len}
use Rattle.iio_text.proofs.runs.copy_before.Given as goal

abbrev pub invariant-loop-place : goal.invariant-loop-place
invariant-loop-place g l = record {
  within : l.place ≤ length l.text;
  value : position_or_len (g.T.ByteTest.passes l.test) l.text ≡ l.place + position_or_len (g.T.ByteTest.passes l.test) (drop l.place l.text);
  copied : take l.place l.room ≡ take l.place l.text;
}

abbrev pub decreases-loop-place : goal.decreases-loop-place
decreases-loop-place g l = length l.text - l.place

abbrev pub invariant-loop-place-2 : goal.invariant-loop-place-2
invariant-loop-place-2 g l = record {
  within : l.place ≤ length l.text;
  value : position_or_len (g.T.ByteTest.passes l.test) l.text ≡ l.place + position_or_len (g.T.ByteTest.passes l.test) (drop l.place l.text);
  copied : take l.place l.room ≡ take l.place l.text;
}

abbrev pub decreases-loop-place-2 : goal.decreases-loop-place-2
decreases-loop-place-2 g l = length l.text - l.place
