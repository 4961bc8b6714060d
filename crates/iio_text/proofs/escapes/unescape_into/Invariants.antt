use Rattle.std.proofs.Common.{◌≡◌, ◌≤◌, ◌-◌, length, take, drop}
use Rattle.iio_text.specs.Escape.{before, unescaped, unescaped_from}
use Rattle.iio_text.proofs.escapes.unescape_into.Given as goal

abbrev pub invariant-pieces : goal.invariant-pieces
invariant-pieces l = record {
  within : l.place ≤ length l.text;
  put : l.len ≤ l.place;
  room : length l.out.items ≡ length l.text;
  meant : unescaped l.text ≡ before (take l.len l.out.items) (unescaped_from l.place 0 (drop l.place l.text));
}

abbrev pub decreases-pieces : goal.decreases-pieces
decreases-pieces l = length l.text - l.place
