use Rattle.std.proofs.Common.{◌≡◌, ◌+◌, ◌-◌, ◌≤◌, None, IfNone}
use Rattle.std.specs.Prelude.{IsOk}
use Rattle.iio_desc.specs.DescReader.{drivers_of, line_count}
use Rattle.iio_script.specs.LineReader.{IsHand}
use Rattle.iio_script.proofs.OpeningLaws.{OpensSoFar}
use Rattle.iio_script.proofs.opening.open.Given as goal

abbrev pub invariant-loop-reader : goal.invariant-loop-reader
invariant-loop-reader g l = record {
  so_far : OpensSoFar l.drivers l.reader l.number l.fn.lines l.lines (g.S.Source.left l.fn.source) (g.S.Source.left l.source);
  reading : IsOk l.reader;
  drivers : drivers_of l.reader ≡ l.drivers;
  count : line_count l.reader + 1 ≡ l.number;
  hand : IsHand l.lines;
  begun : l.number ≤ l.lines.given + 1;
  silent : IfNone (g.S.Source.left l.fn.source) (g.S.Source.left l.source ≡ None);
  counted : g.S.Source.faults l.source ≡ g.S.Source.faults l.fn.source;
}

abbrev pub decreases-loop-reader : goal.decreases-loop-reader
decreases-loop-reader g l = 67108865 - l.lines.given
