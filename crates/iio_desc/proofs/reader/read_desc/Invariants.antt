use Rattle.std.proofs.Common.{◌≡◌, ◌+◌, ◌-◌, ◌≤◌, ◌^◌, length}
use Rattle.iio_text.specs.Lines.{lines_of}
use Rattle.iio_desc.specs.DescReader.{drivers_of, line_count, read_lines, read_of}
use Rattle.iio_desc.proofs.reader.read_desc.Given as goal

abbrev pub invariant-loop-line : goal.invariant-loop-line
invariant-loop-line l = record {
  told : read_of l.fn.drivers l.fn.text ≡ read_lines l.reader (lines_of l.rest);
  room : line_count l.reader + length (lines_of l.rest) ≤ 2 ^ 32 - 2;
  drivers : drivers_of l.reader ≡ l.fn.drivers;
}

abbrev pub decreases-loop-line : goal.decreases-loop-line
decreases-loop-line l = length l.rest
