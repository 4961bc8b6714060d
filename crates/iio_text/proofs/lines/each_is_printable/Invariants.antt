use Rattle.std.proofs.Common.{◌≡◌, take}
use Rattle.std.specs.List.{list_all}
use Rattle.iio_text.specs.Lines.{is_printable}
use Rattle.iio_text.proofs.lines.each_is_printable.Given as goal

abbrev pub invariant-loop-byte : goal.invariant-loop-byte
invariant-loop-byte l = l.printable ≡ list_all is_printable (take l.byte-index l.line)
