use Rattle.std.proofs.Common.{◌≡◌, drop}
use Rattle.iio_attr.specs.Table.{find_row}
use Rattle.iio_attr.proofs.attributes.find_in.Given as goal

abbrev pub invariant-loop-row : goal.invariant-loop-row
invariant-loop-row l = find_row (drop l.row-index l.rows) l.scope l.name ≡ find_row l.rows l.scope l.name
