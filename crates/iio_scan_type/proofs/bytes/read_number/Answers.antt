use Rattle.std.proofs.Common.{◌∙◌}
use Rattle.iio_scan_type.proofs.NumberBytes.{low_first_read, high_first_read}
use Rattle.iio_scan_type.proofs.bytes.read_number.Goals as goal

pub returns-in-Little : goal.returns-in-Little
returns-in-Little c = rw c.in-Little.is (c.from_le_bytes.ensures ∙ low_first_read _ _ c.copy_from_slice.ensures.after c.requires)

pub returns-in-Big : goal.returns-in-Big
returns-in-Big c = rw c.in-Big.is (c.from_be_bytes.ensures ∙ high_first_read _ _ c.copy_from_slice-in-Big.ensures.after c.requires)
