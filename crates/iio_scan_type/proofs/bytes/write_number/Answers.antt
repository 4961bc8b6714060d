use Rattle.iio_scan_type.proofs.NumberBytes.{drop-bytes_high_first, take-bytes_low_first}
use Rattle.iio_scan_type.proofs.bytes.write_number.Goals as goal

pub returns-in-Little : goal.returns-in-Little
returns-in-Little c =
    rw (c.in-Little.is, c.write_front.ensures, c.to_le_bytes.ensures) (take-bytes_low_first 0 _ 8 c.args.number c.requires)

pub returns-in-Big : goal.returns-in-Big
returns-in-Big c =
    rw (c.in-Big.is, c.write_back.ensures, c.to_be_bytes.ensures) (drop-bytes_high_first _ 8 c.args.number c.requires)
