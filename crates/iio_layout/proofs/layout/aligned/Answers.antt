use Rattle.std.proofs.Common.{◌-◌, ◌%◌, refl}
use Rattle.iio_layout.proofs.ScanLemmas.{and_size}
use Rattle.iio_layout.proofs.layout.aligned.Goals as goal

pub returns : goal.returns
returns c =
    let size = c.args.size in
    rw (and_size c.args.end size c.requires.power, and_size (size - c.args.end % size) size c.requires.power) refl

pub overflow_add-result : goal.overflow_add-result
overflow_add-result c = record { fits = rw (returns c) c.requires.fits }
