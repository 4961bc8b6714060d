use Rattle.std.proofs.Common.{◌+◌, ◌-◌, ◌<◌}
use Rattle.std.proofs.lemmas.Nat.{pow_pos}
use Rattle.iio_layout.proofs.LayoutLemmas.{last_multiple}
use Rattle.iio_layout.proofs.ScanLemmas.{and_size}
use Rattle.iio_layout.proofs.scan.aligned.Goals as goal

pub returns : goal.returns
returns c =
    let end = c.args.end in
    let size = c.args.size in
    let some : 0 < size = rw c.requires.power.1 (pow_pos c.requires.power.0) in
    rw (and_size (end + (size - 1)) size c.requires.power) (last_multiple end size some)
