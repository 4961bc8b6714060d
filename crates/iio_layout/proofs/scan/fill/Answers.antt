use Rattle.std.proofs.Common.{ap, ◌∙◌}
use Rattle.std.specs.Int.{w64}
use Rattle.std.proofs.lemmas.Int.{to_z-of_z}
use Rattle.iio_layout.specs.Laws.{scan_of-at, scan_of-outside}
use Rattle.iio_layout.specs.Scan.{scan_of}
use Rattle.iio_layout.proofs.ValueLemmas.{values_by-list}
use Rattle.iio_layout.proofs.scan.fill.Goals as goal

scan : goal.returns-clause-scan
scan c =
    rw (to_z-of_z w64 c.args.t c.ranges.t) at c.fill_from.ensures
    ∙ ap (λ values. scan_of c.args.shape.now c.args.mask.bits values c.args.t) (values_by-list c.args.shape.now c.args.values.now c.requires.width)

pub returns-clause-scan : goal.returns-clause-scan
returns-clause-scan c = scan c

pub returns-clause-bytes : goal.returns-clause-bytes
returns-clause-bytes c = λ channel j within selected inside.
    rw (scan c) (scan_of-at c.args.shape.now c.args.mask.bits c.args.values.now c.args.t channel j c.requires.width within selected inside)

pub returns-clause-padding : goal.returns-clause-padding
returns-clause-padding c = λ j outside.
    rw (scan c) (scan_of-outside c.args.shape.now c.args.mask.bits c.args.values.now c.args.t j c.requires.width outside)
