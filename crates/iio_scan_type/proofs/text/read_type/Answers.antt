use Rattle.std.proofs.Common.{◌∙◌}
use Rattle.iio_scan_type.proofs.Texts.{found, only}
use Rattle.iio_scan_type.proofs.text.read_type.Goals as goal

pub returns-clause-found : goal.returns-clause-found
returns-clause-found c = found c.args.text.now c.spelled.result c.spelled.ensures

pub returns-clause-only : goal.returns-clause-only
returns-clause-only c = λ f p t. c.spelled.ensures ∙ only c.args.text.now f p t
