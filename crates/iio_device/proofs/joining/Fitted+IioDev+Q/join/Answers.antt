use Rattle.std.proofs.Common.{refl}
use Rattle.iio_device.proofs.JoiningLemmas.{refused_as}
use Rattle.iio_device.proofs.joining.Fitted+IioDev+Q.join.Goals as goal

pub returns-in-Err : goal.returns-in-Err
returns-in-Err g c = (refused_as c.in-Err.fault _ c.in-Err.ensures, refl, refl, refl)
