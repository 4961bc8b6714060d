-- Why a member is refused.
use Rattle.std.proofs.Common.{◌≡◌, Option, Some, None, Err}
use Rattle.iio_base.specs.Refusals.{unless_refused}
use Rattle.iio_device.specs.declared.roster.JoinFault.{JoinFault}
use Rattle.iio_device.specs.Roster.{IsRefusal}

-- a check that didn't pass has its refusal
pub refused_as : (fault : JoinFault) (stated : Option JoinFault) → Err fault ≡ unless_refused (tt {0}) stated → IsRefusal fault stated
refused_as fault None h = cc
refused_as fault (Some x) h = cc
