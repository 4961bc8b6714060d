use Rattle.std.proofs.Common.{true}
use Rattle.iio_device.specs.Standing.{standing_of}
use Rattle.iio_device.proofs.DeviceLemmas.{same_but}
use Rattle.iio_device.proofs.attributes.Fitted+IioDev+Q.write_attr.Goals as goal

pub returns-clause-state : goal.returns-clause-state
returns-clause-state g c =
    let core = c.args.self.now.core in
    rw c.in-Some.is (same_but core.name core.number (standing_of core.roster) core.totals _ _ (c.write.ensures.site true core.trigger core.attachment))
