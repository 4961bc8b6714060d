use Rattle.iio_device.proofs.DeviceLemmas.{made, right_writes}
use Rattle.iio_device.proofs.device.Fitted+IioDev+Q.new.Goals as goal

pub first_stored-requires : goal.first_stored-requires
first_stored-requires g c = rw c.deref.ensures.value (right_writes _ c.args.desc c.desc.view_is c.requires.writes)

pub returns : goal.returns
returns g c =
    made _ c.args.desc c.args.number _ _ _ _ _ c.desc.view_is c.in_ok-new.ensures c.new-2.ensures (c.in_ok-stored.ensures.site c.desc.inside.trigger)
    c.deref.ensures.value
