use Rattle.iio_kinds.proofs.InnerJoins.{seat_state_facts}
use Rattle.iio_kinds.proofs.in_device.InDevice.new.Goals as goal

pub invariant_of-result : goal.invariant_of-result
invariant_of-result g c =
    record {
      sound =
          seat_state_facts c.args.device.core.roster.shape c.args.device.core.roster.members.items _ _ c.new.ensures.items
          (rw c.shape.ensures at c.see_types.ensures);
    }
