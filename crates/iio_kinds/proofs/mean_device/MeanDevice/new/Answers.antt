use Rattle.std.proofs.Common.{ap}
use Rattle.iio_kinds.proofs.SeatedLemmas.{none_made}
use Rattle.iio_kinds.proofs.mean_device.MeanDevice.new.Goals as goal

pub invariant_of-result : goal.invariant_of-result
invariant_of-result c = record {
  sound =
      none_made c.in_ok-new.field-0 c.new-3.result.items (ap (λ a. a.seats) c.in_ok-new.ensures.value) (ap (λ a. a.window) c.in_ok-new.ensures.value)
      c.new-3.ensures.items;
}
