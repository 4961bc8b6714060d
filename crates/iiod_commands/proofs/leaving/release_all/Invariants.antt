use Rattle.std.proofs.Common.{◌≡◌, All, vec_len, IfSome, Some}
use Rattle.iio_core.specs.Machine.{Machine}
use Rattle.iiod_commands.specs.Acts.{all_released}
use Rattle.iiod_commands.specs.Client.{IsHolding}
use Rattle.iiod_commands.proofs.leaving.release_all.Given as goal

abbrev pub invariant-loop-dev : goal.invariant-loop-dev
invariant-loop-dev g l = let iio = g.I.Iio in record {
  kept : iio.kept l.iio ≡ iio.kept l.fn.iio;
  known : All (IsHolding (iio.front (iio.kept l.fn.iio))) l.holdings.items;
  told : IfSome (iio.told l.fn.iio)
      (λ m. (n : Machine) × (iio.told l.iio ≡ Some n) × (all_released n l.who l.holdings.items ≡ all_released m l.who l.fn.holdings.items));
}

abbrev pub decreases-loop-dev : goal.decreases-loop-dev
decreases-loop-dev g l = vec_len l.holdings
