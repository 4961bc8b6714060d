use Rattle.std.proofs.Common.{◌≡◌, vec_len, IfSome, Some}
use Rattle.iio_core.specs.Machine.{Machine}
use Rattle.iiod_commands.specs.Acts.{all_closed}
use Rattle.iiod_commands.specs.Client.{AllHeld, seats_of}
use Rattle.iiod_commands.proofs.leaving.close_all.Given as goal

abbrev pub invariant-loop-h : goal.invariant-loop-h
invariant-loop-h g l = let iio = g.I.Iio in record {
  kept : iio.kept l.iio ≡ iio.kept l.fn.iio;
  held : AllHeld iio.seen (iio.front (iio.kept l.fn.iio)) l.held.items;
  told : IfSome (iio.told l.fn.iio)
      (λ m. (n : Machine) × (iio.told l.iio ≡ Some n)
      × (all_closed (iio.front (iio.kept l.fn.iio)) n (seats_of iio.seen l.held.items)
      ≡ all_closed (iio.front (iio.kept l.fn.iio)) m (seats_of iio.seen l.fn.held.items)));
}

abbrev pub decreases-loop-h : goal.decreases-loop-h
decreases-loop-h g l = vec_len l.held
