use Rattle.std.proofs.Common.{◌≡◌, ◌≤◌, List, length}
use Rattle.iio_device.specs.Plug.{driver_of}
use Rattle.iio_history.specs.Registry.{Setup}
use Rattle.iio_core.specs.Trigger.{entries_at}
use Rattle.iio_history.specs.Told.{Told}
use Rattle.iio_bench.specs.declared.connection.Connection.{Connection}
use Rattle.iio_kinds.specs.declared.seat.Seat.{Seat}
use Rattle.iio_bench.specs.Bench.{captures_of, front_of}
use Rattle.iio_system.specs.Moves.{InOrder}
use Rattle.iio_system.specs.Standing.{Holds, RiseBy, step_state}
use Rattle.iio_system.proofs.FireLaws.{IsLeft}
use Rattle.iio_system.proofs.moves.handle_all.Given as goal

abbrev pub invariant-loop-turn : goal.invariant-loop-turn
invariant-loop-turn g l = let drive = driver_of (λ b. (g.dyn-1.0.entry b.vtable).1.driver b.value) in record {
  front : front_of l.bench ≡ front_of l.fn.bench;
  within : l._turn ≤ l.devices;
  captures : RiseBy l._turn (captures_of l.fn.bench) (captures_of l.bench);
  left : (cs : List (Connection Seat)) (s : Setup) (m : Told) → Holds drive s m l.fn.bench cs
      → InOrder 0 (length (front_of l.fn.bench).devices) (entries_at m.triggers l.fn.trigger)
      → IsLeft drive s m l.fn.trigger l._turn (length (front_of l.fn.bench).devices) (step_state l.fn.bench cs l.fn.out.items)
      (step_state l.bench cs l.out.items);
}
