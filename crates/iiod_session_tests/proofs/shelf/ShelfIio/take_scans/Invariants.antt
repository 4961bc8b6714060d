use Rattle.std.proofs.Common.{◌≡◌, ◌+◌, ◌-◌, ◌*◌, ◌≤◌, length, vec_capacity}
use Rattle.iiod_session_tests.specs.Shelf.{seen_of}
use Rattle.iiod_session_tests.proofs.ShelfLaws.{Came}
use Rattle.iiod_session_tests.proofs.shelf.ShelfIio.take_scans.Given as goal

abbrev pub invariant-loop-count : goal.invariant-loop-count
invariant-loop-count l = record {
  within : l.count ≤ l.most;
  front : l.self.front ≡ l.fn.self.front;
  came : Came l.count (seen_of l.fn.seat) (seen_of l.seat) l.fn.out.items l.out.items;
  size : l.seat.size ≡ l.fn.seat.size;
  bytes : length l.out.items ≡ length l.fn.out.items + l.count * l.fn.seat.size;
  room : vec_capacity l.fn.out ≤ vec_capacity l.out;
}

abbrev pub decreases-loop-count : goal.decreases-loop-count
decreases-loop-count l = l.most - l.count
