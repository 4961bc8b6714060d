use Rattle.std.proofs.Common.{◌≡◌, ◌+◌, ◌*◌, ◌%◌, ◌≤◌, ◌++◌, length, take, vec_capacity}
use Rattle.std.specs.List.{flat_map}
use Rattle.iio_kfifo.specs.Steps.{Turned}
use Rattle.iio_kfifo.proofs.reader.append_run.Given as goal

abbrev pub invariant-loop : goal.invariant-loop
invariant-loop l = record {
  below : l.counter ≤ l.run;
  ring : l.seat.table_id ≡ l.initial.seat.table_id;
  view : l.seat.me.0 ≡ l.initial.seat.me.0;
  held : Turned l.slots l.initial.seat.me.0.size (length l.initial.seat.me.0.reading.received) l.counter l.initial.seat.me.0.reading.hand l.seat.me.1;
  bytes : l.out.items ≡ l.initial.out.items ++ flat_map (λ s. s.scan) (take l.counter l.initial.seat.me.0.reading.hand);
  long : length l.out.items ≡ length l.initial.out.items + l.counter * l.initial.seat.me.0.size;
  room : vec_capacity l.initial.out ≤ vec_capacity l.out;
  at : l.at ≡ (length l.initial.seat.me.0.reading.received + l.counter) % l.slots;
}
