use Rattle.std.proofs.Common.{◌-◌, ◌≡◌, ◌+◌, ◌*◌, ◌<◌, ◌≤◌, length, vec_capacity, min}
use Rattle.iio_kfifo.specs.Ends.{AllReceived, TakesSome}
use Rattle.iio_kfifo.proofs.reader.Reader.take_scans.Given as goal

abbrev pub invariant-loop-taken : goal.invariant-loop-taken
invariant-loop-taken l = record {
  below : l.taken ≤ l.most;
  same : l.self ≡ record l.initial.self { knows = l.self.knows };
  takes : TakesSome l.initial.self.knows l.taken l.initial.out.items l.out.items l.self.knows;
  short : (l.run ≡ 0) → (l.initial.self.knows.looks < l.self.knows.looks) × (l.self.knows.left ≡ 0) × AllReceived l.self.knows;
  sized : length l.out.items ≡ length l.initial.out.items + l.taken * l.initial.self.size;
  room : vec_capacity l.initial.out ≤ vec_capacity l.out;
}

abbrev pub decreases-loop-taken : goal.decreases-loop-taken
decreases-loop-taken l = (l.most - l.taken) + min l.run 1
