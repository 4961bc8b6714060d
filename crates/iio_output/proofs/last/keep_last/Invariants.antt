use Rattle.std.proofs.Common.{◌≡◌, ◌++◌, take, drop}
use Rattle.iio_output.specs.Last.{GivenScan, last_from}
use Rattle.iio_output.proofs.last.keep_last.Given as goal

abbrev pub invariant-loop-c : goal.invariant-loop-c
invariant-loop-c l =
    let x : GivenScan = record { mask = l.mask.bits; bytes = l.scan } in
    take l.c l.last ++ last_from l.shape x l.c (drop l.c l.last) ≡ last_from l.shape x 0 l.fn.last
