use Rattle.std.proofs.Common.{ℕ, drop, ap, arith, ◌∙◌}
use Rattle.std.proofs.lemmas.List.{length-take}
use Rattle.iio_io.proofs.Told.{ReadSoFar-more, TakesUpTo-full, TakesUpTo-end, silent_more}
use Rattle.iio_io.proofs.whole.read_whole.Goals as goal
use Rattle.iio_io.proofs.whole.read_whole.Goals.{else-loop-piece-test, then-loop-piece-test+in_ok-taken+then-taken-eq0}

pub loop-piece-preserved : goal.loop-piece-preserved
loop-piece-preserved g c =
    let old = c.loop-piece.invariant in
    let new = c.in_ok-taken.ensures in
    let grown = c.in_ok-extend_from_slice.ensures in
    record {
      within = omega (arith, grown.len, new.fits, length-take {A = ℕ});
      told =
          ReadSoFar-more _ (g.S.Source.left c.loop-piece.source) (g.S.Source.left c.read.new.self) c.loop-piece.bytes.items c.read.new.out
          (drop c.min-room.result c.loop-piece.piece) _ _ _ _
          old.told new.fits new.next grown.items grown.len;
      silent = silent_more _ _ _ old.silent new.silent;
      counted = omega (arith, old.counted, new.counted);
      steady = new.steady ∙ old.steady;
    }

pub returns-clause-whole : goal.returns-clause-whole
returns-clause-whole g c =
    let old = c.loop-piece.invariant in
    elim c.loop-piece-test.branch [
      | else-loop-piece-test w ↦ TakesUpTo-full _ _ _ _ _ _ old.told (omega arith) (ap g.S.Source.left w.source-is)
      | then-loop-piece-test+in_ok-taken+then-taken-eq0 w ↦
          let new = w.in_ok-taken.ensures in
          let none = new.end w.if-taken-eq0.true (omega (arith, length-take {A = ℕ})) in
          TakesUpTo-end _ _ _ _ _ _ _ _ _ old.told (omega arith) w.if-taken-eq0.true new.next none (ap g.S.Source.left w.source-is)
    ]
