use Rattle.std.proofs.Common.{arith, ℕ, ◌∙◌}
use Rattle.std.proofs.lemmas.List.{length-drop, length-take}
use Rattle.iio_io.proofs.Told.{WroteSoFar-more, silent_more}
use Rattle.iio_io.proofs.whole.send_whole.Goals as goal

pub loop-done-preserved : goal.loop-done-preserved
loop-done-preserved g c =
    let old = c.loop-done.invariant in
    let new = c.in_ok-done.ensures in
    record {
      within = omega (arith, new.fits, length-take {A = ℕ}, length-drop {A = ℕ});
      told = WroteSoFar-more _ _ _ _ _ _ _ old.told (omega (arith, new.fits, length-take {A = ℕ})) new.appended;
      silent = silent_more _ _ _ old.silent new.silent;
      left = new.left ∙ old.left;
      steady = new.steady ∙ old.steady;
    }
