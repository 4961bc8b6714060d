use mir.Syntax.{w64}
use mir.Val.{SFits}
use Rattle.std.proofs.Common.{rules, refl, ap}
use Rattle.std.proofs.lemmas.Int.{to_z-of_z}
use Rattle.iio_history.specs.Transcript.{Fire}
use Rattle.iio_system.specs.Standing.{names_by}
use Rattle.iio_script.specs.Plays.{step_kept}
use Rattle.iio_script.proofs.script.play_fire.Goals as goal

pub returns-in-Err-clause-performs : goal.returns-in-Err-clause-performs
returns-in-Err-clause-performs g c = (ap (step_kept (names_by c.args.system.now)) (c.in-Err.ensures.value (λ t m. Fire t m)), (refl, refl))

pub returns-in_ok-fire-in-Ok-clause-performs : goal.returns-in_ok-fire-in-Ok-clause-performs
returns-in_ok-fire-in-Ok-clause-performs g c =
    let fits : SFits w64 c.in-Ok.moment = search rules in (
      _,
      (
        ap (step_kept (names_by c.args.system.now)) (c.in-Ok.ensures.value (λ t m. Fire t m)),
        simp (to_z-of_z, fits) at c.in_ok-fire-in-Ok.ensures.performed,
      ),
    )
