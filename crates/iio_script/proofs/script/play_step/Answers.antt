use Rattle.std.proofs.Common.{◌≡◌, Ok, Err, Result, IfOk, refl, sym, ap, ◌∙◌, subst, arith}
use Rattle.iio_text.specs.Words.{is_space, words_of}
use Rattle.iio_history.specs.Transcript.{Step}
use Rattle.iio_text.specs.declared.refusals.Why.{Why}
use Rattle.iio_system.specs.Standing.{names_by}
use Rattle.iio_system.specs.Step.{step_view}
use Rattle.iio_script.specs.Plays.{step_kept}
use Rattle.iio_script.specs.Step.{form_of, read_view}
use Rattle.iio_script.proofs.CostLemmas.{IsMove, form_moves, move_cost, move_kept, move_taken}
use Rattle.iio_script.proofs.script.play_step.Goals as goal

pub returns-in-Err-clause-performs : goal.returns-in-Err-clause-performs
returns-in-Err-clause-performs g c =
    (ap (step_kept (names_by c.args.system.now)) (sym c.in-Err.ensures.value), (refl, refl))

pub step-requires-clause-taken : goal.step-requires-clause-taken
step-requires-clause-taken g c =
    let move : IsMove (step_view c.in-Ok.step) =
    subst (λ (r : Result Step Why). IfOk r IsMove) (sym c.in-Ok.ensures.value) (form_moves c.args.word c.args.names.now (words_of is_space c.args.words.now)) in
    move_taken (names_by c.args.system.now) c.in-Ok.step move

pub step-requires-clause-few : goal.step-requires-clause-few
step-requires-clause-few g c =
    let move : IsMove (step_view c.in-Ok.step) =
    subst (λ (r : Result Step Why). IfOk r IsMove) (sym c.in-Ok.ensures.value) (form_moves c.args.word c.args.names.now (words_of is_space c.args.words.now)) in
    let cost = move_cost c.in-Ok.step move in
    omega (arith, cost, c.requires.few)

pub returns-in_ok-step-in-Ok-clause-used : goal.returns-in_ok-step-in-Ok-clause-used
returns-in_ok-step-in-Ok-clause-used g c =
    let move : IsMove (step_view c.in-Ok.step) =
    subst (λ (r : Result Step Why). IfOk r IsMove) (sym c.in-Ok.ensures.value) (form_moves c.args.word c.args.names.now (words_of is_space c.args.words.now)) in
    let cost = move_cost c.in-Ok.step move in
    omega (arith, cost, c.in_ok-step-in-Ok.ensures.used)

pub returns-in_ok-step-in-Ok-clause-performs : goal.returns-in_ok-step-in-Ok-clause-performs
returns-in_ok-step-in-Ok-clause-performs g c =
    let move : IsMove (step_view c.in-Ok.step) =
    subst (λ (r : Result Step Why). IfOk r IsMove) (sym c.in-Ok.ensures.value) (form_moves c.args.word c.args.names.now (words_of is_space c.args.words.now)) in
    let kept = move_kept (names_by c.args.system.now) (step_view c.in-Ok.step) move in (
      step_view c.in-Ok.step,
      (
        ap (step_kept (names_by c.args.system.now)) (sym c.in-Ok.ensures.value) ∙ rw kept refl,
        record { lines = c.in_ok-step-in-Ok.ensures.lines; names = c.in_ok-step-in-Ok.ensures.names },
      ),
    )
