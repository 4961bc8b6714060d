use Rattle.std.proofs.Common.{◌≡◌, ◌≤◌, true, false, Option, Some, None, Ok, option_map, sym, ap, ◌∙◌, subst, arith}
use Rattle.iio_text.specs.declared.faults.LineFault.{LineFault}
use Rattle.iio_text.specs.LineFault.{Tells}
use Rattle.iio_history.specs.Script.{keeps_names, step_of}
use Rattle.iio_system.specs.declared.step.Step.{Step}
use Rattle.iio_system.specs.Standing.{names_by}
use Rattle.iio_system.specs.Step.{cost_of, step_view}
use Rattle.iio_script.specs.Plays.{progress_of}
use Rattle.iio_script.proofs.CostLemmas.{cost_of_line}
use Rattle.iio_script.proofs.KeepLaws.{keeps_more, keeps_over, keeps_past, keeps_wrong}
use Rattle.iio_script.proofs.OutlineLemmas.{same_step}
use Rattle.iio_script.proofs.keeping.keep_line.Goals as goal

pub returns-in-Err-Why-clause-keeps : goal.returns-in-Err-Why-clause-keeps
returns-in-Err-Why-clause-keeps g c = λ s first given finds keeps ending lines.
    let said = subst (λ (e : LineFault). Tells e (step_of c.args.names.now c.args.line.now)) c.in-Err-Why.field-0-is c.in-Err-Why.ensures.err in
    keeps_wrong _ s c.args.watched.now c.args.system.now _ _ c.args.line.now lines c.in-Err-Why.why ending
    (sym (same_step c.args.names.now s.desc c.args.line.now finds) ∙ said) keeps

pub returns-in_default-clause-keeps : goal.returns-in_default-clause-keeps
returns-in_default-clause-keeps g c = λ s first given finds keeps.
    let said : step_of c.args.names.now c.args.line.now ≡ Ok None =
    c.in-Ok.ensures.ok ∙ ap (λ (o : Option Step). Ok (option_map step_view o)) c.in_default.is in
    keeps_past _ s c.args.watched.now c.args.system.now _ _ c.args.line.now
    (sym (same_step c.args.names.now s.desc c.args.line.now finds) ∙ said) keeps

pub returns-then-not-takes-clause-keeps : goal.returns-then-not-takes-clause-keeps
returns-then-not-takes-clause-keeps g c = λ s first given finds keeps ending lines.
    let over : keeps_names (names_by c.args.system.now) (Some (step_view c.in-Some.step)) ≡ false = sym c.takes.ensures ∙ c.if-not-takes.true in
    let said : step_of c.args.names.now c.args.line.now ≡ Ok (Some (step_view c.in-Some.step)) =
    c.in-Ok.ensures.ok ∙ ap (λ (o : Option Step). Ok (option_map step_view o)) c.in-Some.is in
    keeps_over _ s c.args.watched.now c.args.system.now _ _ c.args.line.now lines (step_view c.in-Some.step) ending
    (sym (same_step c.args.names.now s.desc c.args.line.now finds) ∙ said) over keeps

pub keep_step-requires-clause-few : goal.keep_step-requires-clause-few
keep_step-requires-clause-few g c =
    let said : step_of c.args.names.now c.args.line.now ≡ Ok (Some (step_view c.in-Some.step)) =
    c.in-Ok.ensures.ok ∙ ap (λ (o : Option Step). Ok (option_map step_view o)) c.in-Some.is in
    let cost : cost_of c.in-Some.step ≤ 1048577 = cost_of_line c.args.names.now c.args.line.now c.in-Some.step said in
    omega (arith, cost, c.requires.few, c.ranges.number)

pub returns-clause-used : goal.returns-clause-used
returns-clause-used g c =
    let said : step_of c.args.names.now c.args.line.now ≡ Ok (Some (step_view c.in-Some.step)) =
    c.in-Ok.ensures.ok ∙ ap (λ (o : Option Step). Ok (option_map step_view o)) c.in-Some.is in
    let cost : cost_of c.in-Some.step ≤ 1048577 = cost_of_line c.args.names.now c.args.line.now c.in-Some.step said in
    omega (arith, cost, c.in_ok-keep_step.ensures.used)

pub returns-clause-keeps : goal.returns-clause-keeps
returns-clause-keeps g c = λ s first given finds keeps.
    let room : keeps_names (names_by c.args.system.now) (Some (step_view c.in-Some.step)) ≡ true = sym c.takes.ensures ∙ c.if-not-takes.false in
    let said : step_of c.args.names.now c.args.line.now ≡ Ok (Some (step_view c.in-Some.step)) =
    c.in-Ok.ensures.ok ∙ ap (λ (o : Option Step). Ok (option_map step_view o)) c.in-Some.is in
    keeps_more _ s c.args.watched.now c.args.system.now c.keep_step.new.system _ _ (progress_of first c.args.number given) c.args.line.now
    (step_view c.in-Some.step)
    (sym (same_step c.args.names.now s.desc c.args.line.now finds) ∙ said) room (λ h stands neutral. c.in_ok-keep_step.ensures.keeps s h stands neutral)
    c.in_ok-keep_step.ensures.names keeps
