use Rattle.std.proofs.Common.{◌≡◌, ◌≤◌, true, false, length, Some, refl, sym, ap, ◌∙◌, subst, arith}
use Rattle.iio_text.specs.declared.faults.LineFault.{LineFault}
use Rattle.iio_text.specs.LineFault.{Tells}
use Rattle.iio_text.specs.Words.{from_word}
use Rattle.iio_history.specs.Script.{keeps_names}
use Rattle.iio_history.specs.Transcript.{Feed}
use Rattle.iio_system.specs.Standing.{names_by}
use Rattle.iio_script.specs.Plays.{step_kept}
use Rattle.iio_script.specs.Step.{feed_of}
use Rattle.iio_script.proofs.CostLemmas.{few_fed}
use Rattle.iio_script.proofs.script.play_feed.Goals as goal

pub returns-in-Err-Why-clause-performs : goal.returns-in-Err-Why-clause-performs
returns-in-Err-Why-clause-performs g c = (
  ap (step_kept (names_by c.args.system.now))
      (subst (λ (e : LineFault). Tells e (feed_of c.args.name.now (from_word c.args.words.now))) c.in-Err-Why.field-0-is c.in-Err-Why.ensures.err),
  (refl, refl),
)

pub returns-then-not-takes-clause-performs : goal.returns-then-not-takes-clause-performs
returns-then-not-takes-clause-performs g c =
    let over : keeps_names (names_by c.args.system.now) (Some (Feed c.in-Ok.name c.read_feed.new.bytes.items)) ≡ false =
    sym c.takes.ensures ∙ c.if-not-takes.true in
    (ap (step_kept (names_by c.args.system.now)) c.in-Ok.ensures.ok ∙ rw over refl, (refl, refl))

pub feed-requires-clause-few : goal.feed-requires-clause-few
feed-requires-clause-few g c =
    let few = few_fed c.args.name.now c.args.words.now c.in-Ok.name c.read_feed.new.bytes.items c.in-Ok.ensures.ok in
    omega (arith, few, c.requires.few)

pub returns-clause-used : goal.returns-clause-used
returns-clause-used g c =
    let few = few_fed c.args.name.now c.args.words.now c.in-Ok.name c.read_feed.new.bytes.items c.in-Ok.ensures.ok in
    omega (arith, few, c.in_ok-feed.ensures.used)

pub returns-clause-performs : goal.returns-clause-performs
returns-clause-performs g c =
    let kept : keeps_names (names_by c.args.system.now) (Some (Feed c.in-Ok.name c.read_feed.new.bytes.items)) ≡ true =
    sym c.takes.ensures ∙ c.if-not-takes.false in (
      Feed c.in-Ok.name c.read_feed.new.bytes.items,
      (ap (step_kept (names_by c.args.system.now)) c.in-Ok.ensures.ok ∙ rw kept refl, rw c.deref.ensures.value at c.in_ok-feed.ensures.performed),
    )
