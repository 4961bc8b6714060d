use Rattle.std.proofs.Common.{[], Ok, ap, ◌∙◌}
use Rattle.iio_history.specs.Input.{is_overlong}
use Rattle.iio_history.specs.Outcome.{last_ending}
use Rattle.iio_history.specs.Script.{script_from}
use Rattle.iio_script.specs.Plays.{start_of}
use Rattle.iio_script.proofs.TallyLaws.{script_done, script_refused, without_drivers}
use Rattle.iio_script.proofs.stop.tally_steps.Goals as goal

pub returns-in-Ok-Done : goal.returns-in-Ok-Done
returns-in-Ok-Done g c = λ text front more follows starts looked.
    let stands = without_drivers _ _ _ c.args.desc c.in-Ok-new.system c.new.ensures.items c.in-Ok-new.ensures.stands in
    let is = c.in-Ok-Done.is ∙ ap Ok c.in-Ok-Done.field-0-is in
    let run =
    rw c.in-Ok-Done.field-0-is at
    (c.in-Ok-Done.ensures.played (record { desc = c.args.desc; drivers = [] }) text front more stands c.in-Ok.ensures follows starts looked) in (
      script_done (start_of (record { desc = c.args.desc; drivers = [] }) c.args.first front)
          (script_from c.args.desc (last_ending (is_overlong text)) [] c.args.first more) text run.0 _ _ run.2,
      c.tally.ensures (record { desc = c.args.desc; drivers = [] }) _
          (c.play_steps.ensures.stands is (record { desc = c.args.desc; drivers = [] }) text front more stands c.in-Ok.ensures follows looked),
    )

pub returns-in-Ok-Refused : goal.returns-in-Ok-Refused
returns-in-Ok-Refused g c = λ text front more follows starts looked.
    let stands = without_drivers _ _ _ c.args.desc c.in-Ok-new.system c.new.ensures.items c.in-Ok-new.ensures.stands in
    let run =
    rw c.in-Ok-Refused.field-0-is at
    (c.in-Ok-Refused.ensures.played (record { desc = c.args.desc; drivers = [] }) text front more stands c.in-Ok.ensures follows starts looked) in
    script_refused (start_of (record { desc = c.args.desc; drivers = [] }) c.args.first front)
    (script_from c.args.desc (last_ending (is_overlong text)) [] c.args.first more) c.in-Ok-Refused.line c.in-Ok-Refused.why text run.0 _ _ run.2
