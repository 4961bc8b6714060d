use Rattle.std.proofs.Common.{[], refl}
use Rattle.iio_script.proofs.TallyLaws.{without_drivers}
use Rattle.iio_script.proofs.stop.tally_alone.Goals as goal

pub returns-in-Ok : goal.returns-in-Ok
returns-in-Ok c = λ first. (
  refl,
  c.tally.ensures (record { desc = c.args.desc; drivers = [] }) []
      (without_drivers _ _ _ c.args.desc c.in-Ok.system c.new.ensures.items c.in-Ok.ensures.stands),
)
