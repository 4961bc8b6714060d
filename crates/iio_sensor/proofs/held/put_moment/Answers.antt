use Rattle.std.proofs.Common.{◌≡◌, ◌+◌, ◌-◌, refl, arith, w64}
use Rattle.std.proofs.lemmas.Int.{to_z-of_z}
use Rattle.std.proofs.lemmas.List.{drop-drop}
use Rattle.iio_sensor.proofs.held.put_moment.Goals as goal

pub returns : goal.returns
returns c =
    let eight : c.args.place + 8 - c.args.place ≡ 8 = omega arith in
    let moment = rw (to_z-of_z w64 c.args.t c.ranges.t, c.stamp.ensures) at c.put_element.ensures in
    rw (moment, eight, drop-drop 8 c.args.place c.args.out.now) refl
