use Rattle.std.proofs.lemmas.Grind.{common_steps}
use Rattle.std.proofs.Common.{rules, ◌≡◌, ap, ◌∙◌, length, take, arith}
use Rattle.std.proofs.lemmas.Int.{to_z-of_z}
use Rattle.std.proofs.lemmas.List.Elements.{length_all_zip}
use Rattle.iio_layout.specs.Laws.{length-values_by}
use Rattle.iio_layout.specs.Scan.{scan_of}
use Rattle.iio_sensor.specs.Driver.{value_of, values_of}
use Rattle.iio_device.proofs.OfferLemmas.{room_front}
use Rattle.iio_device.proofs.roster.Roster.capture_by.Goals as goal

pub returns-clause-captures : goal.returns-clause-captures
returns-clause-captures g c =
    let tail = g.Q.Tail in
    let roster = c.args.self.now in
    let driver = g.P.Sensor.driver c.args.plug.now in
    let values = values_of driver roster.shape c.args.t in
    let wide = length-values_by roster.shape (value_of driver roster.shape c.args.t) in
    let same : length c.ask.new.room ≡ roster.room.len = search rules in
    let asked : take c.args.self.now.size c.ask.new.room ≡ scan_of roster.shape c.asked-active.result.bits values c.args.t =
    simp (to_z-of_z, c.ranges.t) at c.in_ok-ask.ensures.scan in
    let scan = asked ∙ ap (λ mask. scan_of roster.shape mask values c.args.t) c.asked-active.ensures.value in
    let zip = c.capture.ensures.offered values c.args.t wide (room_front _ _ _ _ same ∙ scan) in
    let many : length roster.members.items ≡ length c.capture.new.self.members.items = length_all_zip _ _ _ zip in
    let len = c.len.ensures in
    (search rules, c.capture.ensures.rest, zip)

pub invariant_of-self : goal.invariant_of-self
invariant_of-self g c = grind (arith, common_steps)
