use Rattle.std.proofs.Common.{sym, ◌∙◌}
use Rattle.iio_kinds.proofs.MeanGathers.{fewer_offered, filled_sound, filled_told, member_none, member_some, none_gathered, not_last, unfilled_sound, unfilled_told, values_wide}
use Rattle.iio_kinds.proofs.mean_device.MeanDevice.gather.Goals as goal

pub returns-then-not-has_member-clause-station : goal.returns-then-not-has_member-clause-station
returns-then-not-has_member-clause-station c =
    let old = c.args.self.now in
    λ x is. none_gathered old.average old.plugged old.starts old.next old.captures old.totals old.seats.items old.base x
    (member_none old.average old.captures old.next old.starts old.seats.items old.sound (sym c.has_member.ensures ∙ c.if-not-has_member.true))

pub add-requires-clause-fewer : goal.add-requires-clause-fewer
add-requires-clause-fewer c =
    let old = c.args.self.now in
    fewer_offered old.average old.average old.captures old.next old.starts old.seats.items
    (member_some old.average old.captures old.next old.starts old.seats.items old.sound (sym c.has_member.ensures ∙ c.if-not-has_member.false))
    old.sound c.args.scan.now c.reading_law.ensures
    (not_last c.made-captures.result old.captures c.made-captures.type_inv c.made-captures.ensures c.requires.fewer)

pub invariant_of-self : goal.invariant_of-self
invariant_of-self c = record {
  sound =
      let old = c.args.self.now in
      unfilled_sound old.average c.add.new.self old.captures old.next old.starts old.seats.items
      (member_some old.average old.captures old.next old.starts old.seats.items old.sound (sym c.has_member.ensures ∙ c.if-not-has_member.false))
      old.sound c.args.scan.now c.reading_law.ensures c.in-None.ensures.adds (values_wide old.average.shape c.args.scan.now);
}

pub invariant_of-self-in-Some : goal.invariant_of-self-in-Some
invariant_of-self-in-Some c = record {
  sound =
      let old = c.args.self.now in
      rw c.made-captures.ensures (filled_sound old.average c.add.new.self old.captures old.next old.starts old.seats.items
      (member_some old.average old.captures old.next old.starts old.seats.items old.sound (sym c.has_member.ensures ∙ c.if-not-has_member.false))
      old.sound c.args.scan.now c.reading_law.ensures c.in-Some.field-0 c.in-Some.ensures.adds);
}

pub returns-in-None-clause-station : goal.returns-in-None-clause-station
returns-in-None-clause-station c =
    let old = c.args.self.now in
    λ x is. unfilled_told old.average c.add.new.self old.captures old.next old.starts old.seats.items
    (member_some old.average old.captures old.next old.starts old.seats.items old.sound (sym c.has_member.ensures ∙ c.if-not-has_member.false))
    old.sound c.args.scan.now c.reading_law.ensures c.in-None.ensures.adds old.plugged old.totals old.base x is

pub returns-in-Some-clause-station : goal.returns-in-Some-clause-station
returns-in-Some-clause-station c =
    let old = c.args.self.now in
    λ x is. rw c.made-captures.ensures
    (filled_told old.average c.add.new.self old.captures old.next old.starts old.seats.items
    (member_some old.average old.captures old.next old.starts old.seats.items old.sound (sym c.has_member.ensures ∙ c.if-not-has_member.false))
    old.sound c.args.scan.now c.reading_law.ensures c.in-Some.field-0 c.in-Some.ensures.adds x is old.plugged old.totals old.base)
