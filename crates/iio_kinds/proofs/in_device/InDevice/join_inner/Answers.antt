use Rattle.std.proofs.Common.{rules, ◌≡◌, ◌∷◌, ◌++◌, [], ap, refl, sym, subst, ◌∙◌, None, Some, Ok, false, length, List}
use Rattle.iio_base.specs.Refusals.{first_refusal}
use Rattle.iio_desc.specs.Kind.{Input}
use Rattle.iio_layout.specs.Layout.{scan_size}
use Rattle.iio_device.specs.Plug.{driver_of}
use Rattle.iio_device.specs.Device.{has_no_place}
use Rattle.iio_core.specs.Calls.{newcomer}
use Rattle.iio_kinds.specs.declared.in_device.Inner.{Inner}
use Rattle.iio_kinds.specs.Faults.{JoinsAny, joining_of}
use Rattle.iio_kinds.specs.Inner.{HasInners}
use Rattle.iio_kinds.specs.Station.{station_by}
use Rattle.iio_kinds.proofs.InnerLemmas.{facts_same, named, refusals_named}
use Rattle.iio_kinds.proofs.InnerJoins.{inner_facts, inner_joins, next_free, room_facts, told_below, unresized}
use Rattle.iio_kinds.proofs.in_device.InDevice.join_inner.Goals as goal

pub join_input-requires-clause-may : goal.join_input-requires-clause-may
join_input-requires-clause-may g c =
    let drive = driver_of (λ b. (g.dyn-1.0.entry b.vtable).1.driver b.value) in
    let own = c.args.self.now in
    sym (ap (λ xs. first_refusal xs)
    (refusals_named own.inners.items (has_no_place own.device.core.number c.args.trigger.now) Input own.device.core.roster.shape (station_by drive own.device)
    c.args.mask.bits)) ∙ c.requires.may

pub invariant_of-self : goal.invariant_of-self
invariant_of-self g c =
    let own = c.args.self.now in
    record {
      sound =
          subst (λ is. HasInners own.device.core.roster.shape own.device.core.roster.members.items is own.room.items) (sym c.reserve.ensures.items) own.sound;
    }

pub invariant_of-self-then-is_err-2 : goal.invariant_of-self-then-is_err-2
invariant_of-self-then-is_err-2 g c =
    let own = c.args.self.now in
    let kept = unresized _ _ own.room.items _ c.resize.new.self.items c.resize.ensures.items c.is_err-2.ensures.negation c.if-is_err-2.true in
    record {
      sound =
          subst (λ is. HasInners own.device.core.roster.shape own.device.core.roster.members.items is c.resize.new.self.items) (sym c.reserve.ensures.items)
          (subst (λ room. HasInners own.device.core.roster.shape own.device.core.roster.members.items own.inners.items room) (sym kept) own.sound);
    }

pub invariant_of-self-in-Ok : goal.invariant_of-self-in-Ok
invariant_of-self-in-Ok g c =
    let drive = driver_of (λ b. (g.dyn-1.0.entry b.vtable).1.driver b.value) in
    let own = c.args.self.now in
    let st = station_by drive own.device in
    let seat = c.in-Ok.seat in
    let shape = own.device.core.roster.shape in
    let joins = c.in-Ok.ensures.joins in
    let long : length c.resize.new.self.items ≡ c.scan_size-size.result = search rules in
    let sized =
    long ∙ c.scan_size-size.ensures.value ∙ ap (λ s. scan_size s c.args.mask.bits) c.shape.ensures ∙ ap (λ n. scan_size shape n) c.requires.inner.whole in
    let items : c.push_reserved.new.self.items ≡ own.inners.items ++ record { number = own.device.core.roster.next; average = c.args.average } ∷ [] =
    c.push_reserved.ensures.items
    ∙ ap (λ (is : List Inner). is ++ record { number = seat.number; average = c.args.average } ∷ []) c.reserve.ensures.items
    ∙ ap (λ n. own.inners.items ++ record { number = n; average = c.args.average } ∷ []) (ap (λ s. s.number) joins.0) in
    record {
      sound =
          subst (λ is. HasInners c.join_input.new.device.core.roster.shape c.join_input.new.device.core.roster.members.items is c.resize.new.self.items)
          (sym items)
          (inner_facts shape c.join_input.new.device.core.roster.shape own.inners.items own.room.items c.resize.new.self.items
          own.device.core.roster.members.items c.join_input.new.device.core.roster.members.items own.device.core.roster.next c.args.average
          (newcomer c.args.mask.bits c.args.capacity false None st) c.join_input.ensures.keeps.device.shape own.sound
          (told_below shape own.device.core.roster.captures own.device.core.roster.next own.device.core.roster.members.items own.device.core.roster.sound.each)
          (record { whole = c.requires.inner.whole; one = c.requires.inner.one; none = refl }) refl c.requires.inner.none (ap (λ x. x.members) joins.1) sized);
    }

pub invariant_of-self-in-Err-1 : goal.invariant_of-self-in-Err-1
invariant_of-self-in-Err-1 g c =
    let own = c.args.self.now in
    let shape = own.device.core.roster.shape in
    let long : length c.resize.new.self.items ≡ c.scan_size-size.result = search rules in
    let sized =
    long ∙ c.scan_size-size.ensures.value ∙ ap (λ s. scan_size s c.args.mask.bits) c.shape.ensures ∙ ap (λ n. scan_size shape n) c.requires.inner.whole in
    record {
      sound =
          subst (λ is. HasInners c.join_input.new.device.core.roster.shape c.join_input.new.device.core.roster.members.items is c.resize.new.self.items)
          (sym c.reserve.ensures.items)
          (facts_same shape c.join_input.new.device.core.roster.shape own.inners.items c.resize.new.self.items own.device.core.roster.members.items
          c.join_input.new.device.core.roster.members.items c.join_input.ensures.keeps.device.shape (ap (λ x. x.members) c.in-Err.ensures.joins.1)
          (room_facts shape own.inners.items own.room.items c.resize.new.self.items own.device.core.roster.members.items sized own.sound));
    }

pub returns-then-is_err-clause-joins : goal.returns-then-is_err-clause-joins
returns-then-is_err-clause-joins g c =
    let drive = driver_of (λ b. (g.dyn-1.0.entry b.vtable).1.driver b.value) in
    (refl, ap (λ is. named is (station_by drive c.args.self.now.device)) c.reserve.ensures.items, refl)

pub returns-then-is_err-2-clause-joins : goal.returns-then-is_err-2-clause-joins
returns-then-is_err-2-clause-joins g c =
    let drive = driver_of (λ b. (g.dyn-1.0.entry b.vtable).1.driver b.value) in
    (refl, ap (λ is. named is (station_by drive c.args.self.now.device)) c.reserve.ensures.items, refl)

pub returns-in-Err-clause-joins : goal.returns-in-Err-clause-joins
returns-in-Err-clause-joins g c =
    let drive = driver_of (λ b. (g.dyn-1.0.entry b.vtable).1.driver b.value) in
    let joins = c.in-Err.ensures.joins in (
      joins.0,
      ap (named c.reserve.new.self.items) joins.1 ∙ ap (λ is. named is (station_by drive c.args.self.now.device)) c.reserve.ensures.items,
      joins.2,
    )

pub returns-in-Ok-clause-joins : goal.returns-in-Ok-clause-joins
returns-in-Ok-clause-joins g c =
    let drive = driver_of (λ b. (g.dyn-1.0.entry b.vtable).1.driver b.value) in
    let own = c.args.self.now in
    let st = station_by drive own.device in
    let after = station_by drive c.join_input.new.device in
    let seat = c.in-Ok.seat in
    let shape = own.device.core.roster.shape in
    let free =
    next_free shape own.device.core.roster.captures own.device.core.roster.next own.inners.items own.room.items
    own.device.core.roster.members.items own.device.core.roster.sound.each own.sound in
    let below =
    told_below shape own.device.core.roster.captures own.device.core.roster.next own.device.core.roster.members.items own.device.core.roster.sound.each in
    let items : c.push_reserved.new.self.items ≡ own.inners.items ++ record { number = seat.number; average = c.args.average } ∷ [] =
    c.push_reserved.ensures.items
    ∙ ap (λ (is : List Inner). is ++ record { number = seat.number; average = c.args.average } ∷ []) c.reserve.ensures.items in
    subst (λ is. JoinsAny (joining_of own.device.core.number shape c.args.mask c.args.capacity false (Some c.args.average)) (Ok seat)
    (named own.inners.items st) (named is after) c.args.trigger.now c.join_input.new.trigger) (sym items)
    (inner_joins c.args.mask c.args.average own.device.core.number shape own.inners.items seat st after c.args.trigger.now c.join_input.new.trigger
    c.args.capacity free below c.in-Ok.ensures.joins)
