use Rattle.std.proofs.Common.{sym, ap, ◌∙◌, None, false}
use Rattle.iio_base.specs.Refusals.{first_refusal}
use Rattle.iio_desc.specs.Kind.{Input}
use Rattle.iio_device.specs.Plug.{driver_of}
use Rattle.iio_device.specs.Device.{has_no_place}
use Rattle.iio_core.specs.Calls.{newcomer}
use Rattle.iio_kinds.specs.Station.{station_by}
use Rattle.iio_kinds.proofs.InnerLemmas.{refusals_named}
use Rattle.iio_kinds.proofs.InnerJoins.{joined_facts, joins_named, members_joined, next_free}
use Rattle.iio_kinds.proofs.KeepLemmas.{keeps_captures}
use Rattle.iio_kinds.proofs.in_device.InDevice.join.Goals as goal

pub join_input-requires-clause-may : goal.join_input-requires-clause-may
join_input-requires-clause-may g c =
    let drive = driver_of (λ b. (g.dyn-1.0.entry b.vtable).1.driver b.value) in
    let own = c.args.self.now in
    sym (ap (λ xs. first_refusal xs)
    (refusals_named own.inners.items (has_no_place own.device.core.number c.args.trigger.now) Input own.device.core.roster.shape (station_by drive own.device)
    c.args.mask.bits)) ∙ c.requires.may

pub returns-in-None-clause-joins : goal.returns-in-None-clause-joins
returns-in-None-clause-joins g c =
    let drive = driver_of (λ b. (g.dyn-1.0.entry b.vtable).1.driver b.value) in
    let own = c.args.self.now in
    let free =
    next_free own.device.core.roster.shape own.device.core.roster.captures own.device.core.roster.next own.inners.items own.room.items
    own.device.core.roster.members.items own.device.core.roster.sound.each own.sound in
    rw c.in-None.is
    (joins_named c.args.mask c.args.capacity own.device.core.number own.device.core.roster.shape own.inners.items c.join_input.result
    (station_by drive own.device) (station_by drive c.join_input.new.device) c.args.trigger.now c.join_input.new.trigger free
    c.join_input.ensures.joins)

pub returns-in-None-clause-keeps : goal.returns-in-None-clause-keeps
returns-in-None-clause-keeps g c =
    let drive = driver_of (λ b. (g.dyn-1.0.entry b.vtable).1.driver b.value) in
    keeps_captures drive _ _ c.join_input.ensures.keeps

pub invariant_of-self : goal.invariant_of-self
invariant_of-self g c =
    let drive = driver_of (λ b. (g.dyn-1.0.entry b.vtable).1.driver b.value) in
    let own = c.args.self.now in
    let free =
    next_free own.device.core.roster.shape own.device.core.roster.captures own.device.core.roster.next own.inners.items own.room.items
    own.device.core.roster.members.items own.device.core.roster.sound.each own.sound in
    record {
      sound =
          joined_facts own.device.core.roster.shape c.join_input.new.device.core.roster.shape own.inners.items own.room.items
          own.device.core.roster.members.items c.join_input.new.device.core.roster.members.items
          (newcomer c.args.mask.bits c.args.capacity false None (station_by drive own.device)) c.join_input.ensures.keeps.device.shape own.sound free
          (members_joined c.args.mask c.args.capacity own.device.core.number own.device.core.roster.shape c.join_input.result (station_by drive own.device)
          (station_by drive c.join_input.new.device) c.args.trigger.now c.join_input.new.trigger c.join_input.ensures.joins);
    }
