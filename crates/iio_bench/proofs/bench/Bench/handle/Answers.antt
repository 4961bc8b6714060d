use Rattle.std.proofs.Common.{◌≡◌, ◌∙◌, Bool, Option, length, map, sym, ap, subst, List, []}
use Rattle.std.proofs.lemmas.Option.{slice_get_read}
use Rattle.iio_desc.specs.Description.{DeviceHead}
use Rattle.iio_device.specs.Plug.{driver_of}
use Rattle.iio_device.specs.Site.{no_driver}
use Rattle.iio_trigger.specs.Trigger.{Handed}
use Rattle.iio_core.specs.Front.{Front, kind_at}
use Rattle.iio_core.specs.Machine.{Station, station_at, Machine}
use Rattle.iio_core.specs.Trigger.{entry_of, entries_at, Trigger}
use Rattle.iio_core.specs.Moves.{entry_in, machine_after_entry, taken_off}
use Rattle.iio_bench.specs.Bench.{has_ended, triggers_of, machine_of}
use Rattle.iio_kinds.specs.Handling.{IsRoom, counted, is_last, unless_ended}
use Rattle.iio_kinds.specs.Places.{trigger_of}
use Rattle.iio_kinds.specs.Station.{any_front, any_station, captures_by, room_by, stations_by}
use Rattle.iio_bench.proofs.ListLemmas.{element_at, map_changed}
use Rattle.iio_bench.proofs.FiringLemmas.{ended_here, entry_answer_is, entry_bench, entry_here, entry_triggers}
use Rattle.iio_bench.proofs.OpenLemmas.{as_many}
use Rattle.iio_bench.proofs.ToldLemmas.{fronts_by, kind_is, machine_by, station_is}
use Rattle.iio_bench.proofs.WholeLemmas.{can_gather, captures_after, fronts_after, made_by, numbered_after_entry, room_after, told_after, whole_handled}
use Rattle.iio_bench.proofs.bench.Bench.handle.Goals as goal

pub handle-became-requires-clause-number : goal.handle-became-requires-clause-number
handle-became-requires-clause-number g c =
    sym (c.args.self.now.numbered c.args.dev c.index_mut.result.now (element_at any_front _ _ _ c.requires.dev c.index_mut.ensures.value))

pub handle-became-requires-clause-idle : goal.handle-became-requires-clause-idle
handle-became-requires-clause-idle g c =
    (c.args.self.now.sound.each c.args.trigger c.index_mut-2.result.now
    (slice_get_read _ (length c.args.self.now.described.items) _ _ (sym (as_many _ _ c.args.self.now.sound.places)) c.requires.trigger
    c.index_mut-2.ensures.value)).idle

pub gather-requires : goal.gather-requires
gather-requires g c =
    let at = element_at any_front _ _ _ c.requires.dev c.index_mut.ensures.value in
    can_gather (driver_of (λ b. (g.dyn-1.0.entry b.vtable).1.driver b.value)) c.args.self.now.context.items c.args.self.now.described.items
    c.args.self.now.devices.items c.args.self.now.devices.items c.args.self.now.clock c.args.self.now.first_average c.args.dev c.index_mut.result.now
    c.handle-became.new.self at
    c.args.self.now.averaged (entry_of c.args.dev (trigger_of c.index_mut-2.result.now).entries) c.handle-became.ensures.station c.handle-became.ensures.keeps
    c.handle-became.ensures.scan c.handle-became.result c.handle-became.ensures.answer

pub invariant_of-self : goal.invariant_of-self
invariant_of-self g c =
    let d = c.index_mut.result.now in
    let at = element_at any_front _ _ _ c.requires.dev c.index_mut.ensures.value in
    let there =
    slice_get_read _ (length c.args.self.now.described.items) _ _ (sym (as_many _ _ c.args.self.now.sound.places)) c.requires.trigger
    c.index_mut-2.ensures.value in
    let o = entry_of c.args.dev (trigger_of c.index_mut-2.result.now).entries in
    let told =
    told_after (driver_of (λ b. (g.dyn-1.0.entry b.vtable).1.driver b.value)) c.args.self.now.context.items c.args.self.now.described.items
    c.args.self.now.devices.items c.gather.new.devices.items c.args.self.now.clock c.args.self.now.first_average c.args.dev d c.handle-became.new.self at
    c.args.self.now.averaged o c.handle-became.ensures.station c.handle-became.ensures.keeps c.handle-became.ensures.scan [] c.handle-became.result
    c.handle-became.ensures.answer c.gather.ensures in
    let fronts =
    fronts_after (driver_of (λ b. (g.dyn-1.0.entry b.vtable).1.driver b.value)) c.args.self.now.context.items c.args.self.now.described.items
    c.args.self.now.devices.items c.gather.new.devices.items c.args.self.now.clock c.args.self.now.first_average c.args.dev d c.handle-became.new.self at
    c.args.self.now.averaged o c.handle-became.ensures.station c.handle-became.ensures.keeps c.handle-became.ensures.scan c.handle-became.result
    c.gather.ensures in
    let whole =
    whole_handled (driver_of (λ b. (g.dyn-1.0.entry b.vtable).1.driver b.value)) c.args.self.now.context.items c.args.self.now.described.items
    c.args.self.now.devices.items c.gather.new.devices.items c.args.self.now.clock [] fronts c.args.self.now.triggers.items c.args.self.now.first_average o
    (is_last (captures_by d)) c.args.dev d at
    c.args.self.now.sound c.args.self.now.averaged told
    (λ input. ap is_last (sym (made_by (driver_of (λ b. (g.dyn-1.0.entry b.vtable).1.driver b.value)) d input))) in
    record {
      sound =
          entry_bench c.args.self.now.described.items c.args.self.now.triggers.items (stations_by (λ p. no_driver) c.gather.new.devices.items) c.args.trigger
          c.args.dev c.index_mut-2.result.now c.handle-became.new.trigger whole.0
          there c.handle-became.ensures.trigger;
      numbered =
          numbered_after_entry (driver_of (λ b. (g.dyn-1.0.entry b.vtable).1.driver b.value)) c.args.self.now.context.items c.args.self.now.described.items
          c.args.self.now.devices.items c.gather.new.devices.items c.args.self.now.clock c.args.self.now.first_average c.args.dev d c.handle-became.new.self at
          c.args.self.now.averaged o c.handle-became.ensures.station c.handle-became.ensures.keeps c.handle-became.ensures.scan c.handle-became.result
          c.args.self.now.numbered c.gather.ensures;
      averaged = whole.1;
    }

pub returns-clause-front : goal.returns-clause-front
returns-clause-front g c =
    let at = element_at any_front _ _ _ c.requires.dev c.index_mut.ensures.value in
    ap (λ (hs : List DeviceHead).
    (let x : Front = record { context = c.args.self.now.context.items; triggers = c.args.self.now.described.items; devices = hs } in x))
    (fronts_after (driver_of (λ b. (g.dyn-1.0.entry b.vtable).1.driver b.value)) c.args.self.now.context.items c.args.self.now.described.items
    c.args.self.now.devices.items c.gather.new.devices.items c.args.self.now.clock c.args.self.now.first_average c.args.dev c.index_mut.result.now
    c.handle-became.new.self at
    c.args.self.now.averaged (entry_of c.args.dev (trigger_of c.index_mut-2.result.now).entries) c.handle-became.ensures.station c.handle-became.ensures.keeps
    c.handle-became.ensures.scan c.handle-became.result c.gather.ensures)

pub returns-clause-told : goal.returns-clause-told
returns-clause-told g c =
    let drive = driver_of (λ b. (g.dyn-1.0.entry b.vtable).1.driver b.value) in
    let d = c.index_mut.result.now in
    let at = element_at any_front _ _ _ c.requires.dev c.index_mut.ensures.value in
    let there =
    slice_get_read _ (length c.args.self.now.described.items) _ _ (sym (as_many _ _ c.args.self.now.sound.places)) c.requires.trigger
    c.index_mut-2.ensures.value in
    let front = fronts_by any_front c.args.self.now.context.items c.args.self.now.described.items c.args.self.now.devices.items in
    let m = machine_by (any_station drive) c.args.self.now.clock (triggers_of c.args.self.now) c.args.self.now.devices.items in
    ap (λ (ts : List Trigger). machine_by (any_station drive) c.args.self.now.clock ts c.gather.new.devices.items)
    (entry_triggers c.args.self.now.triggers.items c.args.trigger c.args.dev c.index_mut-2.result.now c.handle-became.new.trigger there
    c.handle-became.ensures.trigger)
    ∙ ap (λ (x : Machine). taken_off c.args.trigger c.args.dev x)
    (told_after drive c.args.self.now.context.items c.args.self.now.described.items
    c.args.self.now.devices.items c.gather.new.devices.items c.args.self.now.clock c.args.self.now.first_average c.args.dev d c.handle-became.new.self at
    c.args.self.now.averaged (entry_of c.args.dev (trigger_of c.index_mut-2.result.now).entries) c.handle-became.ensures.station c.handle-became.ensures.keeps
    c.handle-became.ensures.scan _ c.handle-became.result c.handle-became.ensures.answer c.gather.ensures
    ∙ ap (λ (o : Option Handed). unless_ended (is_last (captures_by d)) m (machine_after_entry front o c.args.dev m))
    (sym (entry_here c.args.self.now.triggers.items c.args.trigger c.args.dev c.index_mut-2.result.now there))
    ∙ ap (λ (b : Bool). unless_ended b m (machine_after_entry front (entry_in c.args.trigger c.args.dev m) c.args.dev m))
    (sym (ended_here captures_by c.args.self.now.devices.items c.args.dev d at)))

pub returns-clause-captures : goal.returns-clause-captures
returns-clause-captures g c =
    let at = element_at any_front _ _ _ c.requires.dev c.index_mut.ensures.value in
    captures_after (driver_of (λ b. (g.dyn-1.0.entry b.vtable).1.driver b.value)) c.args.self.now.context.items c.args.self.now.described.items
    c.args.self.now.devices.items c.gather.new.devices.items c.args.self.now.clock c.args.self.now.first_average c.args.dev c.index_mut.result.now
    c.handle-became.new.self at
    c.args.self.now.averaged (entry_of c.args.dev (trigger_of c.index_mut-2.result.now).entries) c.handle-became.ensures.station c.handle-became.ensures.keeps
    c.handle-became.ensures.scan c.handle-became.result c.gather.ensures
    ∙ map_changed captures_by c.args.self.now.devices.items c.args.dev c.index_mut.result.now c.handle-became.new.self (counted c.handle-became.result) at
    c.handle-became.ensures.captures

pub returns-clause-answer : goal.returns-clause-answer
returns-clause-answer g c =
    let d = c.index_mut.result.now in
    let at = element_at any_front _ _ _ c.requires.dev c.index_mut.ensures.value in
    let there =
    slice_get_read _ (length c.args.self.now.described.items) _ _ (sym (as_many _ _ c.args.self.now.sound.places)) c.requires.trigger
    c.index_mut-2.ensures.value in
    entry_answer_is (any_front d).kind
    (kind_at (fronts_by any_front c.args.self.now.context.items c.args.self.now.described.items c.args.self.now.devices.items) c.args.dev)
    (entry_of c.args.dev (trigger_of c.index_mut-2.result.now).entries)
    (entry_of c.args.dev (entries_at (map trigger_of c.args.self.now.triggers.items) c.args.trigger))
    (is_last (captures_by d)) (has_ended c.args.self.now c.args.dev)
    (any_station (driver_of (λ b. (g.dyn-1.0.entry b.vtable).1.driver b.value)) d)
    (station_at (machine_of (driver_of (λ b. (g.dyn-1.0.entry b.vtable).1.driver b.value)) c.args.self.now) c.args.dev) c.handle-became.result
    (kind_is any_front c.args.self.now.context.items c.args.self.now.described.items c.args.self.now.devices.items c.args.dev d at)
    (entry_here c.args.self.now.triggers.items c.args.trigger c.args.dev c.index_mut-2.result.now there)
    (ended_here captures_by c.args.self.now.devices.items c.args.dev d at)
    (station_is (any_station (driver_of (λ b. (g.dyn-1.0.entry b.vtable).1.driver b.value))) c.args.self.now.clock _ c.args.self.now.devices.items c.args.dev d
    at) c.handle-became.ensures.answer

pub returns-clause-room : goal.returns-clause-room
returns-clause-room g c =
    let d = c.index_mut.result.now in
    let at = element_at any_front _ _ _ c.requires.dev c.index_mut.ensures.value in
    let here =
    station_is (any_station (driver_of (λ b. (g.dyn-1.0.entry b.vtable).1.driver b.value))) c.args.self.now.clock (triggers_of c.args.self.now)
    c.args.self.now.devices.items c.args.dev d at in
    room_after (driver_of (λ b. (g.dyn-1.0.entry b.vtable).1.driver b.value)) c.args.self.now.context.items c.args.self.now.described.items
    c.args.self.now.devices.items c.gather.new.devices.items c.args.self.now.clock c.args.self.now.first_average c.args.dev d c.handle-became.new.self at
    c.args.self.now.averaged (entry_of c.args.dev (trigger_of c.index_mut-2.result.now).entries) c.handle-became.ensures.station c.handle-became.ensures.keeps
    c.handle-became.ensures.scan c.handle-became.result
    (station_at (machine_of (driver_of (λ b. (g.dyn-1.0.entry b.vtable).1.driver b.value)) c.args.self.now) c.args.dev).members
    (subst (λ (st : Station). IsRoom c.handle-became.result st.members (room_by c.handle-became.new.self)) (sym here) c.handle-became.ensures.room)
    c.gather.ensures
