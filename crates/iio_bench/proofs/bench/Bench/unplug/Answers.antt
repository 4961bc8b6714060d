use Rattle.std.proofs.Common.{◌≡◌, ◌∙◌, ap, sym, List, []}
use Rattle.std.specs.Prelude.{◌&&◌}
use Rattle.iio_desc.specs.Description.{DeviceHead}
use Rattle.iio_desc.specs.Kind.{is_average}
use Rattle.iio_device.specs.Plug.{driver_of}
use Rattle.iio_device.specs.Site.{no_driver}
use Rattle.iio_core.specs.Front.{Front}
use Rattle.iio_core.specs.Machine.{is_plugged}
use Rattle.iio_bench.specs.Bench.{machine_of}
use Rattle.iio_kinds.specs.Station.{any_front, any_station, captures_by, number_by}
use Rattle.iio_bench.proofs.ListLemmas.{element_at, length_map_is}
use Rattle.iio_bench.proofs.TogetherLemmas.{map_unmoved, numbered_together}
use Rattle.iio_bench.proofs.ToldLemmas.{fronts_by, kind_is, plugged_is}
use Rattle.iio_bench.proofs.WholeLemmas.{and_false, none_unplugged, plain_and, told_unplugged, whole_unplugged}
use Rattle.iio_bench.proofs.bench.Bench.unplug.Goals as goal

-- ---- an averaging device

pub returns-then-is_average-clause-told : goal.returns-then-is_average-clause-told
returns-then-is_average-clause-told g c =
    let at = element_at any_front _ _ _ c.requires c.index.ensures in
    let average =
    ap is_average (kind_is any_front c.args.self.now.context.items c.args.self.now.described.items c.args.self.now.devices.items c.args.dev c.index.result.now
    at) ∙ sym c.is_average.ensures ∙ c.if-is_average.true in
    sym (none_unplugged (fronts_by any_front c.args.self.now.context.items c.args.self.now.described.items c.args.self.now.devices.items) c.args.dev
    (machine_of (driver_of (λ b. (g.dyn-1.0.entry b.vtable).1.driver b.value)) c.args.self.now)
    c.args.self.now.first_average c.args.self.now.averaged.bases average)

pub returns-then-is_average-clause-answer : goal.returns-then-is_average-clause-answer
returns-then-is_average-clause-answer g c =
    let at = element_at any_front _ _ _ c.requires c.index.ensures in
    let average =
    ap is_average (kind_is any_front c.args.self.now.context.items c.args.self.now.described.items c.args.self.now.devices.items c.args.dev c.index.result.now
    at) ∙ sym c.is_average.ensures ∙ c.if-is_average.true in
    sym (and_false (is_plugged
    (machine_of (driver_of (λ b. (g.dyn-1.0.entry b.vtable).1.driver b.value)) c.args.self.now) c.args.dev) _
    average)

-- ---- another device

pub unplug_all-requires : goal.unplug_all-requires
unplug_all-requires g c = rw (length_map_is (any_station (λ p. no_driver)) c.args.self.now.devices.items) at c.args.self.now.sound.devices

pub invariant_of-self : goal.invariant_of-self
invariant_of-self g c =
    let told =
    told_unplugged (driver_of (λ b. (g.dyn-1.0.entry b.vtable).1.driver b.value)) c.args.self.now.context.items c.args.self.now.described.items
    c.args.self.now.devices.items c.unplug_all.new.devices.items c.args.self.now.clock [] c.args.dev c.unplug_all.ensures in
    let fronts =
    map_unmoved any_front c.args.self.now.devices.items c.unplug_all.new.devices.items c.unplug_all.ensures.same
    (λ i d d' at at'. (c.unplug_all.ensures.each i d d' at at').keeps.head.front) in
    let whole =
    whole_unplugged (driver_of (λ b. (g.dyn-1.0.entry b.vtable).1.driver b.value)) c.args.self.now.context.items c.args.self.now.described.items
    c.args.self.now.devices.items c.unplug_all.new.devices.items c.args.self.now.clock [] fronts c.args.self.now.triggers.items c.args.self.now.first_average
    c.args.dev c.args.self.now.sound c.args.self.now.averaged told in
    record {
      sound = whole.0;
      numbered =
          numbered_together number_by c.args.self.now.devices.items c.unplug_all.new.devices.items c.unplug_all.ensures.same c.args.self.now.numbered
          (λ i d d' at at'. (c.unplug_all.ensures.each i d d' at at').keeps.head.number);
      averaged = whole.1;
    }

pub returns-clause-front : goal.returns-clause-front
returns-clause-front g c =
    ap (λ (hs : List DeviceHead).
    (let x : Front = record { context = c.args.self.now.context.items; triggers = c.args.self.now.described.items; devices = hs } in x))
    (map_unmoved any_front c.args.self.now.devices.items c.unplug_all.new.devices.items c.unplug_all.ensures.same
    (λ i d d' at at'. (c.unplug_all.ensures.each i d d' at at').keeps.head.front))

pub returns-clause-told : goal.returns-clause-told
returns-clause-told g c =
    told_unplugged (driver_of (λ b. (g.dyn-1.0.entry b.vtable).1.driver b.value)) c.args.self.now.context.items c.args.self.now.described.items
    c.args.self.now.devices.items c.unplug_all.new.devices.items c.args.self.now.clock _ c.args.dev c.unplug_all.ensures

pub returns-clause-captures : goal.returns-clause-captures
returns-clause-captures g c =
    map_unmoved captures_by c.args.self.now.devices.items c.unplug_all.new.devices.items c.unplug_all.ensures.same
    (λ i d d' at at'. (c.unplug_all.ensures.each i d d' at at').keeps.captures)

pub returns-clause-answer : goal.returns-clause-answer
returns-clause-answer g c =
    let at = element_at any_front _ _ _ c.requires c.index.ensures in
    let plain =
    ap is_average (kind_is any_front c.args.self.now.context.items c.args.self.now.described.items c.args.self.now.devices.items c.args.dev c.index.result.now
    at) ∙ sym c.is_average.ensures ∙ c.if-is_average.false in
    c.plugged-was_plugged.ensures
    ∙ sym (plugged_is (any_station (driver_of (λ b. (g.dyn-1.0.entry b.vtable).1.driver b.value))) c.args.self.now.clock _ c.args.self.now.devices.items
    c.args.dev c.index-2.result.now (element_at any_front _ _ _ c.requires c.index-2.ensures))
    ∙ sym (plain_and (is_plugged
    (machine_of (driver_of (λ b. (g.dyn-1.0.entry b.vtable).1.driver b.value)) c.args.self.now) c.args.dev) _
    plain)
