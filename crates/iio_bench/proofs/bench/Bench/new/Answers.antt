use Rattle.std.proofs.Common.{◌≡◌, ◌+◌, ◌<◌, ◌≤◌, ℕ, IfSome, List, [], ◌++◌, All, ap, arith, length, map, pos, subst, sym, ◌∙◌}
use Rattle.std.proofs.lemmas.List.{length-append}
use Rattle.iio_desc.specs.Description.{Description, DeviceHead, DeviceRecord, OutputRecord, input_head, output_head}
use Rattle.iio_desc.specs.WellFormed.{IsWellFormedAverage}
use Rattle.iio_desc.specs.declared.description.TriggerDesc.{TriggerDesc}
use Rattle.iio_trigger.specs.Trigger.{State}
use Rattle.iio_device.specs.declared.plug.Plug.TheVariants.{Given}
use Rattle.iio_device.specs.Plug.{driver_of}
use Rattle.iio_device.specs.Site.{no_driver}
use Rattle.iio_core.specs.Front.{Front, first_front}
use Rattle.iio_core.specs.Machine.{Machine, Station}
use Rattle.iio_bench.specs.Averages.{HasBases}
use Rattle.iio_bench.specs.First.{first_machine, first_state, first_station}
use Rattle.iio_kinds.specs.OutStation.{first_out_station}
use Rattle.iio_kinds.specs.Places.{trigger_of}
use Rattle.iio_core.specs.Trigger.{first_trigger, Trigger}
use Rattle.iio_kinds.specs.Station.{any_front, any_station, stations_by}
use Rattle.iio_bench.proofs.AnyLemmas.{members_as}
use Rattle.iio_bench.proofs.FirstLemmas.{AreBare, AreFresh, added_heads, added_stations, first_averaged, first_seat_state, first_bases, first_bench, first_fresh, first_told, firsts_few, formed_more}
use Rattle.iio_bench.proofs.ListLemmas.{length_map_is}
use Rattle.iio_bench.proofs.OpenLemmas.{averaged_as}
use Rattle.iio_bench.proofs.ToldLemmas.{machine_by}
use Rattle.iio_bench.proofs.bench.Bench.new.Goals as goal

pub add_outputs-requires-clause-few : goal.add_outputs-requires-clause-few
add_outputs-requires-clause-few g c =
    let seen = ap (λ (sts : List Station). length sts) c.in_ok-devices.ensures.stations in
    let many = length_map_is (any_station (driver_of (λ b. (g.dyn-1.0.entry b.vtable).1.driver b.value))) c.in_ok-devices.devices.items in
    let described =
    length_map_is (first_station (map (λ d. driver_of (λ b. (g.dyn-1.0.entry b.vtable).1.driver b.value) (Given d)) c.args.drivers.items))
    c.desc.inside.devices.items in
    omega (arith, seen, many, described, c.desc.invariant.1)

pub add_outputs-requires-clause-unlisted : goal.add_outputs-requires-clause-unlisted
add_outputs-requires-clause-unlisted g c =
    subst (λ (d : Description). All (λ (x : OutputRecord). x.shape.listed ≡ []) d.outputs) (sym c.desc.view_is)
    (λ i x within. (c.requires.outputs i x within).unlisted)

-- the averaging devices of the description
pub add_averages-requires-clause-few : goal.add_averages-requires-clause-few
add_averages-requires-clause-few g c =
    let seen = ap (λ (sts : List Station). length sts) c.in_ok-devices.ensures.stations in
    let many = length_map_is (any_station (driver_of (λ b. (g.dyn-1.0.entry b.vtable).1.driver b.value))) c.in_ok-devices.devices.items in
    let described =
    length_map_is (first_station (map (λ d. driver_of (λ b. (g.dyn-1.0.entry b.vtable).1.driver b.value) (Given d)) c.args.drivers.items))
    c.desc.inside.devices.items in
    let with_outputs = ap (λ (sts : List Station). length sts) c.in_ok-add_outputs.ensures.stations in
    let all = length_map_is (any_station (driver_of (λ b. (g.dyn-1.0.entry b.vtable).1.driver b.value))) c.add_outputs.new.devices.items in
    let both =
    length-append (map (any_station (driver_of (λ b. (g.dyn-1.0.entry b.vtable).1.driver b.value))) c.in_ok-devices.devices.items)
    (map first_out_station c.desc.inside.outputs.items) in
    let given = length_map_is first_out_station c.desc.inside.outputs.items in
    omega (arith, seen, many, described, with_outputs, all, both, given, c.desc.invariant.1)

pub add_averages-requires-clause-over : goal.add_averages-requires-clause-over
add_averages-requires-clause-over g c =
    let seen = ap (λ (sts : List Station). length sts) c.in_ok-devices.ensures.stations in
    let many = length_map_is (any_station (driver_of (λ b. (g.dyn-1.0.entry b.vtable).1.driver b.value))) c.in_ok-devices.devices.items in
    let described =
    length_map_is (first_station (map (λ d. driver_of (λ b. (g.dyn-1.0.entry b.vtable).1.driver b.value) (Given d)) c.args.drivers.items))
    c.desc.inside.devices.items in
    let with_outputs = ap (λ (sts : List Station). length sts) c.in_ok-add_outputs.ensures.stations in
    let all = length_map_is (any_station (driver_of (λ b. (g.dyn-1.0.entry b.vtable).1.driver b.value))) c.add_outputs.new.devices.items in
    let both =
    length-append (map (any_station (driver_of (λ b. (g.dyn-1.0.entry b.vtable).1.driver b.value))) c.in_ok-devices.devices.items)
    (map first_out_station c.desc.inside.outputs.items) in
    formed_more (length c.desc.inside.devices.items) _ c.desc.inside.averages.items (omega (arith, seen, many, described, with_outputs, all, both))
    (subst (λ (d : Description). All (IsWellFormedAverage (length d.devices)) d.averages) (sym c.desc.view_is) c.requires.averages)

pub invariant_of-result : goal.invariant_of-result
invariant_of-result g c =
    let drive = (driver_of (λ b. (g.dyn-1.0.entry b.vtable).1.driver b.value)) in
    let drivers = (map (λ d. driver_of (λ b. (g.dyn-1.0.entry b.vtable).1.driver b.value) (Given d)) c.args.drivers.items) in
    let formed : All (IsWellFormedAverage (length c.desc.inside.devices.items)) c.desc.inside.averages.items =
    subst (λ (d : Description). All (IsWellFormedAverage (length d.devices)) d.averages) (sym c.desc.view_is) c.requires.averages in
    let heads : map any_front c.add_outputs.new.devices.items ≡ map input_head c.desc.inside.devices.items ++ map output_head c.desc.inside.outputs.items =
    c.in_ok-add_outputs.ensures.fronts ∙ ap (λ (hs : List DeviceHead). hs ++ map output_head c.desc.inside.outputs.items) c.in_ok-devices.ensures.fronts in
    let stations = added_stations c.desc.inside.devices.items c.desc.inside.outputs.items drivers c.desc.inside.averages.items _ _ _ _ formed
    c.in_ok-devices.ensures.stations c.in_ok-add_outputs.ensures.stations heads c.in_ok-add_averages.ensures.stations in
    let fronts =
    added_heads c.desc.inside.devices.items c.desc.inside.outputs.items c.desc.inside.averages.items _ _ _ formed c.in_ok-devices.ensures.fronts
    c.in_ok-add_outputs.ensures.fronts
    c.in_ok-add_averages.ensures.fronts in
    let bare = first_seat_state drivers c.desc.inside.devices.items c.desc.inside.outputs.items c.desc.inside.averages.items in
    let many : length c.add_outputs.new.devices.items ≡ length c.desc.inside.devices.items + length c.desc.inside.outputs.items =
    (let a = ap (λ (hs : List DeviceHead). length hs) heads in let b = length_map_is any_front c.add_outputs.new.devices.items in
    let d =
    length-append (map input_head c.desc.inside.devices.items) (map output_head c.desc.inside.outputs.items) in let e =
    length_map_is input_head c.desc.inside.devices.items in
    let f = length_map_is output_head c.desc.inside.outputs.items in omega (arith, a, b, d, e, f)) in
    let count : length (stations_by drive c.add_averages.new.devices.items) ≡ length (map any_front c.add_averages.new.devices.items) =
    length_map_is (any_station drive) c.add_averages.new.devices.items ∙ sym (length_map_is any_front c.add_averages.new.devices.items) in
    record {
      sound =
          first_bench (any_station drive) (any_station (λ p. no_driver)) (members_as (λ p. no_driver) drive)
          c.desc.inside.triggers.items c.in_ok-triggers.triggers.items c.add_averages.new.devices.items _ c.desc.invariant.0
          (firsts_few drivers c.desc.inside.devices.items c.desc.inside.outputs.items c.desc.inside.averages.items _ (omega (arith, c.desc.invariant.1)))
          (c.in_ok-triggers.ensures ∙ ap (λ (ts : List TriggerDesc). map first_state ts) c.deref.ensures.value)
          stations bare;
      numbered = c.in_ok-add_averages.ensures.numbered;
      averaged =
          averaged_as drive (λ p. no_driver) _ _ _ c.add_averages.new.devices.items
          (first_averaged _ _ (map any_front c.add_averages.new.devices.items) (stations_by drive c.add_averages.new.devices.items)
          (subst (λ (hs : List DeviceHead). HasBases c.len-first_average.result hs) (sym fronts)
          (first_bases c.desc.inside.devices.items c.desc.inside.outputs.items c.desc.inside.averages.items _
          (c.len-first_average.ensures ∙ c.add_outputs.new.devices.ok.0 ∙ many) formed))
          count (subst AreBare (sym stations) bare)
          (subst (AreFresh _) (sym stations)
          (first_fresh (length c.desc.inside.triggers.items) drivers c.desc.inside.devices.items c.desc.inside.outputs.items c.desc.inside.averages.items
          (subst (λ (d : Description). All (λ (x : DeviceRecord). IfSome x.trigger (λ t. t < length d.triggers)) d.devices) (sym c.desc.view_is)
          (λ i x within. (c.requires.sound i x within).attached))
          (subst (λ (d : Description). All (λ (x : OutputRecord). IfSome x.trigger (λ t. t < length d.triggers)) d.outputs) (sym c.desc.view_is)
          (λ i x within. (c.requires.outputs i x within).attached)))));
    }

pub returns-clause-front : goal.returns-clause-front
returns-clause-front g c =
    let formed : All (IsWellFormedAverage (length c.desc.inside.devices.items)) c.desc.inside.averages.items =
    subst (λ (d : Description). All (IsWellFormedAverage (length d.devices)) d.averages) (sym c.desc.view_is) c.requires.averages in
    subst (λ (d : Description).
    (let f : Front =
    record { context = c.desc.inside.context.items; triggers = c.desc.inside.triggers.items; devices = map any_front c.add_averages.new.devices.items } in f)
    ≡ first_front d) c.desc.view_is
    (ap (λ (hs : List DeviceHead).
    (let f : Front = record { context = c.desc.inside.context.items; triggers = c.desc.inside.triggers.items; devices = hs } in f))
    (added_heads c.desc.inside.devices.items c.desc.inside.outputs.items c.desc.inside.averages.items _ _ _ formed c.in_ok-devices.ensures.fronts
    c.in_ok-add_outputs.ensures.fronts c.in_ok-add_averages.ensures.fronts))

pub returns-clause-told : goal.returns-clause-told
returns-clause-told g c =
    let formed : All (IsWellFormedAverage (length c.desc.inside.devices.items)) c.desc.inside.averages.items =
    subst (λ (d : Description). All (IsWellFormedAverage (length d.devices)) d.averages) (sym c.desc.view_is) c.requires.averages in
    let heads : map any_front c.add_outputs.new.devices.items ≡ map input_head c.desc.inside.devices.items ++ map output_head c.desc.inside.outputs.items =
    c.in_ok-add_outputs.ensures.fronts ∙ ap (λ (hs : List DeviceHead). hs ++ map output_head c.desc.inside.outputs.items) c.in_ok-devices.ensures.fronts in
    let drive = driver_of (λ b. (g.dyn-1.0.entry b.vtable).1.driver b.value) in
    subst (λ (d : Description). machine_by (any_station drive) (pos 0) (map trigger_of c.in_ok-triggers.triggers.items) c.add_averages.new.devices.items
    ≡ first_machine (map (λ d. drive (Given d)) c.args.drivers.items) d)
    c.desc.view_is
    (ap (λ (ts : List Trigger). machine_by (any_station drive) (pos 0) ts c.add_averages.new.devices.items)
    (ap (λ (states : List State). map trigger_of states) (c.in_ok-triggers.ensures ∙ ap (λ (ts : List TriggerDesc). map first_state ts) c.deref.ensures.value)
    ∙ first_told c.desc.inside.triggers.items)
    ∙ ap (λ (sts : List Station). (let m : Machine =
    record { clock = pos 0; triggers = map (λ (t : TriggerDesc). first_trigger) c.desc.inside.triggers.items; stations = sts } in m))
    (added_stations c.desc.inside.devices.items c.desc.inside.outputs.items (map (λ d. drive (Given d)) c.args.drivers.items) c.desc.inside.averages.items
    _ _ _ _ formed c.in_ok-devices.ensures.stations c.in_ok-add_outputs.ensures.stations heads c.in_ok-add_averages.ensures.stations))
