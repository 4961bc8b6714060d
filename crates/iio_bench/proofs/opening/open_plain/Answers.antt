use Rattle.std.proofs.Common.{ℕ, ◌<◌, Ok, Err, None, length, refl, ap, sym, subst, ◌∙◌}
use Rattle.std.specs.Prelude.{◌&&◌, not}
use Rattle.std.proofs.lemmas.Option.{slice_get_read}
use Rattle.iio_desc.specs.Kind.{Kind, is_output}
use Rattle.iio_device.specs.Plug.{driver_of}
use Rattle.iio_kinds.specs.Places.{is_hosted, trigger_of}
use Rattle.iio_kinds.specs.Station.{any_front, any_station, number_by}
use Rattle.iio_bench.proofs.ListLemmas.{element_at, map_same, numbered_after}
use Rattle.iio_bench.proofs.IioLemmas.{device_keeps}
use Rattle.iio_bench.proofs.OpenLemmas.{as_many, averaged_joins, hosted_by_states, hosts_along, joins_tell, open_bytes, open_fits, open_joins, open_may, open_refused, open_seat, plain_at, sized_along, sound_joins}
use Rattle.iio_bench.proofs.ToldLemmas.{kind_is}
use Rattle.iio_bench.proofs.opening.open_plain.Goals as goal

pub host-requires-clause-hosted : goal.host-requires-clause-hosted
host-requires-clause-hosted g c =
    let drive = (driver_of (λ b. (g.dyn-1.0.entry b.vtable).1.driver b.value)) in
    sized_along c.deref.result.now c.args.bench.now.triggers.items (λ n. is_hosted n (any_station drive c.index.result.now)) c.deref.ensures.value
    (hosted_by_states drive _ _ _ _ c.args.bench.now.sound c.args.bench.now.averaged _ _ (element_at any_front _ _ _ c.requires.may_open.known c.index.ensures)
    (plain_at c.args.bench.now.context.items c.args.bench.now.described.items c.args.bench.now.devices.items c.args.dev c.index.result.now
    (element_at any_front _ _ _ c.requires.may_open.known c.index.ensures) c.requires.own))

pub host-requires-clause-own : goal.host-requires-clause-own
host-requires-clause-own g c =
    plain_at c.args.bench.now.context.items c.args.bench.now.described.items c.args.bench.now.devices.items c.args.dev c.index.result.now
    (element_at any_front _ _ _ c.requires.may_open.known c.index.ensures) c.requires.own

pub join-requires-clause-own : goal.join-requires-clause-own
join-requires-clause-own g c =
    plain_at c.args.bench.now.context.items c.args.bench.now.described.items c.args.bench.now.devices.items c.args.dev c.index_mut.result.now
    (element_at any_front _ _ _ c.requires.may_open.known c.index_mut.ensures.value) c.requires.own

pub host-requires-clause-below : goal.host-requires-clause-below
host-requires-clause-below g c =
    (open_fits (driver_of (λ b. (g.dyn-1.0.entry b.vtable).1.driver b.value)) c.args.bench.now.context.items c.args.bench.now.described.items
    c.args.bench.now.triggers.items c.args.bench.now.devices.items c.args.bench.now.clock c.args.dev c.args.capacity c.args.cyclic c.index.result.now
    c.args.bench.now.sound c.args.bench.now.numbered (element_at any_front _ _ _ c.requires.may_open.known c.index.ensures) c.args.mask.bits
    c.requires.may_open).0

pub host-requires-clause-channel : goal.host-requires-clause-channel
host-requires-clause-channel g c =
    (open_fits (driver_of (λ b. (g.dyn-1.0.entry b.vtable).1.driver b.value)) c.args.bench.now.context.items c.args.bench.now.described.items
    c.args.bench.now.triggers.items c.args.bench.now.devices.items c.args.bench.now.clock c.args.dev c.args.capacity c.args.cyclic c.index.result.now
    c.args.bench.now.sound c.args.bench.now.numbered (element_at any_front _ _ _ c.requires.may_open.known c.index.ensures) c.args.mask.bits
    c.requires.may_open).1

pub join-requires-clause-may : goal.join-requires-clause-may
join-requires-clause-may g c =
    let at = element_at any_front _ _ _ c.requires.may_open.known c.index_mut.ensures.value in
    let hosts =
    hosts_along (driver_of (λ b. (g.dyn-1.0.entry b.vtable).1.driver b.value)) c.deref.result.now c.args.bench.now.triggers.items c.args.bench.now.devices.items
    c.args.dev c.index.result.now c.index_mut.result.now c.args.mask.bits (Ok c.in-Ok.trigger) c.deref.ensures.value
    (element_at any_front _ _ _ c.requires.may_open.known c.index.ensures) at c.in-Ok.ensures.hosts in
    open_may (driver_of (λ b. (g.dyn-1.0.entry b.vtable).1.driver b.value)) c.args.bench.now.context.items c.args.bench.now.described.items
    c.args.bench.now.triggers.items c.args.bench.now.devices.items c.args.bench.now.clock c.args.dev c.args.capacity c.args.cyclic c.index_mut.result.now
    c.args.bench.now.sound c.args.bench.now.numbered at c.args.mask.bits c.in-Ok.trigger c.index_mut-in-Ok.result.now hosts
    (slice_get_read _ _ _ _ refl hosts.1 c.index_mut-in-Ok.ensures.value)

pub join-requires-clause-cycles : goal.join-requires-clause-cycles
join-requires-clause-cycles g c =
    ap (λ (kind : Kind). c.args.cyclic && not (is_output kind))
    (sym (kind_is any_front c.args.bench.now.context.items c.args.bench.now.described.items c.args.bench.now.devices.items c.args.dev c.index_mut.result.now
    (element_at any_front _ _ _ c.requires.may_open.known c.index_mut.ensures.value)))
    ∙ c.requires.cycles

pub join-requires-clause-below : goal.join-requires-clause-below
join-requires-clause-below g c =
    (open_fits (driver_of (λ b. (g.dyn-1.0.entry b.vtable).1.driver b.value)) c.args.bench.now.context.items c.args.bench.now.described.items
    c.args.bench.now.triggers.items c.args.bench.now.devices.items c.args.bench.now.clock c.args.dev c.args.capacity c.args.cyclic c.index_mut.result.now
    c.args.bench.now.sound c.args.bench.now.numbered (element_at any_front _ _ _ c.requires.may_open.known c.index_mut.ensures.value) c.args.mask.bits
    c.requires.may_open).0

pub join-requires-clause-channel : goal.join-requires-clause-channel
join-requires-clause-channel g c =
    (open_fits (driver_of (λ b. (g.dyn-1.0.entry b.vtable).1.driver b.value)) c.args.bench.now.context.items c.args.bench.now.described.items
    c.args.bench.now.triggers.items c.args.bench.now.devices.items c.args.bench.now.clock c.args.dev c.args.capacity c.args.cyclic c.index_mut.result.now
    c.args.bench.now.sound c.args.bench.now.numbered (element_at any_front _ _ _ c.requires.may_open.known c.index_mut.ensures.value) c.args.mask.bits
    c.requires.may_open).1

pub join-requires-clause-bytes : goal.join-requires-clause-bytes
join-requires-clause-bytes g c =
    open_bytes (driver_of (λ b. (g.dyn-1.0.entry b.vtable).1.driver b.value)) c.args.bench.now.context.items c.args.bench.now.described.items
    c.args.bench.now.triggers.items c.args.bench.now.devices.items c.args.bench.now.clock c.args.dev c.args.capacity c.args.cyclic c.index_mut.result.now
    c.args.bench.now.sound c.args.bench.now.numbered (element_at any_front _ _ _ c.requires.may_open.known c.index_mut.ensures.value) c.args.mask.bits
    c.requires.may_open

pub invariant_of-bench-in-Ok : goal.invariant_of-bench-in-Ok
invariant_of-bench-in-Ok g c =
    let at = element_at any_front _ _ _ c.requires.may_open.known c.index_mut.ensures.value in
    let hosts =
    hosts_along (driver_of (λ b. (g.dyn-1.0.entry b.vtable).1.driver b.value)) c.deref.result.now c.args.bench.now.triggers.items c.args.bench.now.devices.items
    c.args.dev c.index.result.now c.index_mut.result.now c.args.mask.bits (Ok c.in-Ok.trigger) c.deref.ensures.value
    (element_at any_front _ _ _ c.requires.may_open.known c.index.ensures) at c.in-Ok.ensures.hosts in
    record {
      sound =
          sound_joins (driver_of (λ b. (g.dyn-1.0.entry b.vtable).1.driver b.value)) _ _ _ _ _ _ c.join.new.self c.index_mut-in-Ok.result.now c.join.new.trigger
          c.args.bench.now.sound c.args.bench.now.numbered at
          (slice_get_read _ _ _ _ refl hosts.1 c.index_mut-in-Ok.ensures.value) hosts.0 hosts.1 c.args.mask c.args.capacity c.args.cyclic None c.join.result
          c.join.ensures.joins;
      numbered = numbered_after _ _ _ _ _ c.args.bench.now.numbered at c.join.ensures.keeps.head.number;
      averaged =
          averaged_joins (driver_of (λ b. (g.dyn-1.0.entry b.vtable).1.driver b.value)) (length c.args.bench.now.described.items) c.args.bench.now.first_average
          c.args.bench.now.devices.items c.args.dev c.in-Ok.trigger c.index_mut.result.now c.join.new.self
          c.args.bench.now.averaged at
          (plain_at c.args.bench.now.context.items c.args.bench.now.described.items c.args.bench.now.devices.items c.args.dev c.index_mut.result.now at
          c.requires.own) c.join.ensures.keeps.head hosts.0
          (subst (λ (n : ℕ). c.in-Ok.trigger < n) (as_many _ _ c.args.bench.now.sound.places) hosts.1) c.args.mask c.args.capacity c.args.cyclic c.join.result
          c.index_mut-in-Ok.result.now c.join.new.trigger c.join.ensures.joins;
    }

pub returns-in-Err-clause-told : goal.returns-in-Err-clause-told
returns-in-Err-clause-told g c =
    let at = element_at any_front _ _ _ c.requires.may_open.known c.index.ensures in
    let hosts =
    hosts_along (driver_of (λ b. (g.dyn-1.0.entry b.vtable).1.driver b.value)) c.deref.result.now c.args.bench.now.triggers.items c.args.bench.now.devices.items
    c.args.dev c.index.result.now c.index.result.now c.args.mask.bits (Err c.in-Err.no) c.deref.ensures.value at at c.in-Err.ensures.hosts in
    open_refused (driver_of (λ b. (g.dyn-1.0.entry b.vtable).1.driver b.value)) c.args.bench.now.context.items c.args.bench.now.described.items
    c.args.bench.now.triggers.items c.args.bench.now.devices.items c.args.bench.now.clock c.args.dev c.args.capacity c.args.cyclic c.index.result.now
    c.args.bench.now.sound c.args.bench.now.numbered at _ c.args.mask.bits c.in-Err.no
    (plain_at c.args.bench.now.context.items c.args.bench.now.described.items c.args.bench.now.devices.items c.args.dev c.index.result.now at c.requires.own)
    hosts

pub returns-in-Ok-clause-kept : goal.returns-in-Ok-clause-kept
returns-in-Ok-clause-kept g c =
    device_keeps _ _ _ _ _ _ (element_at any_front _ _ _ c.requires.may_open.known c.index_mut.ensures.value) c.join.ensures.keeps

pub returns-in-Ok-clause-seat : goal.returns-in-Ok-clause-seat
returns-in-Ok-clause-seat g c =
    open_seat (driver_of (λ b. (g.dyn-1.0.entry b.vtable).1.driver b.value)) c.args.bench.now.context.items c.args.bench.now.described.items
    c.args.bench.now.triggers.items c.args.bench.now.devices.items c.args.bench.now.clock c.args.dev c.args.capacity c.args.cyclic c.index_mut.result.now
    c.args.bench.now.sound c.args.bench.now.numbered
    (element_at any_front _ _ _ c.requires.may_open.known c.index_mut.ensures.value) c.args.mask _ _ c.index_mut-in-Ok.result.now c.join.new.trigger
    c.join.result c.join.ensures.joins

pub returns-in-Ok-clause-told : goal.returns-in-Ok-clause-told
returns-in-Ok-clause-told g c =
    let drive = driver_of (λ b. (g.dyn-1.0.entry b.vtable).1.driver b.value) in
    let at = element_at any_front _ _ _ c.requires.may_open.known c.index_mut.ensures.value in
    let hosts =
    hosts_along (driver_of (λ b. (g.dyn-1.0.entry b.vtable).1.driver b.value)) c.deref.result.now c.args.bench.now.triggers.items c.args.bench.now.devices.items
    c.args.dev c.index.result.now c.index_mut.result.now c.args.mask.bits (Ok c.in-Ok.trigger) c.deref.ensures.value
    (element_at any_front _ _ _ c.requires.may_open.known c.index.ensures) at c.in-Ok.ensures.hosts in
    rw (map_same trigger_of c.args.bench.now.triggers.items c.in-Ok.trigger c.index_mut-in-Ok.result.now c.join.new.trigger
    (slice_get_read _ _ _ _ refl hosts.1 c.index_mut-in-Ok.ensures.value)
    (joins_tell c.args.mask c.args.capacity c.args.cyclic None (number_by c.index_mut.result.now) (any_front c.index_mut.result.now).shape c.join.result
    (any_station drive c.index_mut.result.now) (any_station drive c.join.new.self)
    c.index_mut-in-Ok.result.now c.join.new.trigger c.join.ensures.joins))
    (open_joins drive c.args.bench.now.context.items c.args.bench.now.described.items
    c.args.bench.now.triggers.items c.args.bench.now.devices.items c.args.bench.now.clock c.args.dev c.args.capacity c.args.cyclic c.index_mut.result.now
    c.args.bench.now.sound c.args.bench.now.numbered at _ c.args.mask c.in-Ok.trigger c.join.new.self
    c.index_mut-in-Ok.result.now c.join.new.trigger c.join.result
    (plain_at c.args.bench.now.context.items c.args.bench.now.described.items c.args.bench.now.devices.items c.args.dev c.index_mut.result.now at
    c.requires.own) hosts c.join.ensures.joins)
