use Rattle.std.proofs.Common.{◌≡◌, ◌∙◌, ◌<◌, ◌≤◌, ℕ, true, false, Ok, Some, ap, refl, subst, sym}
use Rattle.std.specs.Prelude.{is_some}
use Rattle.std.proofs.lemmas.Option.{slice_get_read}
use Rattle.iio_desc.specs.Kind.{is_average}
use Rattle.iio_device.specs.Plug.{driver_of}
use Rattle.iio_kfifo.specs.declared.limits.TheConstants.{MAX_BYTES}
use Rattle.iio_layout.specs.Active.{has_data}
use Rattle.iio_layout.specs.Layout.{scan_size}
use Rattle.iio_layout.specs.Shape.{ShapeRecord}
use Rattle.iio_core.specs.Calls.{has_no_number}
use Rattle.iio_kinds.specs.Faults.{HasJoined}
use Rattle.iio_kinds.specs.Places.{trigger_of}
use Rattle.iio_kinds.specs.Station.{any_front, any_station, base_of, number_by}
use Rattle.iio_bench.proofs.ListLemmas.{map_same, within_map}
use Rattle.iio_bench.proofs.IioLemmas.{device_keeps}
use Rattle.iio_bench.proofs.MeanOpenLemmas.{base_inside, base_there, full_fits, has_joined, holds_first, holds_same, holds_undone, hosts_here, input_base, may_have_inner, mean_again, mean_read, mean_seat, none_told, once_bytes, pair_after, pair_there, read_again, same_mean, shape_base, told_first_ends, told_first_goes, told_mem, told_undone}
use Rattle.iio_bench.proofs.OpenLemmas.{average_of, joins_tell, open_bytes, open_fits, open_may}
use Rattle.iio_bench.proofs.ToldLemmas.{told_same}
use Rattle.iio_bench.proofs.opening.join_first.Goals as goal

pub has_no_number-requires : goal.has_no_number-requires
has_no_number-requires g c =
    let m0 = mean_read c.args.bench.now c.args.dev c.requires.may_open.known c.args.base c.index.result.now c.index.ensures c.requires.over in
    average_of _ c.args.base m0.over

pub returns-then-has_no_number-clause-told : goal.returns-then-has_no_number-clause-told
returns-then-has_no_number-clause-told g c =
    let drive = driver_of (λ b. (g.dyn-1.0.entry b.vtable).1.driver b.value) in
    let m0 = mean_read c.args.bench.now c.args.dev c.requires.may_open.known c.args.base c.index.result.now c.index.ensures c.requires.over in
    let p = pair_there m0 in
    told_first_ends drive p.1 c.requires.none c.args.full.bits c.requires.full c.requires.alone c.args.trigger c.requires.hosts c.args.mask.bits
    c.args.capacity (sym c.has_no_number.ensures ∙ c.if-has_no_number.true)

pub join_mean-requires-clause-average : goal.join_mean-requires-clause-average
join_mean-requires-clause-average g c =
    let m =
    mean_read c.args.bench.now c.args.dev c.requires.may_open.known c.args.base c.index_mut.result.now c.index_mut.ensures.value c.requires.over in
    average_of _ c.args.base m.over

pub join_mean-requires-clause-number : goal.join_mean-requires-clause-number
join_mean-requires-clause-number g c =
    let drive = driver_of (λ b. (g.dyn-1.0.entry b.vtable).1.driver b.value) in
    let m0 = mean_read c.args.bench.now c.args.dev c.requires.may_open.known c.args.base c.index.result.now c.index.ensures c.requires.over in
    let m =
    mean_read c.args.bench.now c.args.dev c.requires.may_open.known c.args.base c.index_mut.result.now c.index_mut.ensures.value c.requires.over in
    subst (λ x. has_no_number (any_station drive x) ≡ false) (same_mean m0 m) (sym c.has_no_number.ensures ∙ c.if-has_no_number.false)

pub join_mean-requires-clause-below : goal.join_mean-requires-clause-below
join_mean-requires-clause-below g c =
    let drive = driver_of (λ b. (g.dyn-1.0.entry b.vtable).1.driver b.value) in
    let m =
    mean_read c.args.bench.now c.args.dev c.requires.may_open.known c.args.base c.index_mut.result.now c.index_mut.ensures.value c.requires.over in
    (open_fits drive c.args.bench.now.context.items c.args.bench.now.described.items c.args.bench.now.triggers.items c.args.bench.now.devices.items
    c.args.bench.now.clock c.args.dev c.args.capacity false c.index_mut.result.now c.args.bench.now.sound c.args.bench.now.numbered m.at c.args.mask.bits
    c.requires.may_open).0

pub join_mean-requires-clause-channel : goal.join_mean-requires-clause-channel
join_mean-requires-clause-channel g c =
    let drive = driver_of (λ b. (g.dyn-1.0.entry b.vtable).1.driver b.value) in
    let m =
    mean_read c.args.bench.now c.args.dev c.requires.may_open.known c.args.base c.index_mut.result.now c.index_mut.ensures.value c.requires.over in
    (open_fits drive c.args.bench.now.context.items c.args.bench.now.described.items c.args.bench.now.triggers.items c.args.bench.now.devices.items
    c.args.bench.now.clock c.args.dev c.args.capacity false c.index_mut.result.now c.args.bench.now.sound c.args.bench.now.numbered m.at c.args.mask.bits
    c.requires.may_open).1

pub join_mean-requires-clause-bytes : goal.join_mean-requires-clause-bytes
join_mean-requires-clause-bytes g c =
    let drive = driver_of (λ b. (g.dyn-1.0.entry b.vtable).1.driver b.value) in
    let m =
    mean_read c.args.bench.now c.args.dev c.requires.may_open.known c.args.base c.index_mut.result.now c.index_mut.ensures.value c.requires.over in
    open_bytes drive c.args.bench.now.context.items c.args.bench.now.described.items c.args.bench.now.triggers.items c.args.bench.now.devices.items
    c.args.bench.now.clock c.args.dev c.args.capacity false c.index_mut.result.now c.args.bench.now.sound c.args.bench.now.numbered m.at c.args.mask.bits
    c.requires.may_open

pub index_mut-requires-in-Ok : goal.index_mut-requires-in-Ok
index_mut-requires-in-Ok g c =
    let m =
    mean_read c.args.bench.now c.args.dev c.requires.may_open.known c.args.base c.index_mut.result.now c.index_mut.ensures.value c.requires.over in
    subst (λ (n : ℕ). c.args.base < n) (sym c.args.bench.now.devices.ok.0) (base_inside m)

pub index_mut-requires-in-Ok-2 : goal.index_mut-requires-in-Ok-2
index_mut-requires-in-Ok-2 g c =
    subst (λ (n : ℕ). c.args.trigger < n) (sym c.args.bench.now.triggers.ok.0) c.requires.hosts.1

pub index_mut-requires-in-Err-join : goal.index_mut-requires-in-Err-join
index_mut-requires-in-Err-join g c =
    subst (λ (n : ℕ). c.args.dev < n) (sym c.args.bench.now.devices.ok.0)
    (within_map any_front c.args.bench.now.devices.items c.args.dev c.requires.may_open.known)

pub join-requires-clause-own : goal.join-requires-clause-own
join-requires-clause-own g c =
    let drive = driver_of (λ b. (g.dyn-1.0.entry b.vtable).1.driver b.value) in
    let p =
    pair_after c.args.bench.now c.args.dev c.requires.may_open.known c.args.base c.index_mut.result.now c.join_mean.new.self c.index_mut-in-Ok.result.now
    c.requires.over c.index_mut.ensures.value c.index_mut-in-Ok.ensures.value in
    ap is_average (input_base drive p)

pub join-requires-clause-trigger : goal.join-requires-clause-trigger
join-requires-clause-trigger g c =
    let drive = driver_of (λ b. (g.dyn-1.0.entry b.vtable).1.driver b.value) in
    let p =
    pair_after c.args.bench.now c.args.dev c.requires.may_open.known c.args.base c.index_mut.result.now c.join_mean.new.self c.index_mut-in-Ok.result.now
    c.requires.over c.index_mut.ensures.value c.index_mut-in-Ok.ensures.value in
    ap is_some (hosts_here drive p c.args.full.bits (Ok c.args.trigger) c.requires.hosts).0

pub join-requires-clause-may : goal.join-requires-clause-may
join-requires-clause-may g c =
    let drive = driver_of (λ b. (g.dyn-1.0.entry b.vtable).1.driver b.value) in
    let p =
    pair_after c.args.bench.now c.args.dev c.requires.may_open.known c.args.base c.index_mut.result.now c.join_mean.new.self c.index_mut-in-Ok.result.now
    c.requires.over c.index_mut.ensures.value c.index_mut-in-Ok.ensures.value in
    open_may drive c.args.bench.now.context.items c.args.bench.now.described.items c.args.bench.now.triggers.items c.args.bench.now.devices.items
    c.args.bench.now.clock c.args.base 1 false c.index_mut-in-Ok.result.now c.args.bench.now.sound c.args.bench.now.numbered p.under c.args.full.bits
    c.args.trigger c.index_mut-in-Ok-2.result.now (hosts_here drive p c.args.full.bits (Ok c.args.trigger) c.requires.hosts) (slice_get_read _ _ _ _ refl
    c.requires.hosts.1 c.index_mut-in-Ok-2.ensures.value)

pub join-requires-clause-inner : goal.join-requires-clause-inner
join-requires-clause-inner g c =
    let drive = driver_of (λ b. (g.dyn-1.0.entry b.vtable).1.driver b.value) in
    let p =
    pair_after c.args.bench.now c.args.dev c.requires.may_open.known c.args.base c.index_mut.result.now c.join_mean.new.self c.index_mut-in-Ok.result.now
    c.requires.over c.index_mut.ensures.value c.index_mut-in-Ok.ensures.value in
    may_have_inner drive p c.args.full.bits 1 (none_told drive p true c.requires.none) c.requires.full refl

pub join-requires-clause-below : goal.join-requires-clause-below
join-requires-clause-below g c =
    let drive = driver_of (λ b. (g.dyn-1.0.entry b.vtable).1.driver b.value) in
    let p =
    pair_after c.args.bench.now c.args.dev c.requires.may_open.known c.args.base c.index_mut.result.now c.join_mean.new.self c.index_mut-in-Ok.result.now
    c.requires.over c.index_mut.ensures.value c.index_mut-in-Ok.ensures.value in
    full_fits drive p c.args.full.bits c.requires.full

pub join-requires-clause-channel : goal.join-requires-clause-channel
join-requires-clause-channel g c =
    let drive = driver_of (λ b. (g.dyn-1.0.entry b.vtable).1.driver b.value) in
    let p =
    pair_after c.args.bench.now c.args.dev c.requires.may_open.known c.args.base c.index_mut.result.now c.join_mean.new.self c.index_mut-in-Ok.result.now
    c.requires.over c.index_mut.ensures.value c.index_mut-in-Ok.ensures.value in
    subst (λ (shape : ShapeRecord). has_data shape c.args.full.bits ≡ true) (shape_base drive p) c.requires.channel

pub join-requires-clause-bytes : goal.join-requires-clause-bytes
join-requires-clause-bytes g c =
    let drive = driver_of (λ b. (g.dyn-1.0.entry b.vtable).1.driver b.value) in
    let p =
    pair_after c.args.bench.now c.args.dev c.requires.may_open.known c.args.base c.index_mut.result.now c.join_mean.new.self c.index_mut-in-Ok.result.now
    c.requires.over c.index_mut.ensures.value c.index_mut-in-Ok.ensures.value in
    once_bytes _ _ (subst (λ (shape : ShapeRecord). scan_size shape c.args.full.bits ≤ MAX_BYTES) (shape_base drive p) c.requires.bytes)

pub invariant_of-bench-in-Ok-join : goal.invariant_of-bench-in-Ok-join
invariant_of-bench-in-Ok-join g c =
    let drive = driver_of (λ b. (g.dyn-1.0.entry b.vtable).1.driver b.value) in
    let p =
    pair_after c.args.bench.now c.args.dev c.requires.may_open.known c.args.base c.index_mut.result.now c.join_mean.new.self c.index_mut-in-Ok.result.now
    c.requires.over c.index_mut.ensures.value c.index_mut-in-Ok.ensures.value in
    let h =
    holds_first drive p c.args.full c.args.trigger c.requires.hosts c.index_mut-in-Ok-2.result.now c.index_mut-in-Ok-2.ensures.value c.args.mask
    c.args.capacity c.join_mean.new.self c.join.new.self c.join.new.trigger c.join_mean.ensures.keeps.head c.join.ensures.keeps.head c.requires.full
    c.in-Ok.ensures.joins.1 c.in-Ok-join.ensures.joins.1 c.in-Ok-join.ensures.joins.2 in
    record { sound = h.sound; numbered = h.numbered; averaged = h.averaged }

pub invariant_of-bench-in-Err-1 : goal.invariant_of-bench-in-Err-1
invariant_of-bench-in-Err-1 g c =
    let drive = driver_of (λ b. (g.dyn-1.0.entry b.vtable).1.driver b.value) in
    let m =
    mean_read c.args.bench.now c.args.dev c.requires.may_open.known c.args.base c.index_mut.result.now c.index_mut.ensures.value c.requires.over in
    let p = pair_there m in
    let h = holds_same drive p.1 c.join_mean.new.self c.join_mean.ensures.keeps.head c.in-Err.ensures.joins.1 in
    record { sound = h.sound; numbered = h.numbered; averaged = h.averaged }

pub undo_join-requires-clause-average : goal.undo_join-requires-clause-average
undo_join-requires-clause-average g c =
    let drive = driver_of (λ b. (g.dyn-1.0.entry b.vtable).1.driver b.value) in
    let p =
    pair_after c.args.bench.now c.args.dev c.requires.may_open.known c.args.base c.index_mut.result.now c.join_mean.new.self c.index_mut-in-Ok.result.now
    c.requires.over c.index_mut.ensures.value c.index_mut-in-Ok.ensures.value in
    average_of _ c.args.base
    (ap (λ y. base_of (any_front y).kind)
    (mean_again drive p c.join_mean.new.self c.join.new.self c.index_mut-in-Err-join.result.now c.requires.may_open.known
    c.index_mut-in-Err-join.ensures.value)
    ∙ ap (λ h. base_of h.kind) c.join_mean.ensures.keeps.head.front ∙ p.mean.over)

pub undo_join-requires-clause-joined : goal.undo_join-requires-clause-joined
undo_join-requires-clause-joined g c =
    let drive = driver_of (λ b. (g.dyn-1.0.entry b.vtable).1.driver b.value) in
    let p =
    pair_after c.args.bench.now c.args.dev c.requires.may_open.known c.args.base c.index_mut.result.now c.join_mean.new.self c.index_mut-in-Ok.result.now
    c.requires.over c.index_mut.ensures.value c.index_mut-in-Ok.ensures.value in
    subst (λ y. HasJoined c.in-Ok.seat.mask c.in-Ok.seat.capacity (any_station drive y))
    (sym (mean_again drive p c.join_mean.new.self c.join.new.self c.index_mut-in-Err-join.result.now c.requires.may_open.known
    c.index_mut-in-Err-join.ensures.value))
    (has_joined c.args.mask c.args.capacity (any_front c.index_mut.result.now).shape c.in-Ok.seat (any_station drive c.index_mut.result.now) (any_station
    drive c.join_mean.new.self) c.in-Ok.ensures.joins)

pub invariant_of-bench-in-Err-join : goal.invariant_of-bench-in-Err-join
invariant_of-bench-in-Err-join g c =
    let drive = driver_of (λ b. (g.dyn-1.0.entry b.vtable).1.driver b.value) in
    let p =
    pair_after c.args.bench.now c.args.dev c.requires.may_open.known c.args.base c.index_mut.result.now c.join_mean.new.self c.index_mut-in-Ok.result.now
    c.requires.over c.index_mut.ensures.value c.index_mut-in-Ok.ensures.value in
    let h =
    holds_undone drive p c.args.full c.args.trigger c.requires.hosts c.index_mut-in-Ok-2.result.now c.index_mut-in-Ok-2.ensures.value c.args.mask
    c.args.capacity c.in-Ok.seat c.join_mean.new.self c.join.new.self c.index_mut-in-Err-join.result.now c.undo_join.new.self c.join.new.trigger
    c.requires.may_open.known c.index_mut-in-Err-join.ensures.value c.join_mean.ensures.keeps.head c.join.ensures.keeps.head c.undo_join.ensures.keeps.head
    c.in-Ok.ensures.joins c.in-Err-join.ensures.joins.1 c.undo_join.ensures.station c.in-Err-join.ensures.joins.2 in
    record { sound = h.sound; numbered = h.numbered; averaged = h.averaged }

pub returns-in-Err-clause-kept : goal.returns-in-Err-clause-kept
returns-in-Err-clause-kept g c =
    let m =
    mean_read c.args.bench.now c.args.dev c.requires.may_open.known c.args.base c.index_mut.result.now c.index_mut.ensures.value c.requires.over in
    device_keeps _ _ _ _ _ _ m.at c.join_mean.ensures.keeps

pub returns-in-Err-clause-told : goal.returns-in-Err-clause-told
returns-in-Err-clause-told g c =
    let drive = driver_of (λ b. (g.dyn-1.0.entry b.vtable).1.driver b.value) in
    let m =
    mean_read c.args.bench.now c.args.dev c.requires.may_open.known c.args.base c.index_mut.result.now c.index_mut.ensures.value c.requires.over in
    told_mem _ _ _ c.in-Err.no c.in-Err.ensures.joins.0
    (told_same (any_station drive) c.args.bench.now.clock _ c.args.bench.now.devices.items c.args.dev c.index_mut.result.now c.join_mean.new.self m.at
    c.in-Err.ensures.joins.1)

pub returns-in-Ok-join-clause-kept : goal.returns-in-Ok-join-clause-kept
returns-in-Ok-join-clause-kept g c =
    let drive = driver_of (λ b. (g.dyn-1.0.entry b.vtable).1.driver b.value) in
    let p =
    pair_after c.args.bench.now c.args.dev c.requires.may_open.known c.args.base c.index_mut.result.now c.join_mean.new.self c.index_mut-in-Ok.result.now
    c.requires.over c.index_mut.ensures.value c.index_mut-in-Ok.ensures.value in
    device_keeps _ _ _ _ _ _ (base_there drive p c.join_mean.new.self) c.join.ensures.keeps
    ∙ device_keeps _ _ _ _ _ _ p.mean.at c.join_mean.ensures.keeps

pub returns-in-Ok-join-clause-seat : goal.returns-in-Ok-join-clause-seat
returns-in-Ok-join-clause-seat g c =
    let drive = driver_of (λ b. (g.dyn-1.0.entry b.vtable).1.driver b.value) in
    let p =
    pair_after c.args.bench.now c.args.dev c.requires.may_open.known c.args.base c.index_mut.result.now c.join_mean.new.self c.index_mut-in-Ok.result.now
    c.requires.over c.index_mut.ensures.value c.index_mut-in-Ok.ensures.value in
    mean_seat drive p c.args.mask c.args.capacity (any_station drive c.join_mean.new.self) (Ok c.in-Ok.seat) c.in-Ok.ensures.joins

pub returns-in-Ok-join-clause-told : goal.returns-in-Ok-join-clause-told
returns-in-Ok-join-clause-told g c =
    let drive = driver_of (λ b. (g.dyn-1.0.entry b.vtable).1.driver b.value) in
    let m0 = mean_read c.args.bench.now c.args.dev c.requires.may_open.known c.args.base c.index.result.now c.index.ensures c.requires.over in
    let p =
    pair_after c.args.bench.now c.args.dev c.requires.may_open.known c.args.base c.index_mut.result.now c.join_mean.new.self c.index_mut-in-Ok.result.now
    c.requires.over c.index_mut.ensures.value c.index_mut-in-Ok.ensures.value in
    rw (map_same trigger_of c.args.bench.now.triggers.items c.args.trigger c.index_mut-in-Ok-2.result.now c.join.new.trigger
    (slice_get_read _ _ _ _ refl c.requires.hosts.1 c.index_mut-in-Ok-2.ensures.value)
    (joins_tell c.args.full 1 false (Some c.args.dev) (number_by c.index_mut-in-Ok.result.now) (any_front c.index_mut-in-Ok.result.now).shape
    c.join.result (any_station drive c.index_mut-in-Ok.result.now) (any_station drive c.join.new.self) c.index_mut-in-Ok-2.result.now c.join.new.trigger
    c.join.ensures.joins))
    (told_first_goes drive p c.requires.none c.args.full.bits c.requires.full c.requires.alone c.args.trigger c.requires.hosts c.args.mask c.args.capacity
    c.join_mean.new.self c.join.new.self c.in-Ok.seat (any_front c.index_mut.result.now).shape
    (subst (λ x. has_no_number (any_station drive x) ≡ false) (same_mean m0 p.mean) (sym c.has_no_number.ensures ∙ c.if-has_no_number.false))
    c.in-Ok.ensures.joins c.in-Ok-join.ensures.joins.1)

pub returns-in-Err-join-clause-kept : goal.returns-in-Err-join-clause-kept
returns-in-Err-join-clause-kept g c =
    let drive = driver_of (λ b. (g.dyn-1.0.entry b.vtable).1.driver b.value) in
    let p =
    pair_after c.args.bench.now c.args.dev c.requires.may_open.known c.args.base c.index_mut.result.now c.join_mean.new.self c.index_mut-in-Ok.result.now
    c.requires.over c.index_mut.ensures.value c.index_mut-in-Ok.ensures.value in
    device_keeps _ _ _ _ _ _
    (read_again drive p c.join_mean.new.self c.join.new.self c.index_mut-in-Err-join.result.now c.requires.may_open.known
    c.index_mut-in-Err-join.ensures.value)
    c.undo_join.ensures.keeps
    ∙ device_keeps _ _ _ _ _ _ (base_there drive p c.join_mean.new.self) c.join.ensures.keeps
    ∙ device_keeps _ _ _ _ _ _ p.mean.at c.join_mean.ensures.keeps

pub returns-in-Err-join-clause-told : goal.returns-in-Err-join-clause-told
returns-in-Err-join-clause-told g c =
    let drive = driver_of (λ b. (g.dyn-1.0.entry b.vtable).1.driver b.value) in
    let p =
    pair_after c.args.bench.now c.args.dev c.requires.may_open.known c.args.base c.index_mut.result.now c.join_mean.new.self c.index_mut-in-Ok.result.now
    c.requires.over c.index_mut.ensures.value c.index_mut-in-Ok.ensures.value in
    rw (map_same trigger_of c.args.bench.now.triggers.items c.args.trigger c.index_mut-in-Ok-2.result.now c.join.new.trigger
    (slice_get_read _ _ _ _ refl c.requires.hosts.1 c.index_mut-in-Ok-2.ensures.value)
    (joins_tell c.args.full 1 false (Some c.args.dev) (number_by c.index_mut-in-Ok.result.now) (any_front c.index_mut-in-Ok.result.now).shape
    c.join.result (any_station drive c.index_mut-in-Ok.result.now) (any_station drive c.join.new.self) c.index_mut-in-Ok-2.result.now c.join.new.trigger
    c.join.ensures.joins))
    (told_mem _ _ _ c.in-Err-join.no c.in-Err-join.ensures.joins.0
    (told_undone drive p c.args.full c.args.trigger c.requires.hosts c.index_mut-in-Ok-2.result.now c.index_mut-in-Ok-2.ensures.value c.args.mask
    c.args.capacity c.in-Ok.seat c.join_mean.new.self c.join.new.self c.index_mut-in-Err-join.result.now c.undo_join.new.self c.join.new.trigger
    c.requires.may_open.known c.index_mut-in-Err-join.ensures.value c.join_mean.ensures.keeps.head c.join.ensures.keeps.head
    c.undo_join.ensures.keeps.head c.in-Ok.ensures.joins c.in-Err-join.ensures.joins.1 c.undo_join.ensures.station c.in-Err-join.ensures.joins.2))
