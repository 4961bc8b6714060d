use Rattle.std.proofs.Common.{◌∙◌, ◌<◌, ℕ, true, false, ap, refl, subst, sym}
use Rattle.std.proofs.lemmas.Option.{slice_get_read}
use Rattle.iio_desc.specs.Kind.{is_input}
use Rattle.iio_device.specs.Plug.{driver_of}
use Rattle.iio_kinds.specs.Places.{trigger_of}
use Rattle.iio_kinds.specs.Station.{any_front, any_station, number_by}
use Rattle.iio_bench.proofs.ListLemmas.{map_same, within_map}
use Rattle.iio_bench.proofs.IioLemmas.{device_keeps}
use Rattle.iio_bench.proofs.MeanOpenLemmas.{asked_left, base_inside, base_there, base_on, holds_gone, holds_left, holds_off, input_base, mean_read, pair_after, pair_there, told_gone, told_left, told_off}
use Rattle.iio_bench.proofs.OpenLemmas.{average_of, leaves_tell, own_along}
use Rattle.iio_bench.proofs.opening.close_mean.Goals as goal

pub leave_mean-requires : goal.leave_mean-requires
leave_mean-requires g c =
    let m = mean_read c.args.bench.now c.args.dev c.requires.dev c.args.base c.index_mut.result.now c.index_mut.ensures.value c.requires.over in
    average_of _ c.args.base m.over

pub index-requires : goal.index-requires
index-requires g c =
    subst (λ (n : ℕ). c.args.dev < n) (sym c.args.bench.now.devices.ok.0) (within_map any_front c.args.bench.now.devices.items c.args.dev c.requires.dev)

pub index-requires-then-not-has_member : goal.index-requires-then-not-has_member
index-requires-then-not-has_member g c =
    let m = mean_read c.args.bench.now c.args.dev c.requires.dev c.args.base c.index_mut.result.now c.index_mut.ensures.value c.requires.over in
    subst (λ (n : ℕ). c.args.base < n) (sym c.args.bench.now.devices.ok.0) (base_inside m)

pub invariant_of-bench : goal.invariant_of-bench
invariant_of-bench g c =
    let drive = driver_of (λ b. (g.dyn-1.0.entry b.vtable).1.driver b.value) in
    let p =
    pair_after c.args.bench.now c.args.dev c.requires.dev c.args.base c.index_mut.result.now c.leave_mean.new.self c.index-then-not-has_member.result.now
    c.requires.over c.index_mut.ensures.value c.index-then-not-has_member.ensures in
    let h =
    holds_off drive p c.args.number c.leave_mean.new.self c.leave_mean.ensures.station c.leave_mean.ensures.keeps.head (sym c.in-None.ensures) in
    record { sound = h.sound; numbered = h.numbered; averaged = h.averaged }

pub index_mut-requires-in-Some : goal.index_mut-requires-in-Some
index_mut-requires-in-Some g c =
    let m = mean_read c.args.bench.now c.args.dev c.requires.dev c.args.base c.index_mut.result.now c.index_mut.ensures.value c.requires.over in
    subst (λ (n : ℕ). c.args.base < n) (sym c.args.bench.now.devices.ok.0) (base_inside m)

pub index_mut-requires-in-Some-2 : goal.index_mut-requires-in-Some-2
index_mut-requires-in-Some-2 g c =
    let drive = driver_of (λ b. (g.dyn-1.0.entry b.vtable).1.driver b.value) in
    let q =
    pair_after c.args.bench.now c.args.dev c.requires.dev c.args.base c.index_mut.result.now c.leave_mean.new.self c.index-then-not-has_member.result.now
    c.requires.over c.index_mut.ensures.value c.index-then-not-has_member.ensures in
    subst (λ (n : ℕ). c.in-Some.trigger < n) (sym c.args.bench.now.triggers.ok.0) (base_on drive q c.in-Some.trigger c.in-Some.ensures)

pub leave_inner-requires : goal.leave_inner-requires
leave_inner-requires g c =
    let drive = driver_of (λ b. (g.dyn-1.0.entry b.vtable).1.driver b.value) in
    let p =
    pair_after c.args.bench.now c.args.dev c.requires.dev c.args.base c.index_mut.result.now c.leave_mean.new.self c.index_mut-in-Some.result.now
    c.requires.over c.index_mut.ensures.value c.index_mut-in-Some.ensures.value in
    ap is_input (input_base drive p)

pub invariant_of-bench-in-Some : goal.invariant_of-bench-in-Some
invariant_of-bench-in-Some g c =
    let drive = driver_of (λ b. (g.dyn-1.0.entry b.vtable).1.driver b.value) in
    let q =
    pair_after c.args.bench.now c.args.dev c.requires.dev c.args.base c.index_mut.result.now c.leave_mean.new.self c.index-then-not-has_member.result.now
    c.requires.over c.index_mut.ensures.value c.index-then-not-has_member.ensures in
    let p =
    pair_after c.args.bench.now c.args.dev c.requires.dev c.args.base c.index_mut.result.now c.leave_mean.new.self c.index_mut-in-Some.result.now
    c.requires.over c.index_mut.ensures.value c.index_mut-in-Some.ensures.value in
    let there = base_on drive q c.in-Some.trigger c.in-Some.ensures in
    let h =
    holds_gone drive p c.args.number c.leave_mean.new.self c.leave_mean.ensures.station c.leave_inner.new.self (asked_left drive p c.args.number
    c.leave_mean.new.self c.index.result.now c.has_member.result false c.requires.dev c.index.ensures c.has_member.ensures c.leave_mean.ensures.station
    c.if-not-has_member.true) c.leave_inner.ensures.station c.in-Some.trigger c.index_mut-in-Some-2.result.now c.leave_inner.new.trigger
    (slice_get_read _ _ _ _ refl there c.index_mut-in-Some-2.ensures.value)
    (own_along drive c.args.bench.now.devices.items c.args.base c.in-Some.trigger c.index-then-not-has_member.result.now
    c.index_mut-in-Some.result.now q.under p.under c.in-Some.ensures) there c.leave_mean.ensures.keeps.head c.leave_inner.ensures.keeps.head
    c.leave_inner.ensures.trigger in
    record { sound = h.sound; numbered = h.numbered; averaged = h.averaged }

pub invariant_of-bench-else-not-has_member : goal.invariant_of-bench-else-not-has_member
invariant_of-bench-else-not-has_member g c =
    let drive = driver_of (λ b. (g.dyn-1.0.entry b.vtable).1.driver b.value) in
    let m = mean_read c.args.bench.now c.args.dev c.requires.dev c.args.base c.index_mut.result.now c.index_mut.ensures.value c.requires.over in
    let p = pair_there m in
    let h =
    holds_left drive p.1 c.args.number c.leave_mean.new.self c.leave_mean.ensures.station c.leave_mean.ensures.keeps.head (asked_left drive p.1 c.args.number
    c.leave_mean.new.self c.index.result.now c.has_member.result true c.requires.dev c.index.ensures c.has_member.ensures c.leave_mean.ensures.station
    c.if-not-has_member.false) in
    record { sound = h.sound; numbered = h.numbered; averaged = h.averaged }

pub returns-in-None-clause-kept : goal.returns-in-None-clause-kept
returns-in-None-clause-kept g c =
    let m = mean_read c.args.bench.now c.args.dev c.requires.dev c.args.base c.index_mut.result.now c.index_mut.ensures.value c.requires.over in
    device_keeps _ _ _ _ _ _ m.at c.leave_mean.ensures.keeps

pub returns-in-None-clause-told : goal.returns-in-None-clause-told
returns-in-None-clause-told g c =
    let drive = driver_of (λ b. (g.dyn-1.0.entry b.vtable).1.driver b.value) in
    let p =
    pair_after c.args.bench.now c.args.dev c.requires.dev c.args.base c.index_mut.result.now c.leave_mean.new.self c.index-then-not-has_member.result.now
    c.requires.over c.index_mut.ensures.value c.index-then-not-has_member.ensures in
    told_off drive p c.args.number c.leave_mean.new.self c.leave_mean.ensures.station (sym c.in-None.ensures)

pub returns-in-Some-clause-kept : goal.returns-in-Some-clause-kept
returns-in-Some-clause-kept g c =
    let drive = driver_of (λ b. (g.dyn-1.0.entry b.vtable).1.driver b.value) in
    let p =
    pair_after c.args.bench.now c.args.dev c.requires.dev c.args.base c.index_mut.result.now c.leave_mean.new.self c.index_mut-in-Some.result.now
    c.requires.over c.index_mut.ensures.value c.index_mut-in-Some.ensures.value in
    device_keeps _ _ _ _ _ _ (base_there drive p c.leave_mean.new.self) c.leave_inner.ensures.keeps
    ∙ device_keeps _ _ _ _ _ _ p.mean.at c.leave_mean.ensures.keeps

pub returns-in-Some-clause-told : goal.returns-in-Some-clause-told
returns-in-Some-clause-told g c =
    let drive = driver_of (λ b. (g.dyn-1.0.entry b.vtable).1.driver b.value) in
    let p =
    pair_after c.args.bench.now c.args.dev c.requires.dev c.args.base c.index_mut.result.now c.leave_mean.new.self c.index_mut-in-Some.result.now
    c.requires.over c.index_mut.ensures.value c.index_mut-in-Some.ensures.value in
    let q =
    pair_after c.args.bench.now c.args.dev c.requires.dev c.args.base c.index_mut.result.now c.leave_mean.new.self c.index-then-not-has_member.result.now
    c.requires.over c.index_mut.ensures.value c.index-then-not-has_member.ensures in
    let there = base_on drive q c.in-Some.trigger c.in-Some.ensures in
    rw (map_same trigger_of c.args.bench.now.triggers.items c.in-Some.trigger c.index_mut-in-Some-2.result.now c.leave_inner.new.trigger
    (slice_get_read _ _ _ _ refl there c.index_mut-in-Some-2.ensures.value)
    (leaves_tell (number_by c.index_mut-in-Some.result.now) (any_station drive c.index_mut-in-Some.result.now) (any_station drive
    c.leave_inner.new.self) c.index_mut-in-Some-2.result.now c.leave_inner.new.trigger c.leave_inner.ensures.trigger))
    (told_gone drive p c.args.number c.leave_mean.new.self c.leave_mean.ensures.station c.leave_inner.new.self (asked_left drive p c.args.number
    c.leave_mean.new.self c.index.result.now c.has_member.result false c.requires.dev c.index.ensures c.has_member.ensures c.leave_mean.ensures.station
    c.if-not-has_member.true) c.leave_inner.ensures.station)

pub returns-else-not-has_member-clause-kept : goal.returns-else-not-has_member-clause-kept
returns-else-not-has_member-clause-kept g c =
    let m = mean_read c.args.bench.now c.args.dev c.requires.dev c.args.base c.index_mut.result.now c.index_mut.ensures.value c.requires.over in
    device_keeps _ _ _ _ _ _ m.at c.leave_mean.ensures.keeps

pub returns-else-not-has_member-clause-told : goal.returns-else-not-has_member-clause-told
returns-else-not-has_member-clause-told g c =
    let drive = driver_of (λ b. (g.dyn-1.0.entry b.vtable).1.driver b.value) in
    let m = mean_read c.args.bench.now c.args.dev c.requires.dev c.args.base c.index_mut.result.now c.index_mut.ensures.value c.requires.over in
    let p = pair_there m in
    told_left drive p.1 c.args.number c.leave_mean.new.self c.leave_mean.ensures.station (asked_left drive p.1 c.args.number c.leave_mean.new.self
    c.index.result.now c.has_member.result true c.requires.dev c.index.ensures c.has_member.ensures c.leave_mean.ensures.station
    c.if-not-has_member.false)
