use Rattle.std.proofs.Common.{◌≡◌, ◌∙◌, true, false, subst, sym}
use Rattle.iio_device.specs.Plug.{driver_of}
use Rattle.iio_core.specs.Calls.{has_no_number}
use Rattle.iio_kinds.specs.Station.{any_front, any_station}
use Rattle.iio_bench.proofs.IioLemmas.{device_keeps}
use Rattle.iio_bench.proofs.MeanOpenLemmas.{holds_further, mean_seat, none_told, over_read, same_read, told_further, told_further_ends, told_further_gone}
use Rattle.iio_bench.proofs.OpenLemmas.{average_of, open_bytes, open_fits}
use Rattle.iio_bench.proofs.opening.open_further.Goals as goal

pub returns-then-not-plugged-clause-told : goal.returns-then-not-plugged-clause-told
returns-then-not-plugged-clause-told g c =
    let drive = driver_of (λ b. (g.dyn-1.0.entry b.vtable).1.driver b.value) in
    let o = over_read c.args.bench.now c.args.dev c.requires.may_open.known c.index-device.result.now c.index-device.ensures c.requires.average in
    told_further_gone drive o.pair (none_told drive o.pair false c.requires.member) c.args.mask.bits c.args.capacity
    (sym c.plugged.ensures ∙ c.if-not-plugged.true)

pub has_no_number-requires : goal.has_no_number-requires
has_no_number-requires g c =
    let o = over_read c.args.bench.now c.args.dev c.requires.may_open.known c.index-device.result.now c.index-device.ensures c.requires.average in
    average_of _ o.base o.pair.mean.over

pub returns-then-has_no_number-clause-told : goal.returns-then-has_no_number-clause-told
returns-then-has_no_number-clause-told g c =
    let drive = driver_of (λ b. (g.dyn-1.0.entry b.vtable).1.driver b.value) in
    let o = over_read c.args.bench.now c.args.dev c.requires.may_open.known c.index-device.result.now c.index-device.ensures c.requires.average in
    told_further_ends drive o.pair (none_told drive o.pair false c.requires.member) c.args.mask.bits c.args.capacity
    (sym c.plugged.ensures ∙ c.if-not-plugged.false) (sym c.has_no_number.ensures ∙ c.if-has_no_number.true)

pub join_mean-requires-clause-average : goal.join_mean-requires-clause-average
join_mean-requires-clause-average g c =
    let o = over_read c.args.bench.now c.args.dev c.requires.may_open.known c.index_mut.result.now c.index_mut.ensures.value c.requires.average in
    average_of _ o.base o.pair.mean.over

pub join_mean-requires-clause-number : goal.join_mean-requires-clause-number
join_mean-requires-clause-number g c =
    let drive = driver_of (λ b. (g.dyn-1.0.entry b.vtable).1.driver b.value) in
    let o = over_read c.args.bench.now c.args.dev c.requires.may_open.known c.index-device.result.now c.index-device.ensures c.requires.average in
    let n = over_read c.args.bench.now c.args.dev c.requires.may_open.known c.index_mut.result.now c.index_mut.ensures.value c.requires.average in
    subst (λ x. has_no_number (any_station drive x) ≡ false) (same_read o n) (sym c.has_no_number.ensures ∙ c.if-has_no_number.false)

pub join_mean-requires-clause-below : goal.join_mean-requires-clause-below
join_mean-requires-clause-below g c =
    let drive = driver_of (λ b. (g.dyn-1.0.entry b.vtable).1.driver b.value) in
    let o = over_read c.args.bench.now c.args.dev c.requires.may_open.known c.index_mut.result.now c.index_mut.ensures.value c.requires.average in
    (open_fits drive c.args.bench.now.context.items c.args.bench.now.described.items c.args.bench.now.triggers.items c.args.bench.now.devices.items
    c.args.bench.now.clock c.args.dev c.args.capacity false c.index_mut.result.now c.args.bench.now.sound c.args.bench.now.numbered o.pair.mean.at
    c.args.mask.bits c.requires.may_open).0

pub join_mean-requires-clause-channel : goal.join_mean-requires-clause-channel
join_mean-requires-clause-channel g c =
    let drive = driver_of (λ b. (g.dyn-1.0.entry b.vtable).1.driver b.value) in
    let o = over_read c.args.bench.now c.args.dev c.requires.may_open.known c.index_mut.result.now c.index_mut.ensures.value c.requires.average in
    (open_fits drive c.args.bench.now.context.items c.args.bench.now.described.items c.args.bench.now.triggers.items c.args.bench.now.devices.items
    c.args.bench.now.clock c.args.dev c.args.capacity false c.index_mut.result.now c.args.bench.now.sound c.args.bench.now.numbered o.pair.mean.at
    c.args.mask.bits c.requires.may_open).1

pub join_mean-requires-clause-bytes : goal.join_mean-requires-clause-bytes
join_mean-requires-clause-bytes g c =
    let drive = driver_of (λ b. (g.dyn-1.0.entry b.vtable).1.driver b.value) in
    let o = over_read c.args.bench.now c.args.dev c.requires.may_open.known c.index_mut.result.now c.index_mut.ensures.value c.requires.average in
    open_bytes drive c.args.bench.now.context.items c.args.bench.now.described.items c.args.bench.now.triggers.items c.args.bench.now.devices.items
    c.args.bench.now.clock c.args.dev c.args.capacity false c.index_mut.result.now c.args.bench.now.sound c.args.bench.now.numbered o.pair.mean.at
    c.args.mask.bits c.requires.may_open

pub invariant_of-bench : goal.invariant_of-bench
invariant_of-bench g c =
    let drive = driver_of (λ b. (g.dyn-1.0.entry b.vtable).1.driver b.value) in
    let o = over_read c.args.bench.now c.args.dev c.requires.may_open.known c.index_mut.result.now c.index_mut.ensures.value c.requires.average in
    let h =
    holds_further drive o.pair c.args.mask c.args.capacity c.join_mean.new.self (any_front c.index_mut.result.now).shape c.join_mean.result
    c.join_mean.ensures.keeps.head (none_told drive o.pair false c.requires.member) c.join_mean.ensures.joins in
    record { sound = h.sound; numbered = h.numbered; averaged = h.averaged }

pub returns-clause-kept : goal.returns-clause-kept
returns-clause-kept g c =
    let o = over_read c.args.bench.now c.args.dev c.requires.may_open.known c.index_mut.result.now c.index_mut.ensures.value c.requires.average in
    device_keeps _ _ _ _ _ _ o.pair.mean.at c.join_mean.ensures.keeps

pub returns-clause-seat : goal.returns-clause-seat
returns-clause-seat g c =
    let drive = driver_of (λ b. (g.dyn-1.0.entry b.vtable).1.driver b.value) in
    let o = over_read c.args.bench.now c.args.dev c.requires.may_open.known c.index_mut.result.now c.index_mut.ensures.value c.requires.average in
    mean_seat drive o.pair c.args.mask c.args.capacity (any_station drive c.join_mean.new.self) c.join_mean.result c.join_mean.ensures.joins

pub returns-clause-told : goal.returns-clause-told
returns-clause-told g c =
    let drive = driver_of (λ b. (g.dyn-1.0.entry b.vtable).1.driver b.value) in
    let o = over_read c.args.bench.now c.args.dev c.requires.may_open.known c.index-device.result.now c.index-device.ensures c.requires.average in
    let n = over_read c.args.bench.now c.args.dev c.requires.may_open.known c.index_mut.result.now c.index_mut.ensures.value c.requires.average in
    told_further drive n.pair (none_told drive n.pair false c.requires.member) c.args.mask c.args.capacity c.join_mean.new.self c.join_mean.result
    (subst (λ x. (any_station drive x).site.plugged ≡ true) (same_read o n) (sym c.plugged.ensures ∙ c.if-not-plugged.false))
    (subst (λ x. has_no_number (any_station drive x) ≡ false) (same_read o n) (sym c.has_no_number.ensures ∙ c.if-has_no_number.false))
    c.join_mean.ensures.joins
