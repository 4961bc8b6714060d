use Rattle.std.proofs.Common.{◌≡◌, ◌∙◌, ◌<◌, ◌≤◌, ◌^◌, ℕ, true, Ok, Err, ap, subst, sym}
use Rattle.iio_desc.specs.Kind.{is_average}
use Rattle.iio_derive.specs.Window.{full_mask}
use Rattle.iio_device.specs.Plug.{driver_of}
use Rattle.iio_kfifo.specs.declared.limits.TheConstants.{MAX_BYTES}
use Rattle.iio_layout.specs.Active.{has_data}
use Rattle.iio_layout.specs.Layout.{scan_size}
use Rattle.iio_layout.specs.Shape.{ShapeRecord, count_of}
use Rattle.iio_kinds.specs.Places.{is_hosted}
use Rattle.iio_kinds.specs.Station.{any_station}
use Rattle.iio_bench.proofs.MeanOpenLemmas.{alone_told, base_first, base_inside, hosts_triggers, input_base, mean_unread, shape_base, told_first_refused}
use Rattle.iio_bench.proofs.OpenLemmas.{hosted_by_states, sized_along}
use Rattle.iio_bench.proofs.opening.open_first.Goals as goal

pub index-device-requires : goal.index-device-requires
index-device-requires g c =
    let m = mean_unread c.args.bench.now c.args.dev c.requires.may_open.known c.args.base c.requires.over in
    subst (λ (n : ℕ). c.args.base < n) (sym c.args.bench.now.devices.ok.0) (base_inside m.1)

pub host-requires-clause-own : goal.host-requires-clause-own
host-requires-clause-own g c =
    let drive = driver_of (λ b. (g.dyn-1.0.entry b.vtable).1.driver b.value) in
    let q =
    base_first c.args.bench.now c.args.dev c.requires.may_open.known c.args.base c.index-device.result.now c.requires.over c.index-device.ensures in
    ap is_average (input_base drive q.1)

pub host-requires-clause-hosted : goal.host-requires-clause-hosted
host-requires-clause-hosted g c =
    let drive = driver_of (λ b. (g.dyn-1.0.entry b.vtable).1.driver b.value) in
    let q =
    base_first c.args.bench.now c.args.dev c.requires.may_open.known c.args.base c.index-device.result.now c.requires.over c.index-device.ensures in
    sized_along c.deref.result.now c.args.bench.now.triggers.items (λ n. is_hosted n (any_station drive c.index-device.result.now)) c.deref.ensures.value
    (hosted_by_states drive _ _ _ _ c.args.bench.now.sound c.args.bench.now.averaged _ _ q.1.under (ap is_average (input_base drive q.1)))

pub host-requires-clause-below : goal.host-requires-clause-below
host-requires-clause-below g c =
    subst (λ (shape : ShapeRecord). c.full_mask-full.result.bits < 2 ^ count_of shape) c.shape.ensures c.full_mask-full.ensures.below

pub host-requires-clause-channel : goal.host-requires-clause-channel
host-requires-clause-channel g c =
    subst (λ (shape : ShapeRecord). has_data shape c.full_mask-full.result.bits ≡ true) c.shape.ensures c.full_mask-full.ensures.channel

pub join_first-requires-clause-full : goal.join_first-requires-clause-full
join_first-requires-clause-full g c =
    let drive = driver_of (λ b. (g.dyn-1.0.entry b.vtable).1.driver b.value) in
    let q =
    base_first c.args.bench.now c.args.dev c.requires.may_open.known c.args.base c.index-device.result.now c.requires.over c.index-device.ensures in
    c.full_mask-full.ensures.value ∙ ap full_mask (c.shape.ensures ∙ sym (shape_base drive q.1))

pub join_first-requires-clause-channel : goal.join_first-requires-clause-channel
join_first-requires-clause-channel g c =
    let drive = driver_of (λ b. (g.dyn-1.0.entry b.vtable).1.driver b.value) in
    let q =
    base_first c.args.bench.now c.args.dev c.requires.may_open.known c.args.base c.index-device.result.now c.requires.over c.index-device.ensures in
    subst (λ (shape : ShapeRecord). has_data shape c.full_mask-full.result.bits ≡ true) (c.shape.ensures ∙ sym (shape_base drive q.1))
    c.full_mask-full.ensures.channel

pub join_first-requires-clause-bytes : goal.join_first-requires-clause-bytes
join_first-requires-clause-bytes g c =
    let drive = driver_of (λ b. (g.dyn-1.0.entry b.vtable).1.driver b.value) in
    let q =
    base_first c.args.bench.now c.args.dev c.requires.may_open.known c.args.base c.index-device.result.now c.requires.over c.index-device.ensures in
    subst (λ (shape : ShapeRecord). scan_size shape c.full_mask-full.result.bits ≤ MAX_BYTES) (c.shape.ensures ∙ sym (shape_base drive q.1))
    c.full_mask-full.ensures.bytes

pub join_first-requires-clause-alone : goal.join_first-requires-clause-alone
join_first-requires-clause-alone g c =
    let drive = driver_of (λ b. (g.dyn-1.0.entry b.vtable).1.driver b.value) in
    let q =
    base_first c.args.bench.now c.args.dev c.requires.may_open.known c.args.base c.index-device.result.now c.requires.over c.index-device.ensures in
    alone_told drive q.1 c.full_mask-full.result.bits c.host.ensures.full

pub join_first-requires-clause-hosts : goal.join_first-requires-clause-hosts
join_first-requires-clause-hosts g c =
    let drive = driver_of (λ b. (g.dyn-1.0.entry b.vtable).1.driver b.value) in
    let q =
    base_first c.args.bench.now c.args.dev c.requires.may_open.known c.args.base c.index-device.result.now c.requires.over c.index-device.ensures in
    hosts_triggers drive q.1 c.full_mask-full.result.bits (Ok c.in-Ok.trigger) c.deref.result.now c.deref.ensures.value c.in-Ok.ensures.hosts

pub returns-in-Err-clause-told : goal.returns-in-Err-clause-told
returns-in-Err-clause-told g c =
    let drive = driver_of (λ b. (g.dyn-1.0.entry b.vtable).1.driver b.value) in
    let q =
    base_first c.args.bench.now c.args.dev c.requires.may_open.known c.args.base c.index-device.result.now c.requires.over c.index-device.ensures in
    told_first_refused drive q.1 c.requires.none c.full_mask-full.result.bits (c.full_mask-full.ensures.value ∙ ap full_mask (c.shape.ensures ∙ sym
    (shape_base drive q.1))) (alone_told drive q.1 c.full_mask-full.result.bits c.host.ensures.full) c.args.mask.bits c.args.capacity c.in-Err.no
    (hosts_triggers drive q.1 c.full_mask-full.result.bits (Err c.in-Err.no) c.deref.result.now c.deref.ensures.value c.in-Err.ensures.hosts)
