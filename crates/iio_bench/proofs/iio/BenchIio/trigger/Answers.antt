use Rattle.std.proofs.Common.{◌∙◌, ◌<◌, ℕ, length, ap, refl, subst, sym}
use Rattle.std.proofs.lemmas.Option.{slice_get_read}
use Rattle.iio_desc.specs.Kind.{is_average}
use Rattle.iio_device.specs.Plug.{driver_of}
use Rattle.iio_bench.specs.Bench.{front_of, machine_of}
use Rattle.iio_kinds.specs.Station.{any_front, any_station}
use Rattle.iio_bench.proofs.ListLemmas.{element_at}
use Rattle.iio_bench.proofs.AnyLemmas.{trigger_told}
use Rattle.iio_bench.proofs.OpenLemmas.{base_within, mean_of, mean_trigger, plain_of}
use Rattle.iio_bench.proofs.ToldLemmas.{kind_is, trigger_is}
use Rattle.iio_bench.proofs.iio.BenchIio.trigger.Goals as goal

pub index-requires-in-Some : goal.index-requires-in-Some
index-requires-in-Some g c =
    subst (λ (n : ℕ). c.in-Some.base < n) (sym c.args.self.now.devices.ok.0) (base_within (length c.args.self.now.described.items)
    c.args.self.now.first_average _ c.args.self.now.devices.items c.args.dev c.in-Some.base c.index.result.now c.args.self.now.averaged (element_at any_front
    _ _ _ c.requires c.index.ensures) (sym c.in-Some.ensures))

pub returns-in-None : goal.returns-in-None
returns-in-None g c =
    let drive = driver_of (λ b. (g.dyn-1.0.entry b.vtable).1.driver b.value) in
    c.trigger.ensures ∙ sym (trigger_is (any_station drive) c.args.self.now.clock _
    c.args.self.now.devices.items c.args.dev c.index-in-None.result.now (element_at any_front _ _ _ c.requires c.index-in-None.ensures)) ∙ sym (trigger_told
    (front_of c.args.self.now) (machine_of drive c.args.self.now) c.args.dev (ap is_average (kind_is any_front
    c.args.self.now.context.items c.args.self.now.described.items c.args.self.now.devices.items c.args.dev c.index.result.now (element_at any_front _ _ _
    c.requires c.index.ensures)) ∙ plain_of _ (sym c.in-None.ensures)))

pub returns-in-Some : goal.returns-in-Some
returns-in-Some g c =
    let drive = driver_of (λ b. (g.dyn-1.0.entry b.vtable).1.driver b.value) in
    c.trigger-in-Some.ensures ∙ sym (trigger_is (any_station drive) c.args.self.now.clock _
    c.args.self.now.devices.items c.in-Some.base c.index-in-Some.result.now (slice_get_read c.args.self.now.devices.items (length
    c.args.self.now.devices.items) c.in-Some.base c.index-in-Some.result.now refl (base_within (length c.args.self.now.described.items)
    c.args.self.now.first_average _ c.args.self.now.devices.items c.args.dev c.in-Some.base c.index.result.now c.args.self.now.averaged (element_at any_front
    _ _ _ c.requires c.index.ensures) (sym c.in-Some.ensures)) c.index-in-Some.ensures)) ∙ sym (mean_trigger (front_of c.args.self.now)
    (machine_of drive c.args.self.now) c.args.dev c.in-Some.base ((mean_of _ c.in-Some.base (sym c.in-Some.ensures))).window
    ((kind_is any_front c.args.self.now.context.items c.args.self.now.described.items c.args.self.now.devices.items c.args.dev
    c.index.result.now (element_at any_front _ _ _ c.requires c.index.ensures)) ∙ ((mean_of _ c.in-Some.base (sym c.in-Some.ensures))).is))
