use Rattle.std.proofs.Common.{◌∙◌, Ok, Err, ap, refl, sym, false}
use Rattle.iio_desc.specs.Kind.{is_input}
use Rattle.iio_device.specs.Plug.{driver_of}
use Rattle.iio_layout.specs.Layout.{scan_size}
use Rattle.iio_layout.specs.Shape.{ShapeRecord}
use Rattle.iio_kinds.specs.Acting.{id_of}
use Rattle.iio_kinds.specs.Station.{any_front}
use Rattle.iio_bench.proofs.ListLemmas.{element_at, numbered_after}
use Rattle.iio_bench.proofs.IioLemmas.{averaged_kept, device_keeps, sound_kept}
use Rattle.iio_bench.proofs.OpenLemmas.{open_bytes, open_fits}
use Rattle.iio_bench.proofs.RemaskedLemmas.{remask_kept, told_remask}
use Rattle.iio_bench.proofs.ToldLemmas.{kind_is, shape_is}
use Rattle.iio_bench.proofs.iio.BenchIio.remask.Goals as goal

pub scan_size-size-requires : goal.scan_size-size-requires
scan_size-size-requires g c =
    rw c.shape.ensures ((open_fits (driver_of (λ b. (g.dyn-1.0.entry b.vtable).1.driver b.value)) c.args.self.now.context.items c.args.self.now.described.items
    c.args.self.now.triggers.items c.args.self.now.devices.items c.args.self.now.clock c.args.dev c.args.seat.now.capacity false c.index_mut-device.result.now
    c.args.self.now.sound c.args.self.now.numbered
    (element_at any_front _ _ _ c.requires.may_open.known c.index_mut-device.ensures.value) c.args.mask.bits c.requires.may_open).0)

pub remask-requires-clause-below : goal.remask-requires-clause-below
remask-requires-clause-below g c =
    (open_fits (driver_of (λ b. (g.dyn-1.0.entry b.vtable).1.driver b.value)) c.args.self.now.context.items c.args.self.now.described.items
    c.args.self.now.triggers.items c.args.self.now.devices.items c.args.self.now.clock c.args.dev c.args.seat.now.capacity false c.index_mut-device.result.now
    c.args.self.now.sound c.args.self.now.numbered
    (element_at any_front _ _ _ c.requires.may_open.known c.index_mut-device.ensures.value) c.args.mask.bits c.requires.may_open).0

pub remask-requires-clause-channel : goal.remask-requires-clause-channel
remask-requires-clause-channel g c =
    (open_fits (driver_of (λ b. (g.dyn-1.0.entry b.vtable).1.driver b.value)) c.args.self.now.context.items c.args.self.now.described.items
    c.args.self.now.triggers.items c.args.self.now.devices.items c.args.self.now.clock c.args.dev c.args.seat.now.capacity false c.index_mut-device.result.now
    c.args.self.now.sound c.args.self.now.numbered
    (element_at any_front _ _ _ c.requires.may_open.known c.index_mut-device.ensures.value) c.args.mask.bits c.requires.may_open).1

pub remask-requires-clause-bytes : goal.remask-requires-clause-bytes
remask-requires-clause-bytes g c =
    c.scan_size-size.ensures.data
    (rw c.shape.ensures ((open_fits (driver_of (λ b. (g.dyn-1.0.entry b.vtable).1.driver b.value)) c.args.self.now.context.items c.args.self.now.described.items
    c.args.self.now.triggers.items c.args.self.now.devices.items c.args.self.now.clock c.args.dev c.args.seat.now.capacity false c.index_mut-device.result.now
    c.args.self.now.sound c.args.self.now.numbered
    (element_at any_front _ _ _ c.requires.may_open.known c.index_mut-device.ensures.value) c.args.mask.bits c.requires.may_open).1))

pub remask-requires-clause-fits : goal.remask-requires-clause-fits
remask-requires-clause-fits g c =
    rw (c.scan_size-size.ensures.value, c.shape.ensures)
    (open_bytes (driver_of (λ b. (g.dyn-1.0.entry b.vtable).1.driver b.value)) c.args.self.now.context.items c.args.self.now.described.items
    c.args.self.now.triggers.items c.args.self.now.devices.items c.args.self.now.clock c.args.dev c.args.seat.now.capacity false c.index_mut-device.result.now
    c.args.self.now.sound c.args.self.now.numbered
    (element_at any_front _ _ _ c.requires.may_open.known c.index_mut-device.ensures.value) c.args.mask.bits c.requires.may_open)

pub invariant_of-self : goal.invariant_of-self
invariant_of-self g c =
    let at = element_at any_front _ _ _ c.requires.may_open.known c.index_mut-device.ensures.value in
    let kept =
    remask_kept (driver_of (λ b. (g.dyn-1.0.entry b.vtable).1.driver b.value)) c.args.self.now.context.items c.args.self.now.described.items
    c.args.self.now.devices.items c.args.self.now.clock c.args.dev c.index_mut-device.result.now c.remask.new.self at
    (id_of c.args.seat.now.number c.args.seat.now.mask) c.args.mask.bits c.args.seat.now.capacity c.remask.result c.remask.ensures.acts in
    record {
      sound = sound_kept (driver_of (λ b. (g.dyn-1.0.entry b.vtable).1.driver b.value)) _ _ _ c.remask.new.self at _ _ c.args.self.now.sound kept;
      numbered = numbered_after _ _ _ _ _ c.args.self.now.numbered at c.remask.ensures.keeps.head.number;
      averaged =
          averaged_kept (driver_of (λ b. (g.dyn-1.0.entry b.vtable).1.driver b.value)) _ _ _ c.remask.new.self at _ _ c.args.self.now.averaged
          c.remask.ensures.keeps.head kept;
    }

pub returns-in-Err-clause-kept : goal.returns-in-Err-clause-kept
returns-in-Err-clause-kept g c =
    device_keeps _ _ _ _ _ _ (element_at any_front _ _ _ c.requires.may_open.known c.index_mut-device.ensures.value) c.remask.ensures.keeps

pub returns-in-Err-clause-told : goal.returns-in-Err-clause-told
returns-in-Err-clause-told g c =
    told_remask (driver_of (λ b. (g.dyn-1.0.entry b.vtable).1.driver b.value)) c.args.self.now.context.items c.args.self.now.described.items
    c.args.self.now.devices.items c.args.self.now.clock c.args.dev c.index_mut-device.result.now c.remask.new.self
    (element_at any_front _ _ _ c.requires.may_open.known c.index_mut-device.ensures.value) (id_of c.args.seat.now.number c.args.seat.now.mask) c.args.mask.bits
    c.args.seat.now.capacity (Err c.in-Err.no) c.in-Err.ensures.acts _

pub returns-in-Ok-clause-kept : goal.returns-in-Ok-clause-kept
returns-in-Ok-clause-kept g c =
    device_keeps _ _ _ _ _ _ (element_at any_front _ _ _ c.requires.may_open.known c.index_mut-device.ensures.value) c.remask.ensures.keeps

pub returns-in-Ok-clause-seat : goal.returns-in-Ok-clause-seat
returns-in-Ok-clause-seat g c =
    let at = element_at any_front _ _ _ c.requires.may_open.known c.index_mut-device.ensures.value in
    record {
      number = refl;
      owned = record {
        under = refl;
        sized = c.scan_size-size.ensures.value
            ∙ ap (λ (shape : ShapeRecord). scan_size shape c.args.mask.bits)
            (c.shape.ensures ∙ sym (shape_is any_front c.args.self.now.context.items c.args.self.now.described.items c.args.self.now.devices.items c.args.dev
            c.index_mut-device.result.now at));
        bounded = refl;
      };
      fresh = refl;
    }

pub returns-in-Ok-clause-told : goal.returns-in-Ok-clause-told
returns-in-Ok-clause-told g c =
    told_remask (driver_of (λ b. (g.dyn-1.0.entry b.vtable).1.driver b.value)) c.args.self.now.context.items c.args.self.now.described.items
    c.args.self.now.devices.items c.args.self.now.clock c.args.dev c.index_mut-device.result.now c.remask.new.self
    (element_at any_front _ _ _ c.requires.may_open.known c.index_mut-device.ensures.value) (id_of c.args.seat.now.number c.args.seat.now.mask) c.args.mask.bits
    c.args.seat.now.capacity (Ok c.in-Ok.waited) c.in-Ok.ensures.acts _

pub remask-requires-clause-input : goal.remask-requires-clause-input
remask-requires-clause-input g c =
    ap is_input (sym (kind_is any_front c.args.self.now.context.items c.args.self.now.described.items c.args.self.now.devices.items c.args.dev
    c.index_mut-device.result.now (element_at any_front _ _ _ c.requires.may_open.known c.index_mut-device.ensures.value)))
    ∙ c.requires.input
