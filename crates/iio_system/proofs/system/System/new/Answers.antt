use Rattle.std.proofs.Common.{rules, arith, refl, subst, sym, ◌<◌, All, length, map}
use Rattle.iio_desc.specs.Description.{DeviceHead}
use Rattle.iio_device.specs.declared.plug.Plug.TheVariants.{Given}
use Rattle.iio_device.specs.Plug.{driver_of}
use Rattle.iio_core.specs.Front.{Front}
use Rattle.iio_history.specs.Bench.{Every, HasDeviceSizes}
use Rattle.iio_kinds.specs.Station.{captures_by}
use Rattle.iio_system.proofs.StartLaws.{holds_first, none_within, room_first, some_channels}
use Rattle.iio_system.proofs.system.System.new.Goals as goal

pub invariant_of-result : goal.invariant_of-result
invariant_of-result g c = record {
  owned = search rules;
  counted = none_within captures_by 0 c.in_ok-bench.bench.devices.items c.in_ok-bench.ensures.captures;
  few = search rules;
  apart = rw c.new-2.ensures.items (λ i k d less within. absurd (omega (arith, within)));
}

pub look_at_sizes-requires : goal.look_at_sizes-requires
look_at_sizes-requires g c =
    subst (λ (f : Front). All (λ (d : DeviceHead). 0 < length d.shape.channels) f.devices) (sym c.in_ok-bench.ensures.front)
    (some_channels (length c.args.drivers.items) c.args.desc c.requires)

pub returns-clause-stands : goal.returns-clause-stands
returns-clause-stands g c = record {
  holds =
      rw c.new-2.ensures.items
      (holds_first (driver_of (λ b. (g.dyn-1.0.entry b.vtable).1.driver b.value))
      (record { desc = c.args.desc; drivers = map (λ d. driver_of (λ b. (g.dyn-1.0.entry b.vtable).1.driver b.value) (Given d)) c.args.drivers.items })
      c.in_ok-bench.bench c.in_ok-bench.ensures.front c.in_ok-bench.ensures.told
      (subst (λ (f : Front). Every HasDeviceSizes f.devices) c.in_ok-bench.ensures.front c.look_at_sizes.ensures));
  room =
      room_first (record {
        desc = c.args.desc;
        drivers =
            map (λ d. driver_of (λ b. (g.dyn-1.0.entry b.vtable).1.driver b.value) (Given d)) c.args.drivers.items;
      }) 0 refl;
}
