use Rattle.iio_device.specs.Plug.{driver_of}
use Rattle.iio_kinds.specs.Station.{station_by}
use Rattle.iio_base.specs.Refusals.{ensure}
use Rattle.iio_text.specs.declared.errors.Errno.TheVariants.{ENODEV}
use Rattle.iio_device.specs.Site.{site_written}
use Rattle.std.proofs.Common.{refl}
use Rattle.iio_core.specs.Machine.{with_site}
use Rattle.iio_kinds.proofs.InnerLemmas.{acts_named, acts_stay, facts_same, named}
use Rattle.iio_kinds.proofs.KeepLemmas.{keeps_captures}
use Rattle.iio_kinds.proofs.in_device.InDevice.write_attr.Goals as goal

pub returns-clause-acts : goal.returns-clause-acts
returns-clause-acts g c =
    let drive = driver_of (λ b. (g.dyn-1.0.entry b.vtable).1.driver b.value) in
    acts_named c.args.self.now.inners.items (with_site (site_written c.args.channel c.args.attr c.args.value))
    (ensure (station_by drive c.args.self.now.device).site.plugged ENODEV)
    (ensure (named c.args.self.now.inners.items (station_by drive c.args.self.now.device)).site.plugged ENODEV) c.write_attr.result
    (station_by drive c.args.self.now.device) (station_by drive c.write_attr.new.device)
    (refl) refl c.write_attr.ensures.acts

pub returns-clause-keeps : goal.returns-clause-keeps
returns-clause-keeps g c =
    let drive = driver_of (λ b. (g.dyn-1.0.entry b.vtable).1.driver b.value) in
    keeps_captures drive _ _ c.write_attr.ensures.keeps

pub invariant_of-self : goal.invariant_of-self
invariant_of-self g c =
    let drive = driver_of (λ b. (g.dyn-1.0.entry b.vtable).1.driver b.value) in
    record {
      sound =
          facts_same c.args.self.now.device.core.roster.shape c.write_attr.new.device.core.roster.shape c.args.self.now.inners.items c.args.self.now.room.items
          c.args.self.now.device.core.roster.members.items c.write_attr.new.device.core.roster.members.items
          c.write_attr.ensures.keeps.device.shape
          (acts_stay (with_site (site_written c.args.channel c.args.attr c.args.value)) (ensure (station_by drive c.args.self.now.device).site.plugged ENODEV)
          c.write_attr.result (station_by drive c.args.self.now.device) (station_by drive c.write_attr.new.device) (λ st. refl) c.write_attr.ensures.acts)
          c.args.self.now.sound;
    }
