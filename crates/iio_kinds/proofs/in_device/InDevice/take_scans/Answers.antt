use Rattle.iio_device.specs.Plug.{driver_of}
use Rattle.iio_kinds.specs.Station.{station_by}
use Rattle.std.proofs.Common.{refl, sym, ◌∙◌}
use Rattle.iio_kinds.specs.Acting.{id_of}
use Rattle.iio_kinds.specs.Inner.{inner_at}
use Rattle.iio_kinds.proofs.InnerLemmas.{takes_named, takes_facts, named, none_there, scans_none}
use Rattle.iio_kinds.proofs.KeepLemmas.{keeps_captures}
use Rattle.iio_kinds.proofs.MeanTakes.{no_scans}
use Rattle.iio_kinds.proofs.in_device.InDevice.take_scans.Goals as goal

pub returns-then-is_inner-clause-takes : goal.returns-then-is_inner-clause-takes
returns-then-is_inner-clause-takes g c =
    let drive = driver_of (λ b. (g.dyn-1.0.entry b.vtable).1.driver b.value) in
    no_scans (id_of c.args.number c.args.mask) c.args.most c.nothing.result c.args.out.now.items c.args.out.now.items
    (named c.args.self.now.inners.items (station_by drive c.args.self.now.device))
    (named c.args.self.now.inners.items (station_by drive c.args.self.now.device)) refl
    (scans_none c.args.self.now.inners.items c.args.number (sym c.is_inner.ensures ∙ c.if-is_inner.true) c.args.mask.bits
    c.args.self.now.device.core.roster.members.items) refl c.nothing.ensures

pub returns-clause-takes : goal.returns-clause-takes
returns-clause-takes g c =
    let drive = driver_of (λ b. (g.dyn-1.0.entry b.vtable).1.driver b.value) in
    takes_named c.args.self.now.inners.items c.args.number
    (none_there (inner_at c.args.self.now.inners.items c.args.number) (sym c.is_inner.ensures ∙ c.if-is_inner.false)) (station_by drive c.args.self.now.device)
    c.args.self.now.device.core.roster.members.items refl c.args.mask.bits c.args.most c.take_scans.result c.args.out.now.items c.take_scans.new.out.items
    (station_by drive c.take_scans.new.device) c.take_scans.ensures.takes

pub returns-clause-keeps : goal.returns-clause-keeps
returns-clause-keeps g c =
    let drive = driver_of (λ b. (g.dyn-1.0.entry b.vtable).1.driver b.value) in
    keeps_captures drive _ _ c.take_scans.ensures.keeps

pub invariant_of-self : goal.invariant_of-self
invariant_of-self g c =
    let drive = driver_of (λ b. (g.dyn-1.0.entry b.vtable).1.driver b.value) in
    record {
      sound =
          takes_facts c.args.self.now.device.core.roster.shape c.take_scans.new.device.core.roster.shape c.args.self.now.inners.items c.args.self.now.room.items
          c.args.self.now.device.core.roster.members.items c.take_scans.new.device.core.roster.members.items
          c.take_scans.ensures.keeps.device.shape c.args.self.now.sound (id_of c.args.number c.args.mask) c.args.most c.take_scans.result c.args.out.now.items
          c.take_scans.new.out.items (station_by drive c.args.self.now.device) (station_by drive c.take_scans.new.device) refl refl c.take_scans.ensures.takes;
    }
