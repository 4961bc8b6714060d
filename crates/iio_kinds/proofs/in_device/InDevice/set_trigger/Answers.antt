use Rattle.iio_device.specs.Plug.{driver_of}
use Rattle.iio_kinds.specs.Station.{station_by}
use Rattle.iio_core.specs.Calls.{trigger_answer}
use Rattle.std.proofs.Common.{refl}
use Rattle.iio_core.specs.Machine.{with_site}
use Rattle.iio_kinds.proofs.InnerLemmas.{acts_named, acts_stay, empty_named, facts_same, named}
use Rattle.iio_kinds.proofs.KeepLemmas.{keeps_captures}
use Rattle.iio_kinds.proofs.in_device.InDevice.set_trigger.Goals as goal

pub returns-clause-acts : goal.returns-clause-acts
returns-clause-acts g c =
    let drive = driver_of (λ b. (g.dyn-1.0.entry b.vtable).1.driver b.value) in
    acts_named c.args.self.now.inners.items (with_site (λ site. record site { trigger = c.args.trigger }))
    (trigger_answer (station_by drive c.args.self.now.device)) (trigger_answer (named c.args.self.now.inners.items (station_by drive c.args.self.now.device)))
    c.set_trigger.result (station_by drive c.args.self.now.device) (station_by drive c.set_trigger.new.device)
    (rw (empty_named c.args.self.now.inners.items (station_by drive c.args.self.now.device).members) refl) refl c.set_trigger.ensures.acts

pub returns-clause-keeps : goal.returns-clause-keeps
returns-clause-keeps g c =
    let drive = driver_of (λ b. (g.dyn-1.0.entry b.vtable).1.driver b.value) in
    keeps_captures drive _ _ c.set_trigger.ensures.keeps

pub invariant_of-self : goal.invariant_of-self
invariant_of-self g c =
    let drive = driver_of (λ b. (g.dyn-1.0.entry b.vtable).1.driver b.value) in
    record {
      sound =
          facts_same c.args.self.now.device.core.roster.shape c.set_trigger.new.device.core.roster.shape c.args.self.now.inners.items c.args.self.now.room.items
          c.args.self.now.device.core.roster.members.items c.set_trigger.new.device.core.roster.members.items
          c.set_trigger.ensures.keeps.device.shape
          (acts_stay (with_site (λ site. record site { trigger = c.args.trigger })) (trigger_answer (station_by drive c.args.self.now.device))
          c.set_trigger.result (station_by drive c.args.self.now.device) (station_by drive c.set_trigger.new.device) (λ st. refl) c.set_trigger.ensures.acts)
          c.args.self.now.sound;
    }
