use Rattle.std.proofs.Common.{List, ap, length, sym, w64}
use Rattle.std.proofs.lemmas.Int.{to_z-of_z}
use Rattle.std.proofs.lemmas.Option.{slice_get_read}
use Rattle.iio_core.specs.Trigger.{Trigger}
use Rattle.iio_device.specs.Plug.{driver_of}
use Rattle.iio_device.specs.Site.{no_driver}
use Rattle.iio_kinds.specs.Station.{any_station, stations_by}
use Rattle.iio_bench.proofs.FiringLemmas.{poll_answer_is, poll_bench, poll_triggers}
use Rattle.iio_bench.proofs.OpenLemmas.{as_many, sound_any}
use Rattle.iio_bench.proofs.ToldLemmas.{machine_by}
use Rattle.iio_bench.proofs.bench.Bench.poll.Goals as goal

pub invariant_of-self : goal.invariant_of-self
invariant_of-self g c =
    record {
      sound =
          poll_bench c.args.self.now.described.items c.args.self.now.triggers.items (stations_by (λ p. no_driver) c.args.self.now.devices.items) c.args.trigger
          c.args.t c.index_mut.result.now c.poll.new.self c.poll.result c.args.self.now.sound
          (slice_get_read _ (length c.args.self.now.described.items) _ _ (sym (as_many _ _ c.args.self.now.sound.places)) c.requires
          c.index_mut.ensures.value) (rw (to_z-of_z w64 c.args.t c.ranges.t) at c.poll.ensures);
      numbered = c.args.self.now.numbered;
      averaged =
          c.args.self.now.averaged;
    }

pub returns-clause-told : goal.returns-clause-told
returns-clause-told g c =
    let drive = driver_of (λ b. (g.dyn-1.0.entry b.vtable).1.driver b.value) in
    ap (λ (ts : List Trigger). machine_by (any_station drive) c.args.self.now.clock ts c.args.self.now.devices.items)
    (poll_triggers c.args.self.now.described.items c.args.self.now.triggers.items (stations_by drive c.args.self.now.devices.items) c.args.trigger c.args.t
    c.index_mut.result.now c.poll.new.self c.poll.result (sound_any drive _ _ _ c.args.self.now.sound)
    (slice_get_read _ (length c.args.self.now.described.items) _ _ (sym (as_many _ _ c.args.self.now.sound.places)) c.requires c.index_mut.ensures.value)
    (rw (to_z-of_z w64 c.args.t c.ranges.t) at c.poll.ensures))

pub returns-clause-answer : goal.returns-clause-answer
returns-clause-answer g c =
    poll_answer_is c.args.self.now.described.items c.args.self.now.triggers.items
    (stations_by (driver_of (λ b. (g.dyn-1.0.entry b.vtable).1.driver b.value)) c.args.self.now.devices.items) c.args.trigger c.args.t c.index_mut.result.now
    c.poll.new.self c.poll.result (sound_any (driver_of (λ b. (g.dyn-1.0.entry b.vtable).1.driver b.value)) _ _ _ c.args.self.now.sound)
    (slice_get_read _ (length c.args.self.now.described.items) _ _ (sym (as_many _ _ c.args.self.now.sound.places)) c.requires c.index_mut.ensures.value)
    (rw (to_z-of_z w64 c.args.t c.ranges.t) at c.poll.ensures)
