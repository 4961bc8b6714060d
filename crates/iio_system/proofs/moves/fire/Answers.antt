use Rattle.std.proofs.Common.{ℕ, List, subst, w64}
use Rattle.std.proofs.lemmas.Int.{to_z-of_z}
use Rattle.std.proofs.lemmas.Result.{on_ok_weaker}
use Rattle.iio_device.specs.Plug.{driver_of}
use Rattle.iio_bench.specs.Bench.{captures_of}
use Rattle.iio_system.specs.Standing.{RiseBy}
use Rattle.iio_system.proofs.FireLaws.{fire_accepted, fire_missed}
use Rattle.iio_bench.proofs.OpenLemmas.{as_many}
use Rattle.iio_system.proofs.moves.fire.Goals as goal

pub returns-in-Missed-clause-makes : goal.returns-in-Missed-clause-makes
returns-in-Missed-clause-makes g c =
    let told = rw (to_z-of_z w64 c.args.t c.ranges.t) at c.poll-polled.ensures.told in
    λ cs s m h. fire_missed (driver_of (λ b. (g.dyn-1.0.entry b.vtable).1.driver b.value)) c.args.trigger c.args.t c.args.bench.now c.poll-polled.new.self cs
    c.poll-polled.ensures.front told s m h
    c.args.out.now.items c.push_poll.new.out.items c.name_of_trigger.result.now c.poll-polled.result c.in-Missed.field-0 c.in-Missed.is
    c.name_of_trigger.ensures (rw (to_z-of_z w64 c.args.t c.ranges.t) at c.poll-polled.ensures.answer) c.in_ok-push_poll.ensures

pub returns-in-Accepted-clause-makes : goal.returns-in-Accepted-clause-makes
returns-in-Accepted-clause-makes g c =
    let told = rw (to_z-of_z w64 c.args.t c.ranges.t) at c.poll-polled.ensures.told in
    on_ok_weaker c.handle_all.result
    (λ all cs s m h. fire_accepted (driver_of (λ b. (g.dyn-1.0.entry b.vtable).1.driver b.value)) c.args.trigger c.args.t c.args.bench.now
    c.poll-polled.new.self cs c.poll-polled.ensures.front told s m h
    (as_many _ _ c.args.bench.now.sound.places) c.requires.trigger c.handle_all.new.bench
    c.args.out.now.items c.push_poll.new.out.items c.handle_all.new.out.items c.name_of_trigger.result.now c.poll-polled.result c.in-Accepted.field-0
    c.in-Accepted.is c.name_of_trigger.ensures (rw (to_z-of_z w64 c.args.t c.ranges.t) at c.poll-polled.ensures.answer) c.in_ok-push_poll.ensures (all cs))
    c.handle_all.ensures.makes

pub returns-in-Accepted-clause-captures : goal.returns-in-Accepted-clause-captures
returns-in-Accepted-clause-captures g c =
    subst (λ (ns : List ℕ). RiseBy 32 ns (captures_of c.handle_all.new.bench)) c.poll-polled.ensures.captures c.handle_all.ensures.captures
