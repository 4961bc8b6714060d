use mir.Syntax.{w64}
use mir.Val.{SFits}
use Rattle.std.proofs.Common.{rules}
use Rattle.std.proofs.lemmas.Int.{to_z-of_z}
use Rattle.iio_system.proofs.ApartLaws.{apart_same}
use Rattle.iio_system.proofs.PlayLaws.{made_move, made_step}
use Rattle.iio_system.proofs.steps.perform.Goals as goal

pub returns-in-Fire-clause-makes : goal.returns-in-Fire-clause-makes
returns-in-Fire-clause-makes g c =
    let fits : SFits w64 c.in-Fire.t = search rules in
    made_move _ c.args.step.now c.args.bench.now c.fire.new.bench c.args.connections.now.items _ _ c.fire.result
    (rw c.in-Fire.is (simp (to_z-of_z, fits) at c.fire.ensures.makes))

pub returns-in-Poll-clause-makes : goal.returns-in-Poll-clause-makes
returns-in-Poll-clause-makes g c =
    let fits : SFits w64 c.in-Poll.t = search rules in
    made_move _ c.args.step.now c.args.bench.now c.poll.new.bench c.args.connections.now.items _ _ c.poll.result
    (rw c.in-Poll.is (simp (to_z-of_z, fits) at c.poll.ensures.makes))

pub returns-in-Handle-clause-makes : goal.returns-in-Handle-clause-makes
returns-in-Handle-clause-makes g c =
    made_move _ c.args.step.now c.args.bench.now c.handle.new.bench c.args.connections.now.items _ _ c.handle.result (rw c.in-Handle.is c.handle.ensures.makes)

pub returns-in-Sense-clause-makes : goal.returns-in-Sense-clause-makes
returns-in-Sense-clause-makes g c =
    let fits : SFits w64 c.in-Sense.t = search rules in
    made_move _ c.args.step.now c.args.bench.now c.sense.new.bench c.args.connections.now.items _ _ c.sense.result
    (rw c.in-Sense.is (simp (to_z-of_z, fits) at c.sense.ensures.makes))

pub returns-in-Clock-clause-makes : goal.returns-in-Clock-clause-makes
returns-in-Clock-clause-makes g c =
    let fits : SFits w64 c.in-Clock.t = search rules in
    made_move _ c.args.step.now c.args.bench.now c.set_clock.new.bench c.args.connections.now.items _ _ c.set_clock.result
    (rw c.in-Clock.is (simp (to_z-of_z, fits) at c.set_clock.ensures.makes))

pub returns-in-Unplug-clause-makes : goal.returns-in-Unplug-clause-makes
returns-in-Unplug-clause-makes g c =
    made_move _ c.args.step.now c.args.bench.now c.unplug.new.bench c.args.connections.now.items _ _ c.unplug.result (rw c.in-Unplug.is c.unplug.ensures.makes)

pub returns-in-Drop-clause-makes : goal.returns-in-Drop-clause-makes
returns-in-Drop-clause-makes g c =
    made_step _ c.args.step.now c.args.bench.now c.drop_named.new.bench c.args.connections.now.items c.drop_named.new.connections.items _ _ c.drop_named.result
    (rw c.in-Drop.is c.drop_named.ensures.makes)

pub returns-in-Drop-clause-apart : goal.returns-in-Drop-clause-apart
returns-in-Drop-clause-apart g c = apart_same c.args.connections.now.items _ c.drop_named.ensures.names c.requires.apart
