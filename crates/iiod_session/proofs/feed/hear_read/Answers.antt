use Rattle.std.proofs.Common.{refl, false, Ok}
use Rattle.iiod_grammar.specs.Command.{ReadBuf}
use Rattle.iiod_grammar.specs.Stream.{Said}
use Rattle.iiod_commands.specs.declared.manner.Progress.TheVariants.{Done, Waits}
use Rattle.iiod_session.proofs.HearLaws.{said_feeds}
use Rattle.iiod_session.proofs.feed.hear_read.Goals as goal

pub returns-in-Done-clause-hears : goal.returns-in-Done-clause-hears
returns-in-Done-clause-hears g c lines is said =
    said_feeds _ _ _ _ _ _ false c.args.pending.now _ lines _ _ Done is said tt
    (c.before-2.ensures (Said (Ok (ReadBuf c.args.device.now c.args.asked))) (tt, refl)) (rw c.in-Done.is at c.in_ok-read_buffer.ensures.served)

pub returns-in_ok-keep_read-in-Waits-clause-hears :
    goal.returns-in_ok-keep_read-in-Waits-clause-hears
returns-in_ok-keep_read-in-Waits-clause-hears g c lines is said =
    said_feeds _ _ _ _ _ _ false c.keep_read.new.self _ lines _ _ (Waits c.in-Waits.dev) is said tt
    (c.before-2.ensures (Said (Ok (ReadBuf c.args.device.now c.args.asked))) (tt, refl)) (rw c.in-Waits.is at c.in_ok-read_buffer.ensures.served)
