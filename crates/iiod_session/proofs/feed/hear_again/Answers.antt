use Rattle.std.proofs.Common.{refl, true}
use Rattle.iiod_commands.specs.declared.manner.Progress.TheVariants.{Done, Waits}
use Rattle.iiod_session.proofs.HearLaws.{said_feeds}
use Rattle.iiod_session.proofs.feed.hear_again.Goals as goal

pub returns-in-Done-clause-hears : goal.returns-in-Done-clause-hears
returns-in-Done-clause-hears g c lines is said =
    said_feeds _ _ _ _ _ _ true c.args.pending.now _ lines _ _ Done is said tt refl
    (rw (c.in-Done.is, c.device.ensures, c.asked.ensures) at c.in_ok-read_buffer.ensures.served)

pub returns-in-Waits-clause-hears : goal.returns-in-Waits-clause-hears
returns-in-Waits-clause-hears g c lines is said =
    said_feeds _ _ _ _ _ _ true c.args.pending.now _ lines _ _ (Waits c.in-Waits.dev) is said tt refl
    (rw (c.in-Waits.is, c.device.ensures, c.asked.ensures) at c.in_ok-read_buffer.ensures.served)
