use Rattle.std.proofs.Common.{refl, Ok}
use Rattle.iiod_grammar.specs.Stream.{Said}
use Rattle.iiod_grammar.specs.View.{command_view}
use Rattle.iiod_commands.specs.declared.manner.Progress.TheVariants.{Done}
use Rattle.iiod_session.proofs.HearLaws.{at_once_feeds, once_plain}
use Rattle.iiod_session.proofs.feed.hear_said.Goals as goal

pub returns-clause-hears : goal.returns-clause-hears
returns-clause-hears g c lines pending is said =
    at_once_feeds _ _ _ _ _ _ pending _ lines _ _ Done is said c.requires.at_once
    (c.before-2.ensures (Said (Ok (command_view c.args.command.now))) (once_plain (Ok (command_view c.args.command.now)) c.requires.at_once, refl))
    c.in_ok-perform.ensures.served
