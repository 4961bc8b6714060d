use Rattle.std.proofs.Common.{sym, ◌∙◌}
use Rattle.iio_bench.specs.Seat.{seen_of}
use Rattle.iio_bench.proofs.BesideLaws.{ended_none, live_none, same_none}
use Rattle.iio_bench.proofs.others.other_holds_nothing.Goals as goal

pub returns-then-is : goal.returns-then-is
returns-then-is c = same_none seen_of c.args.watched.now c.args.connection.now (sym c.is.ensures ∙ c.if-is.true)

pub returns-in-None : goal.returns-in-None
returns-in-None c = ended_none seen_of c.args.watched.now c.args.connection.now (sym c.is.ensures ∙ c.if-is.false) c.in-None.is

pub returns-in-Some : goal.returns-in-Some
returns-in-Some c =
    live_none seen_of c.args.watched.now c.args.connection.now c.in-Some.session c.holds_nothing.result (sym c.is.ensures ∙ c.if-is.false) c.in-Some.is
    (c.holds_nothing.ensures seen_of)
