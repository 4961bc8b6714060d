use Rattle.std.proofs.Common.{sym, ◌∙◌}
use Rattle.iio_bench.specs.Seat.{seen_of}
use Rattle.iio_bench.proofs.BesideLaws.{ended_seated, held_is, live_seated, same_seated}
use Rattle.iio_bench.proofs.others.other_holds.Goals as goal

pub returns-then-is : goal.returns-then-is
returns-then-is c = same_seated seen_of c.args.watched.now c.args.connection.now c.args.dev (sym c.is.ensures ∙ c.if-is.true)

pub returns-in-None : goal.returns-in-None
returns-in-None c = ended_seated seen_of c.args.watched.now c.args.connection.now c.args.dev (sym c.is.ensures ∙ c.if-is.false) c.in-None.is

pub returns-in-Some : goal.returns-in-Some
returns-in-Some c =
    live_seated seen_of c.args.watched.now c.args.connection.now c.in-Some.session c.args.dev c.holds.result (sym c.is.ensures ∙ c.if-is.false) c.in-Some.is
    (held_is seen_of c.in-Some.session c.args.dev c.holds.result (c.holds.ensures seen_of))
