use Rattle.std.proofs.Common.{true, false, List, sym, ◌∙◌, arith}
use Rattle.std.proofs.lemmas.List.{at_drop_all}
use Rattle.iio_worlds.specs.Stance.{one_seated}
use Rattle.iio_bench.specs.declared.connection.Connection.{Connection}
use Rattle.iio_kinds.specs.declared.seat.Seat.{Seat}
use Rattle.iio_bench.specs.Guard.{clients_besides}
use Rattle.iio_bench.specs.Seat.{seen_of}
use Rattle.iio_bench.proofs.BesideLaws.{seated_on}
use Rattle.iio_bench.proofs.others.one_holds.Goals as goal

pub loop-connection-preserved : goal.loop-connection-preserved
loop-connection-preserved c =
    sym
    (seated_on seen_of c.args.watched.now c.args.connections.now c.loop-connection.connection-index c.connection-item.result c.args.dev false
    (omega (arith, c.loop-connection-test.true)) c.connection-item.is
    (sym c.if-other_holds.false ∙ c.other_holds.ensures))
    ∙ c.loop-connection.invariant

pub returns-then-other_holds : goal.returns-then-other_holds
returns-then-other_holds c =
    sym
    (seated_on seen_of c.args.watched.now c.args.connections.now c.loop-connection.connection-index c.connection-item.result c.args.dev true
    (omega (arith, c.loop-connection-test.true)) c.connection-item.is
    (sym c.if-other_holds.true ∙ c.other_holds.ensures))
    ∙ c.loop-connection.invariant

pub returns : goal.returns
returns c =
    sym (at_drop_all (λ (ds : List (Connection Seat)). one_seated (clients_besides seen_of c.args.watched.now ds) c.args.dev) c.args.connections.now
    c.loop-connection.connection-index (omega (arith, c.loop-connection-test.false)))
    ∙ c.loop-connection.invariant
