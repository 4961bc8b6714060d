use Rattle.std.proofs.Common.{true, false, List, sym, ◌∙◌, arith}
use Rattle.std.proofs.lemmas.List.{at_drop_all}
use Rattle.iio_bench.specs.declared.connection.Connection.{Connection}
use Rattle.iio_kinds.specs.declared.seat.Seat.{Seat}
use Rattle.iio_bench.specs.Guard.{connection_named}
use Rattle.iio_bench.proofs.BesideLaws.{named_on}
use Rattle.iio_bench.proofs.others.named.Goals as goal

pub loop-connection-preserved : goal.loop-connection-preserved
loop-connection-preserved c =
    sym
    (named_on c.args.name.now c.args.connections.now c.loop-connection.connection-index c.connection-item.result false
    (omega (arith, c.loop-connection-test.true)) c.connection-item.is
    (sym c.if-is.false ∙ c.is.ensures))
    ∙ c.loop-connection.invariant

pub returns-then-is : goal.returns-then-is
returns-then-is c =
    sym
    (named_on c.args.name.now c.args.connections.now c.loop-connection.connection-index c.connection-item.result true
    (omega (arith, c.loop-connection-test.true)) c.connection-item.is
    (sym c.if-is.true ∙ c.is.ensures))
    ∙ c.loop-connection.invariant

pub returns : goal.returns
returns c =
    sym (at_drop_all (λ (ds : List (Connection Seat)). connection_named c.args.name.now ds) c.args.connections.now c.loop-connection.connection-index
    (omega (arith, c.loop-connection-test.false)))
    ∙ c.loop-connection.invariant
