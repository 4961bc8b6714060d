use Rattle.std.proofs.Common.{◌∙◌, sym, arith}
use Rattle.iio_bench.proofs.IioLemmas.{position_at, position_none}
use Rattle.iio_bench.proofs.iio.device_number.Goals as goal

pub returns-then-is_named-clause-value : goal.returns-then-is_named-clause-value
returns-then-is_named-clause-value g c =
    position_at _ _ c.loop-i.i c.index-devices-i.result c.loop-i-test.true c.index-devices-i.is (sym c.is_named.ensures ∙ c.if-is_named.true) c.loop-i.invariant

pub returns-clause-value : goal.returns-clause-value
returns-clause-value g c = position_none _ c.args.devices.now (λ k d h. c.loop-i.invariant k d (omega (arith, c.loop-i-test.false)))
