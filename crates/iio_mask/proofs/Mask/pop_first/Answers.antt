use Rattle.std.proofs.Common.{◌<◌, refl, arith}
use Rattle.std.proofs.lemmas.Nat.{pow_pos}
use Rattle.std.specs.Int.{trailing_zeros, w64}
use Rattle.iio_mask.proofs.ChannelLemmas.{channels_of-first, channels_of-none, first_has, without_first}
use Rattle.iio_mask.proofs.Mask.pop_first.Goals as goal

pub returns-then-self-eq0-clause-none : goal.returns-then-self-eq0-clause-none
returns-then-self-eq0-clause-none c = (rw c.if-self-eq0.true channels_of-none, refl)

pub returns-clause-some : goal.returns-clause-some
returns-clause-some c =
    let some : 0 < c.args.self.now.bits = omega arith in
    rw (without_first c.args.self.now.bits some (omega arith)) (channels_of-first c.args.self.now.bits some (omega arith))

pub returns-clause-member : goal.returns-clause-member
returns-clause-member c = first_has c.args.self.now.bits (omega arith) (omega arith)

pub returns-clause-fewer : goal.returns-clause-fewer
returns-clause-fewer c =
    let some : 0 < c.args.self.now.bits = omega arith in
    rw (without_first c.args.self.now.bits some (omega arith)) (omega (arith, some, pow_pos (trailing_zeros w64 c.args.self.now.bits)))
