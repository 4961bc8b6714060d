use Rattle.std.proofs.Common.{Bool, sym, ap, ◌∙◌}
use Rattle.iio_worlds.specs.Stance.{item_meets}
use Rattle.iio_bench.specs.Bench.{front_of}
use Rattle.iio_bench.specs.Guard.{client_by, opens_at}
use Rattle.iio_bench.specs.Seat.{seen_of}
use Rattle.iio_bench.proofs.guard.Guard.allows.Goals as goal

pub returns-then-self : goal.returns-then-self
returns-then-self g c x told =
    c.may_part.ensures (client_by seen_of c.args.self.now.own) x told
    ∙ ap (λ (b : Bool). item_meets (opens_at (front_of c.args.bench.now) c.args.self.now) b x) (sym c.if-self.true)

pub returns : goal.returns
returns g c x told = c.may_say.ensures x told ∙ ap (λ (b : Bool). item_meets (opens_at (front_of c.args.bench.now) c.args.self.now) b x) (sym c.if-self.false)
