use Rattle.std.proofs.Common.{ℕ, Option, ap, ◌∙◌}
use Rattle.iio_worlds.specs.Stance.{by_number, one_seated}
use Rattle.iio_bench.specs.Guard.{connections_of, clients_besides}
use Rattle.iio_bench.specs.Seat.{seen_of}
use Rattle.iio_bench.proofs.guard.one_has.Goals as goal

pub returns-in-None : goal.returns-in-None
returns-in-None g c =
    ap (λ (o : Option ℕ). by_number o (one_seated (clients_besides seen_of c.args.watched.now (connections_of c.args.others.now)))) c.in-None.ensures.value

pub returns-in-Some : goal.returns-in-Some
returns-in-Some g c =
    c.one_holds.ensures ∙ ap (λ (o : Option ℕ). by_number o (one_seated (clients_besides seen_of c.args.watched.now (connections_of c.args.others.now))))
    c.in-Some.ensures.value
