use Rattle.std.proofs.Common.{◌∙◌, subst}
use Rattle.iiod_session.specs.declared.watch.Seen.{Seen}
use Rattle.iiod_session.specs.Watch.{IsSeen}
use Rattle.iio_worlds.specs.Stance.{opens_by}
use Rattle.iio_bench.specs.Bench.{front_of}
use Rattle.iio_bench.specs.Guard.{connections_of, clients_besides}
use Rattle.iio_bench.specs.Seat.{seen_of}
use Rattle.iio_bench.proofs.SaidLaws.{command_parts, long_parts, refused_parts}
use Rattle.iio_bench.proofs.guard.may_part.Goals as goal

pub returns-in-Refused : goal.returns-in-Refused
returns-in-Refused g c own x told =
    refused_parts (opens_by (front_of c.args.bench.now) own (clients_besides seen_of c.args.watched.now (connections_of c.args.others.now))) x
    (subst (λ (z : Seen). IsSeen x z) c.in-Refused.is told)

pub returns-in-TooLong : goal.returns-in-TooLong
returns-in-TooLong g c own x told =
    c.none_holds.ensures
    ∙ long_parts (opens_by (front_of c.args.bench.now) own (clients_besides seen_of c.args.watched.now (connections_of c.args.others.now))) x
    (subst (λ (z : Seen). IsSeen x z) c.in-TooLong.is told)

pub returns-in-Command : goal.returns-in-Command
returns-in-Command g c own x told =
    c.may_leave.ensures own
    ∙ command_parts (opens_by (front_of c.args.bench.now) own (clients_besides seen_of c.args.watched.now (connections_of c.args.others.now))) x
    c.in-Command.command (subst (λ (z : Seen). IsSeen x z) c.in-Command.is told)
