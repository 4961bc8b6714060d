use Rattle.std.proofs.Common.{List, ℕ, inl, inr, ◌∙◌, subst}
use Rattle.iiod_session.specs.declared.watch.Seen.{Seen}
use Rattle.iio_core.specs.Front.{find_device}
use Rattle.iiod_session.specs.Watch.{IsSeen}
use Rattle.iio_worlds.specs.Stance.{by_number}
use Rattle.iio_bench.specs.Bench.{front_of}
use Rattle.iio_bench.specs.Guard.{client_by, own_input}
use Rattle.iio_bench.specs.Seat.{seen_of}
use Rattle.iio_bench.proofs.SaidLaws.{command_said, long_said, refused_said}
use Rattle.iio_bench.proofs.guard.may_say.Goals as goal

pub returns-in-Refused : goal.returns-in-Refused
returns-in-Refused g c x told = elim c.in-Refused.is [
  | inl is ↦ refused_said (λ (device : List ℕ). by_number (find_device (front_of c.args.bench.now) device)
      (own_input (front_of c.args.bench.now) (client_by seen_of c.args.own))) x (subst (λ (z : Seen). IsSeen x z) is told)
  | inr is ↦ long_said (λ (device : List ℕ). by_number (find_device (front_of c.args.bench.now) device)
      (own_input (front_of c.args.bench.now) (client_by seen_of c.args.own))) x (subst (λ (z : Seen). IsSeen x z) is told)
]

pub returns-in-Command : goal.returns-in-Command
returns-in-Command g c x told =
    c.may_ask.ensures
    ∙ command_said (λ (device : List ℕ). by_number (find_device (front_of c.args.bench.now) device)
    (own_input (front_of c.args.bench.now) (client_by seen_of c.args.own))) x c.in-Command.command (subst (λ (z : Seen). IsSeen x z) c.in-Command.is told)
