use Rattle.std.proofs.Common.{refl, rules}
use Rattle.iio_io.proofs.list_door.ListDoor.call.Goals as goal

pub returns-then-listed-clause-call : goal.returns-then-listed-clause-call
returns-then-listed-clause-call g c =
    let here = c.is_listed-listed.ensures.0 c.if-listed.true in
    record {
      fails = (λ _. search rules, λ _. refl);
      ok = tt;
      err = search rules;
    }
