use Rattle.std.proofs.Common.{ap, ◌∙◌}
use Rattle.std.specs.Prelude.{is_some}
use Rattle.iiod_session.proofs.session.Session.holds.Goals as goal

pub returns : goal.returns
returns g c seen =
    rw (← c.self.view_is)
    (c.is_some.ensures ∙ ap is_some (rw c.deref.ensures.value at c.place.ensures.place seen))
