use Rattle.std.proofs.Common.{refl, ap, sym, ◌∙◌}
use Rattle.iiod_session.proofs.HearLaws.{is_ended, not_ended}
use Rattle.iiod_session.proofs.session.Session.ended.Goals as goal

pub returns-in-Ended : goal.returns-in-Ended
returns-in-Ended g c = (
  λ t. sym (ap (λ s. s.stream) c.self.view_is) ∙ is_ended c.self.inside.lines c.self.inside.pending c.self.inside.left.items c.self.inside.going c.in-Ended.is,
  λ e. refl,
)

pub returns-in_default : goal.returns-in_default
returns-in_default g c = (
  λ t. cc,
  λ e. absurd (not_ended c.self.inside.lines c.self.inside.pending c.self.inside.left.items c.self.inside.going c.self.invariant c.in_default.not-Ended
      (ap (λ s. s.stream) c.self.view_is ∙ e)),
)
