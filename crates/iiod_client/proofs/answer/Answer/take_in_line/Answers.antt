use Rattle.std.proofs.Common.{◌≡◌, ℕ, sym, subst, ◌∙◌}
use Rattle.iiod_client.specs.declared.answer.State.TheVariants.{More}
use Rattle.iiod_client.specs.declared.answer.Place.TheVariants.{Data}
use Rattle.iiod_client.specs.Standing.{AnswerRecord, Stands, state_of}
use Rattle.iiod_client.specs.View.{asked_of}
use Rattle.iiod_client.proofs.Stands.{line_long, on_err}
use Rattle.iiod_client.proofs.answer.Answer.take_in_line.Goals as goal

pub returns-then-is_err-clause-stands : goal.returns-then-is_err-clause-stands
returns-then-is_err-clause-stands c text s =
    let a = c.self.inside in
    let back = sym c.self.view_is in
    let more = subst (λ (x : AnswerRecord). state_of x.place ≡ More) back c.requires.more in
    let line = subst (λ (x : AnswerRecord). (missing : ℕ) → x.place ≡ Data missing → ⊥) back c.requires.line in
    let stands = subst (λ (x : AnswerRecord). Stands x text) back s in
    line_long a.place (asked_of a) a.line.items a.body.items text c.args.byte more line stands c.if-byte-eq10.false
    (on_err c.try_push.result _ (sym c.is_err.ensures.value ∙ c.if-is_err.true) c.try_push.ensures.full)
