use Rattle.std.proofs.Common.{◌≡◌, ℕ, List, [], ◌∷◌, ◌++◌, sym, subst}
use Rattle.iiod_client.specs.declared.answer.State.TheVariants.{More}
use Rattle.iiod_client.specs.declared.answer.Place.TheVariants.{Data}
use Rattle.iiod_client.specs.Standing.{AnswerRecord, Stands, StandsAt, state_of}
use Rattle.iiod_client.specs.Steps.{AfterLine}
use Rattle.iiod_client.specs.View.{asked_of}
use Rattle.iiod_client.proofs.Stands.{line_end}
use Rattle.iiod_client.proofs.answer.Answer.end_line.Goals as goal

pub returns-clause-stands : goal.returns-clause-stands
returns-clause-stands c text s =
    let a = c.self.inside in
    let p = c.after_line-self-inside.result in
    let back = sym c.self.view_is in
    let more = subst (λ (x : AnswerRecord). state_of x.place ≡ More) back c.requires.more in
    let line = subst (λ (x : AnswerRecord). (missing : ℕ) → x.place ≡ Data missing → ⊥) back c.requires.line in
    let stands = subst (λ (x : AnswerRecord). Stands x text) back s in
    subst (λ (xs : List ℕ). StandsAt p (asked_of a) xs a.body.items (text ++ 10 ∷ [])) (sym c.clear.ensures)
    (line_end a.place (asked_of a) a.line.items a.body.items text p more line stands
    (subst (λ (x : AnswerRecord). AfterLine x p) back c.after_line-self-inside.ensures.after))
