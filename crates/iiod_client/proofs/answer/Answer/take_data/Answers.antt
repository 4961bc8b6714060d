use Rattle.std.proofs.Common.{◌≡◌, ℕ, ◌-◌, List, ◌++◌, take, sym, subst, ◌∙◌, arith}
use Rattle.std.proofs.lemmas.List.{length-take}
use Rattle.iiod_client.specs.declared.answer.Place.TheVariants.{Data}
use Rattle.iiod_client.specs.Standing.{AnswerRecord, Stands, StandsAt, IsSoundPlace}
use Rattle.iiod_client.specs.Steps.{AfterBytes}
use Rattle.iiod_client.specs.View.{asked_of}
use Rattle.iiod_client.proofs.Stands.{bytes_end, sound_bytes}
use Rattle.iiod_client.proofs.answer.Answer.take_data.Goals as goal

pub invariant_of-self : goal.invariant_of-self
invariant_of-self c =
    let a = c.self.inside in
    let at : a.place ≡ Data c.args.missing = subst (λ (x : AnswerRecord). x.place ≡ Data c.args.missing) (sym c.self.view_is) c.requires.place in
    let sound = subst (λ p. IsSoundPlace p (asked_of a) a.line.items a.body.items) at c.self.invariant.place in
    let after = c.after_bytes-self-inside.ensures a.mask.bits a.channels in
    record {
      room = omega (arith, c.self.invariant.room, c.keep.ensures.room);
      most = c.self.invariant.most;
      some = c.self.invariant.some;
      few = c.self.invariant.few;
      size = c.self.invariant.size;
      place =
          subst (λ xs. IsSoundPlace c.after_bytes-self-inside.result (asked_of a) a.line.items xs) c.deref.ensures.value
          (sound_bytes (asked_of a) _ a.line.items c.deref.result.now c.after_bytes-self-inside.result sound.2 after);
    }

pub returns-clause-stands : goal.returns-clause-stands
returns-clause-stands c text s =
    let a = c.self.inside in
    let p = c.after_bytes-self-inside.result in
    let n = c.min-count.result in
    let part = take n c.args.bytes.now in
    let back = sym c.self.view_is in
    let at : a.place ≡ Data c.args.missing = subst (λ (x : AnswerRecord). x.place ≡ Data c.args.missing) back c.requires.place in
    let sound = subst (λ p. IsSoundPlace p (asked_of a) a.line.items a.body.items) at c.self.invariant.place in
    let stands = subst (λ (x : AnswerRecord). Stands x text) back s in
    let grown : c.deref.result.now ≡ a.body.items ++ part = c.deref.ensures.value ∙ c.keep.ensures.items in
    let after = subst (λ xs. AfterBytes (asked_of a) (c.args.missing - n) xs p) grown (c.after_bytes-self-inside.ensures a.mask.bits a.channels) in
    subst (λ (xs : List ℕ). StandsAt p (asked_of a) a.line.items xs (text ++ part)) (sym c.keep.ensures.items)
    (bytes_end a.place (asked_of a) c.args.missing (c.args.missing - n) a.line.items a.body.items text part p at stands
    (omega (arith, c.min-count.ensures, length-take n c.args.bytes.now)) sound.2 after)
