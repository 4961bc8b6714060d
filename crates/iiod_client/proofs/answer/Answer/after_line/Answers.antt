use Rattle.std.proofs.Common.{◌≡◌, ℕ, [], sym, subst}
use Rattle.iiod_client.specs.declared.answer.State.TheVariants.{More}
use Rattle.iiod_client.specs.declared.answer.Place.TheVariants.{Data}
use Rattle.iiod_client.specs.Standing.{AnswerRecord, IsSoundPlace, state_of}
use Rattle.iiod_client.specs.Steps.{AfterLine}
use Rattle.iiod_client.specs.View.{asked_of}
use Rattle.iiod_client.proofs.Stands.{is_mask_line, is_length_line, sound_length, sound_mask_line}
use Rattle.iiod_client.proofs.answer.Answer.after_line.Goals as goal

pub returns-in-Mask-clause-after : goal.returns-in-Mask-clause-after
returns-in-Mask-clause-after c =
    let a = c.self.inside in
    subst (λ (x : AnswerRecord). AfterLine x c.after_mask.result) c.self.view_is
    (is_mask_line a.place (asked_of a) c.in-Mask.n a.line.items c.as_slice.result.now a.body.items c.after_mask.result c.in-Mask.is c.as_slice.ensures.value
    (c.after_mask.ensures a.asked a.size))

pub returns-in-Mask-clause-sound : goal.returns-in-Mask-clause-sound
returns-in-Mask-clause-sound c =
    let a = c.self.inside in
    subst (λ (x : AnswerRecord). IsSoundPlace c.after_mask.result x.asked [] x.body) c.self.view_is
    (sound_mask_line a.place (asked_of a) c.in-Mask.n c.as_slice.result.now a.line.items a.body.items c.after_mask.result c.in-Mask.is c.self.invariant.place
    (c.after_mask.ensures a.asked a.size))

pub returns : goal.returns
returns c =
    let a = c.self.inside in
    let after = c.after_length.ensures a.mask.bits a.channels in
    let more = subst (λ (x : AnswerRecord). state_of x.place ≡ More) (sym c.self.view_is) c.requires.more in
    let line = subst (λ (x : AnswerRecord). (missing : ℕ) → x.place ≡ Data missing → ⊥) (sym c.self.view_is) c.requires.line in
    record {
      after = subst (λ (x : AnswerRecord). AfterLine x c.after_length.result) c.self.view_is
          (is_length_line a.place (asked_of a) a.line.items c.as_slice-2.result.now a.body.items c.deref.result.now c.after_length.result more line
          c.in_default.not-Mask c.as_slice-2.ensures.value c.deref.ensures.value after);
      sound = subst (λ (x : AnswerRecord). IsSoundPlace c.after_length.result x.asked [] x.body) c.self.view_is
          (subst (λ xs. IsSoundPlace c.after_length.result (asked_of a) [] xs) c.deref.ensures.value
          (sound_length (asked_of a) c.as_slice-2.result.now c.deref.result.now c.after_length.result after));
    }
