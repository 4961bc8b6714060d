use Rattle.std.proofs.Common.{ℕ, ◌-◌, ◌≤◌, length, ◌++◌, take, drop, sym, ap, subst, ◌∙◌, arith, append_assoc}
use Rattle.std.proofs.Math.Seq.{take-add}
use Rattle.std.proofs.lemmas.List.{length-drop, length-take, take-take}
use Rattle.iiod_client.specs.Standing.{Stands}
use Rattle.iiod_client.proofs.answer.Answer.feed.Goals as goal

pub loop-taken-preserved : goal.loop-taken-preserved
loop-taken-preserved c =
    let bytes = c.args.bytes.now in
    let done = c.loop-taken.taken in
    let n = c.take-taken.result in
    record {
      within = omega (arith, c.take-taken.ensures.within, length-drop {A = ℕ}, length-take {A = ℕ});
      bounded = omega (arith, c.take-taken.ensures.bounded, c.loop-taken.invariant.bounded);
      asked = c.take-taken.ensures.asked ∙ c.loop-taken.invariant.asked;
      stands = λ text s.
          let part = take (length bytes - done) (drop done bytes) in
          let few : n ≤ length bytes - done = omega (arith, c.take-taken.ensures.within, length-take {A = ℕ}) in
          subst (λ xs. Stands c.take-taken.new.self xs)
          (append_assoc text (take done bytes) (take n part)
          ∙ ap (λ xs. text ++ (take done bytes ++ xs)) (take-take n (length bytes - done) (drop done bytes) few)
          ∙ ap (λ xs. text ++ xs) (sym (take-add done n bytes)))
          (c.take-taken.ensures.stands (text ++ take done bytes) (c.loop-taken.invariant.stands text s));
    }
