use Rattle.std.proofs.Common.{◌≡◌, ℕ, ◌≤◌, ℤ, List, [], ◌∷◌, ◌++◌, length, take, vec_len, Option, Some, None, option_map, ap, ◌∙◌, refl, sym, append_assoc, length-take, arith, rules}
use Rattle.std.proofs.lemmas.Int.{to_z-of_z}
use Rattle.std.proofs.lemmas.List.{take-append-le}
use mir.Val.{SFits}
use mir.Syntax.{w64}
use Rattle.iio_text.specs.Numbers.{int_of}
use Rattle.iio_text.specs.Words.{words_of, is_space}
use Rattle.iio_desc.specs.DeviceLines.{before, ints_of}
use Rattle.iio_desc.proofs.device_builder.push_ints.Goals as goal

-- a value that was read goes from the front of what is left to the end of what is done
regroup : (done : List ℤ) (v : ℤ) (left : Option (List ℤ)) → option_map (λ (vs : List ℤ). done ++ vs) (option_map (λ (vs : List ℤ). v ∷ vs) left)
    ≡ option_map (λ (vs : List ℤ). (done ++ v ∷ []) ++ vs) left
regroup done v None = refl
regroup done v (Some vs) = ap Some (rw append_assoc)

ints_of-cons : (w : List ℕ) (ws : List (List ℕ)) (v : ℤ) → int_of w ≡ Some v → ints_of (w ∷ ws) ≡ option_map (λ (vs : List ℤ). v ∷ vs) (ints_of ws)
ints_of-cons w ws v h = ap (λ (o : Option ℤ). before o (ints_of ws)) h

-- what stands in front stays there
front_kept : (old values : List ℤ) (v : ℤ) (n : ℕ) → n ≡ length old → take n values ≡ old → take n (values ++ v ∷ []) ≡ old
front_kept old values v n size h =
    let within : n ≤ length values = omega (arith, ap length h, length-take n values) in
    take-append-le n values (v ∷ []) within ∙ h

pub loop-word-preserved : goal.loop-word-preserved
loop-word-preserved c =
    let inv = c.loop-word.invariant in
    let v = c.in_ok-value.value in
    let done : List ℤ = c.loop-word.ints.items in
    let read : int_of c.in-Some.word.now ≡ Some v = sym c.read_int.ensures.value ∙ c.in_ok-value.ensures.ok_part in
    let fits : SFits w64 v = search rules in
    let pushed : c.push.new.self.items ≡ done ++ v ∷ [] = simp to_z-of_z at c.in_ok-push.ensures.items in
    let left = words_of is_space c.in-Some.more.now in
    let told = inv.told ∙ ap (λ (ws : List (List ℕ)). option_map (λ (vs : List ℤ). done ++ vs) (ints_of ws)) c.in-Some.ensures.found.words
    ∙ ap (option_map (λ (vs : List ℤ). done ++ vs)) (ints_of-cons c.in-Some.word.now left v read)
    ∙ regroup done v (ints_of left) in
    record {
      told = rw pushed told;
      before =
          rw pushed (front_kept c.args.ints.now.items done v (vec_len c.args.ints.now) (omega (arith, c.args.ints.now.ok.0)) inv.before);
    }
