-- What stays visible over several reads or writes.
use Rattle.std.proofs.Common.{◌≡◌, ℕ, ◌+◌, ◌≤◌, List, [], ◌++◌, length, take, drop, Option, Some, None, IfSome, IfNone, sym, ap, ◌∙◌, subst, arith, append_assoc}
use Rattle.std.proofs.Math.Seq.{take-add}
use Rattle.std.proofs.lemmas.List.{drop-drop, length-drop, length-take-le, take-append-le, take-take, take_all, drop_all}
use Rattle.iio_io.specs.Bytes.{Takes, TakesUpTo}

-- if the bytes written are visible, those after `before` are the first `done` of `bytes`
abbrev pub WroteSoFar : Option (List ℕ) → List ℕ → ℕ → Option (List ℕ) → Type 0
WroteSoFar before bytes done mid = IfSome before (λ xs. mid ≡ Some (xs ++ take done bytes))

-- if the bytes left are visible, the first `n` of them are `items`, and the others are left
abbrev pub ReadSoFar : Option (List ℕ) → List ℕ → ℕ → Option (List ℕ) → Type 0
ReadSoFar before items n mid = IfSome before (λ xs. (items ≡ take n xs) × (mid ≡ Some (drop n xs)) × (n ≤ length xs))

-- what isn't visible stays so
pub silent_more : (before mid after : Option (List ℕ)) → IfNone before (mid ≡ None) → IfNone mid (after ≡ None)
    → IfNone before (after ≡ None)
silent_more None mid after h k = subst (λ (m : Option (List ℕ)). IfNone m (after ≡ None)) h k
silent_more (Some xs) mid after h k = tt

-- another write, of the `piece` bytes from `done` on
pub WroteSoFar-more : (before mid after : Option (List ℕ)) (bytes : List ℕ) (done n piece : ℕ)
    → WroteSoFar before bytes done mid → n ≤ piece
    → IfSome mid (λ ys. after ≡ Some (ys ++ take n (take piece (drop done bytes))))
    → WroteSoFar before bytes (done + n) after
WroteSoFar-more None mid after bytes done n piece h few k = tt
WroteSoFar-more (Some xs) mid after bytes done n piece h few k =
    let rest = take-take n piece (drop done bytes) few in
    let wrote = subst (λ (m : Option (List ℕ)). IfSome m (λ ys. after ≡ Some (ys ++ take n (take piece (drop done bytes))))) h k in
    wrote ∙ ap Some (ap (λ ys. (xs ++ take done bytes) ++ ys) rest ∙ append_assoc xs (take done bytes) (take n (drop done bytes))
    ∙ ap (λ ys. xs ++ ys) (sym (take-add done n bytes)))

-- another read, into the front `piece` of a longer one
pub ReadSoFar-more : (before mid after : Option (List ℕ)) (items piece unread items' : List ℕ) (n k n' : ℕ)
    → ReadSoFar before items n mid → k ≤ length piece → IfSome mid (λ ys. Takes ys piece k after)
    → items' ≡ items ++ take k (piece ++ unread) → n' ≡ n + length (take k (piece ++ unread))
    → ReadSoFar before items' n' after
ReadSoFar-more None mid after items piece unread items' n k n' h le t e m = tt
ReadSoFar-more (Some xs) mid after items piece unread items' n k n' h le t e m =
    let taken = subst (λ (y : Option (List ℕ)). IfSome y (λ ys. Takes ys piece k after)) h.1 t in
    let cut = take-append-le k piece unread le in
    let count : n' ≡ n + k = omega (arith, m, ap length cut, length-take-le k piece le) in
    let all = length-drop n xs in (
      e ∙ ap (λ ys. items ++ ys) (cut ∙ taken.bytes) ∙ ap (λ ys. ys ++ take k (drop n xs)) h.0 ∙ sym (take-add n k xs) ∙ ap (λ c. take c xs) (sym count),
      taken.rest ∙ ap Some (drop-drop k n xs ∙ ap (λ c. drop c xs) (sym count)),
      omega (arith, h.2, taken.enough, count),
    )

-- what was read up to the limit is all there is up to it
pub TakesUpTo-full : (before mid last : Option (List ℕ)) (items : List ℕ) (n most : ℕ)
    → ReadSoFar before items n mid → most ≡ n → last ≡ mid → IfSome before (λ xs. TakesUpTo xs most items last)
TakesUpTo-full None mid last items n most h e same = tt
TakesUpTo-full (Some xs) mid last items n most h e same = record {
  bytes = rw e h.0;
  rest = same ∙ rw e h.1;
}

-- what was read to the end is all there is up to the limit
pub TakesUpTo-end : (before mid after last : Option (List ℕ)) (items piece : List ℕ) (n k most : ℕ)
    → ReadSoFar before items n mid → n ≤ most → k ≡ 0 → IfSome mid (λ ys. Takes ys piece k after) → IfSome mid (λ ys. ys ≡ [])
    → last ≡ after → IfSome before (λ xs. TakesUpTo xs most items last)
TakesUpTo-end None mid after last items piece n k most h le z t e same = tt
TakesUpTo-end (Some xs) mid after last items piece n k most h le z t e same =
    let taken = subst (λ (m : Option (List ℕ)). IfSome m (λ ys. Takes ys piece k after)) h.1 t in
    let none = subst (λ (m : Option (List ℕ)). IfSome m (λ ys. ys ≡ [])) h.1 e in
    let all : length xs ≤ n = omega (arith, length-drop n xs, ap length none) in
    record {
      bytes = h.0 ∙ take_all n xs all ∙ sym (take_all most xs (omega arith));
      rest = same ∙ taken.rest ∙ ap Some (drop_all k (drop n xs) (omega (arith, ap length none)) ∙ sym (drop_all most xs (omega arith)));
    }
