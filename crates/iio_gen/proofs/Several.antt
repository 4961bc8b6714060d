-- What is made for several numbers, one after another.
use Rattle.std.proofs.Common.{ℕ, zero, suc, ◌+◌, ◌<◌, ◌≤◌, List, ◌++◌, refl, sym, ap, ◌∙◌, arith, subst, add-one, append_assoc, append-nil}
use Rattle.iio_gen.specs.Generator.{Drawn}
use Rattle.iio_gen.specs.Input.{Appends, several}

-- what holds of a text, and stays true when the text for each number is appended, holds of the text with all of them
pub by_each : (make : ℕ → Drawn (List ℕ)) (P : ℕ → List ℕ → Type 0) (limit : ℕ) (front : List ℕ) → P 0 front
    → ((i : ℕ) (text : List ℕ) (x : ℕ) → i < limit → P i text → P (suc i) (text ++ (make i x).0))
    → (n x : ℕ) → n ≤ limit → P n (front ++ (several make n x).0)
unfolding several
by_each make P limit front first next zero x h = subst (P 0) (sym (append-nil front)) first
by_each make P limit front first next (suc n) x h =
    subst (P (suc n)) (append_assoc front (several make n x).0 (make n (several make n x).1).0)
    (next n (front ++ (several make n x).0) (several make n x).1 (omega arith) (by_each make P limit front first next n x (omega arith)))

-- ---- loops that append

pub appends_none : (make : ℕ → Drawn (List ℕ)) (state : ℕ) (out : List ℕ) → Appends (several make 0) state state out out
unfolding several
appends_none make state out = record { appended = sym (append-nil out); left = refl }

appends_next : (make : ℕ → Drawn (List ℕ)) (i state between after : ℕ) (out front whole : List ℕ) → Appends (several make i) state between out front
    → Appends (make i) between after front whole → Appends (several make (suc i)) state after out whole
unfolding several
appends_next make i state between after out front whole a b = record {
  appended =
      b.appended ∙ ap (λ t. t ++ (make i between).0) a.appended
      ∙ append_assoc out (several make i state).0 (make i between).0
      ∙ ap (λ y. out ++ ((several make i state).0 ++ (make i y).0)) a.left;
  left = b.left ∙ ap (λ y. (make i y).1) a.left;
}

pub appends_more : (make : ℕ → Drawn (List ℕ)) (i state between after : ℕ) (out front whole : List ℕ) → Appends (several make i) state between out front
    → Appends (make i) between after front whole → Appends (several make (i + 1)) state after out whole
appends_more make i state between after out front whole a b =
    subst (λ k. Appends (several make k) state after out whole) (sym (add-one i)) (appends_next make i state between after out front whole a b)
