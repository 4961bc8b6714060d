-- Lists in which no element passes a test.
use Rattle.std.proofs.Common.{◌≡◌, ℕ, zero, suc, ◌<◌, Bool, true, false, ◌||◌, List, [], ◌∷◌, length, get_or, refl, arith}
use Rattle.std.specs.List.{list_any}

or_false : (a b : Bool) → (a || b) ≡ false → (a ≡ false) × (b ≡ false)
or_false true b h = (h, cc)
or_false false b h = (refl, h)

-- if no element passes a test, the element at a place doesn't
pub none_at : {A : Type 0} (p : A → Bool) (xs : List A) → list_any p xs ≡ false → (k : ℕ) (d : A) → k < length xs → p (get_or xs k d) ≡ false
none_at p [] h k d lt = absurd (omega arith)
none_at p (x ∷ xs) h zero d lt = (or_false (p x) (list_any p xs) h).0
none_at p (x ∷ xs) h (suc k) d lt = none_at p xs (or_false (p x) (list_any p xs) h).1 k d (omega arith)
