-- An event that joins a queue with room, and channels one by one.
use Rattle.std.proofs.Common.{◌≡◌, ℕ, zero, suc, ◌+◌, ◌-◌, ◌<◌, List, [], ◌∷◌, ◌++◌, length, map, take, drop, Some, refl, sym, ap, ◌∙◌, arith, length-append, add-one}
use Rattle.std.specs.List.{slice_get}
use Rattle.circular_buffer.specs.Buffer.{keep_last}

pub keeps_all : {X : Type 0} (n : ℕ) (xs : List X) (x : X) → length xs < n → keep_last n (xs ++ x ∷ []) ≡ xs ++ x ∷ []
keeps_all n xs x room =
    let none : length (xs ++ x ∷ []) - n ≡ 0 = omega (arith, length-append xs (x ∷ [])) in
    ap (λ k. drop k (xs ++ x ∷ [])) none

take_more : {X : Type 0} (xs : List X) (n : ℕ) (x : X) → slice_get xs n ≡ Some x → take (suc n) xs ≡ take n xs ++ x ∷ []
take_more [] n x is = absurd cc
take_more (y ∷ ys) zero x is = ap (λ z. z ∷ []) cc
take_more (y ∷ ys) (suc n) x is = ap (λ zs. y ∷ zs) (take_more ys n x is)

map_append : {X Y : Type 0} (f : X → Y) (xs ys : List X) → map f (xs ++ ys) ≡ map f xs ++ map f ys
map_append f [] ys = refl
map_append f (x ∷ xs) ys = ap (λ zs. f x ∷ zs) (map_append f xs ys)

-- another item
pub map-take-more : {X Y : Type 0} (f : X → Y) (xs : List X) (n : ℕ) (x : X) → slice_get xs n ≡ Some x → map f (take n xs) ++ f x ∷ [] ≡ map f (take (n + 1) xs)
map-take-more f xs n x is = sym (rw add-one (ap (map f) (take_more xs n x is)) ∙ map_append f (take n xs) (x ∷ []))
