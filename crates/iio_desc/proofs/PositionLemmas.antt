-- Where a device of a name stands among the devices of all kinds.
use Rattle.std.proofs.Common.{◌≡◌, ℕ, suc, ◌+◌, Bool, true, false, cond, List, [], ◌∷◌, ◌++◌, map, length, position, Option, Some, None, option_map, refl, sym, ap, ◌∙◌, arith}
use Rattle.std.specs.List.{position_from}
use Rattle.std.proofs.lemmas.Iterator.Adapters.{position_from-zero}

module _ {A : Type 0} (p : A → Bool) where
  from_zero : (xs : List A) → position p xs ≡ position_from p 0 xs
  from_zero xs = position_from-zero p xs

  -- places are counted from another number
  counted_by : (i j : ℕ) (xs : List A) (b : Bool) → position_from p (i + (j + 1)) xs ≡ option_map (λ k. i + k) (position_from p (j + 1) xs)
      → cond b (Some (i + j)) (position_from p (i + j + 1) xs) ≡ option_map (λ k. i + k) (cond b (Some j) (position_from p (j + 1) xs))
  counted_by i j xs true next = refl
  counted_by i j xs false next = ap (λ n. position_from p n xs) (omega arith) ∙ next

  counted_from : (i j : ℕ) (xs : List A) → position_from p (i + j) xs ≡ option_map (λ k. i + k) (position_from p j xs)
  counted_from i j [] = refl
  counted_from i j (x ∷ xs) = counted_by i j xs (p x) (counted_from i (j + 1) xs)

  -- an element of the first list, or no element of it and one of the second
  first_by : (i k : ℕ) (xs ys : List A) (b : Bool) → (position_from p (i + 1) xs ≡ Some k → position_from p (i + 1) (xs ++ ys) ≡ Some k)
      → cond b (Some i) (position_from p (i + 1) xs) ≡ Some k → cond b (Some i) (position_from p (i + 1) (xs ++ ys)) ≡ Some k
  first_by i k xs ys true next is = is
  first_by i k xs ys false next is = next is

  found_first : (i k : ℕ) (xs ys : List A) → position_from p i xs ≡ Some k → position_from p i (xs ++ ys) ≡ Some k
  found_first i k [] ys is = cc
  found_first i k (x ∷ xs) ys is = first_by i k xs ys (p x) (found_first (i + 1) k xs ys) is

  then_by : (i : ℕ) (x : A) (xs ys : List A) (b : Bool)
      → (position_from p (i + 1) xs ≡ None → position_from p (i + 1) (xs ++ ys) ≡ position_from p (i + 1 + length xs) ys)
      → cond b (Some i) (position_from p (i + 1) xs) ≡ None → cond b (Some i) (position_from p (i + 1) (xs ++ ys)) ≡ position_from p (i + length (x ∷ xs)) ys
  then_by i x xs ys true next is = cc
  then_by i x xs ys false next is = next is ∙ ap (λ n. position_from p n ys) (omega arith)

  found_then : (i : ℕ) (xs ys : List A) → position_from p i xs ≡ None → position_from p i (xs ++ ys) ≡ position_from p (i + length xs) ys
  found_then i [] ys is = ap (λ n. position_from p n ys) (omega arith)
  found_then i (x ∷ xs) ys is = then_by i x xs ys (p x) (found_then (i + 1) xs ys) is

  pub position_first : (k : ℕ) (xs ys : List A) → position p xs ≡ Some k → position p (xs ++ ys) ≡ Some k
  position_first k xs ys is = from_zero (xs ++ ys) ∙ found_first 0 k xs ys (sym (from_zero xs) ∙ is)

  pub position_then : (xs ys : List A) → position p xs ≡ None → position p (xs ++ ys) ≡ option_map (λ k. length xs + k) (position p ys)
  position_then xs ys is =
      from_zero (xs ++ ys) ∙ found_then 0 xs ys (sym (from_zero xs) ∙ is) ∙ ap (λ n. position_from p n ys) (omega arith) ∙ counted_from (length xs) 0 ys
      ∙ ap (option_map (λ k. length xs + k)) (sym (from_zero ys))

position_map_from : {A B : Type 0} (f : A → B) (p : B → Bool) (i : ℕ) (xs : List A) → position_from p i (map f xs) ≡ position_from (λ x. p (f x)) i xs
position_map_from f p i [] = refl
position_map_from f p i (x ∷ xs) = ap (λ o. cond (p (f x)) (Some i) o) (position_map_from f p (i + 1) xs)

pub position_map : {A B : Type 0} (f : A → B) (p : B → Bool) (xs : List A) → position p (map f xs) ≡ position (λ x. p (f x)) xs
position_map f p xs = from_zero p (map f xs) ∙ position_map_from f p 0 xs ∙ sym (from_zero (λ x. p (f x)) xs)

length_map_is : {A B : Type 0} (f : A → B) (xs : List A) → length (map f xs) ≡ length xs
length_map_is f [] = refl
length_map_is f (x ∷ xs) = ap suc (length_map_is f xs)

-- the place of an element in three lists, one after the other
module _ {A B C H : Type 0} (f : A → H) (g : B → H) (h : C → H) (p : H → Bool) (xs : List A) (ys : List B) (zs : List C) where
  pub of_first : (k : ℕ) → Some k ≡ position (λ x. p (f x)) xs → Some k ≡ position p (map f xs ++ (map g ys ++ map h zs))
  of_first k is = sym (position_first p k (map f xs) (map g ys ++ map h zs) (position_map f p xs ∙ sym is))

  after_first : None ≡ position (λ x. p (f x)) xs
      → position p (map f xs ++ (map g ys ++ map h zs)) ≡ option_map (λ k. length xs + k) (position p (map g ys ++ map h zs))
  after_first none =
      position_then p (map f xs) (map g ys ++ map h zs) (position_map f p xs ∙ sym none)
      ∙ ap (λ n. option_map (λ k. n + k) (position p (map g ys ++ map h zs))) (length_map_is f xs)

  pub of_second : (k : ℕ) → None ≡ position (λ x. p (f x)) xs → Some k ≡ position (λ x. p (g x)) ys
      → Some (length xs + k) ≡ position p (map f xs ++ (map g ys ++ map h zs))
  of_second k none is =
      sym (after_first none ∙ ap (option_map (λ n. length xs + n)) (position_first p k (map g ys) (map h zs) (position_map g p ys ∙ sym is)))

  pub of_third : (o : Option ℕ) → None ≡ position (λ x. p (f x)) xs → None ≡ position (λ x. p (g x)) ys → o ≡ position (λ x. p (h x)) zs
      → option_map (λ k. length xs + (length ys + k)) o ≡ position p (map f xs ++ (map g ys ++ map h zs))
  of_third o none none_of_second is =
      by_option o ∙ ap (λ r. option_map (λ k. length xs + k) (option_map (λ k. length ys + k) r)) (is ∙ sym (position_map h p zs))
      ∙ sym (after_first none ∙ ap (option_map (λ n. length xs + n)) (position_then p (map g ys) (map h zs) (position_map g p ys ∙ sym none_of_second)
      ∙ ap (λ n. option_map (λ k. n + k) (position p (map h zs))) (length_map_is g ys)))
    where
      by_option : (r : Option ℕ) → option_map (λ k. length xs + (length ys + k)) r ≡ option_map (λ k. length xs + k) (option_map (λ k. length ys + k) r)
      by_option None = refl
      by_option (Some k) = refl
