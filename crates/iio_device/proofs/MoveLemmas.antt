-- Lists whose elements change one after another.
use Rattle.std.proofs.Common.{◌≡◌, ℕ, zero, suc, ◌+◌, ◌<◌, ◌≤◌, List, [], ◌∷◌, length, map, get_or, slice_set, subst, refl, sym, ap, ◌∙◌, arith}
use Rattle.std.specs.List.{All, AllZip}
use Rattle.std.proofs.lemmas.List.Elements.{All-get_or}
use Rattle.iio_device.specs.Moves.{MovedBelow}

module _ {A : Type 0} (R : A → A → Type 0) where
  -- another element has changed
  pub moved_more : (k : ℕ) (first now : List A) (x y d : A) → MovedBelow R k first now → k < length now → x ≡ get_or now k d → R x y
      → MovedBelow R (k + 1) first (slice_set now k y)
  moved_more zero first [] x y d moved within at r = absurd (omega arith)
  moved_more zero [] (z ∷ zs) x y d moved within at r = absurd (cc)
  moved_more zero (w ∷ ws) (z ∷ zs) x y d moved within at r =
      let head : x ≡ w = cc in
      let tail : zs ≡ ws = cc in
      (subst (λ a. R a y) head r, tail)
  moved_more (suc k) [] [] x y d moved within at r = absurd (omega arith)
  moved_more (suc k) [] (z ∷ zs) x y d moved within at r = absurd (cc)
  moved_more (suc k) (w ∷ ws) [] x y d moved within at r = absurd moved
  moved_more (suc k) (w ∷ ws) (z ∷ zs) x y d moved within at r =
      let more : suc k + 1 ≡ suc (k + 1) = omega arith in
      subst (λ n. MovedBelow R n (w ∷ ws) (z ∷ slice_set zs k y)) (sym more) (moved.0, moved_more k ws zs x y d moved.1 (omega arith) at r)

  -- all elements have changed
  pub moved_all : (k : ℕ) (first now : List A) → MovedBelow R k first now → length first ≤ k → AllZip R first now
  moved_all zero [] [] moved all = tt
  moved_all zero [] (y ∷ ys) moved all = absurd (cc)
  moved_all zero (x ∷ xs) now moved all = absurd (omega arith)
  moved_all (suc k) [] [] moved all = tt
  moved_all (suc k) [] (y ∷ ys) moved all = absurd (cc)
  moved_all (suc k) (x ∷ xs) [] moved all = moved
  moved_all (suc k) (x ∷ xs) (y ∷ ys) moved all = (moved.0, moved_all k xs ys moved.1 (omega arith))

  pub moved_length : (k : ℕ) (first now : List A) → MovedBelow R k first now → length now ≡ length first
  moved_length zero first now moved = ap length moved
  moved_length (suc k) [] now moved = ap length moved
  moved_length (suc k) (x ∷ xs) [] moved = absurd moved
  moved_length (suc k) (x ∷ xs) (y ∷ ys) moved = ap suc (moved_length k xs ys moved.1)

  -- the elements that haven't changed are as they were
  pub moved_rest : (k i : ℕ) (first now : List A) (d : A) → MovedBelow R k first now → k ≤ i → get_or now i d ≡ get_or first i d
  moved_rest zero i first now d moved after = ap (λ xs. get_or xs i d) moved
  moved_rest (suc k) i [] now d moved after = ap (λ xs. get_or xs i d) moved
  moved_rest (suc k) i (x ∷ xs) [] d moved after = absurd moved
  moved_rest (suc k) zero (x ∷ xs) (y ∷ ys) d moved after = absurd (omega arith)
  moved_rest (suc k) (suc i) (x ∷ xs) (y ∷ ys) d moved after = moved_rest k i xs ys d moved.1 (omega arith)

  -- what holds of all elements at first holds of the next one
  pub moved_next : (P : A → Type 0) (k : ℕ) (first now : List A) (x : A) → All P first → MovedBelow R k first now → k < length now → x ≡ get_or now k x → P x
  moved_next P k first now x all moved within at =
      let long = moved_length k first now moved in
      subst P (sym (at ∙ moved_rest k k first now x moved (omega arith))) (All-get_or P first k x (omega arith) all)

module _ {A : Type 0} (f : A → A) where
  -- each element changes by the same function
  pub zip_is_map : (xs ys : List A) → AllZip (λ x y. y ≡ f x) xs ys → ys ≡ map f xs
  zip_is_map [] [] zip = refl
  zip_is_map [] (y ∷ ys) zip = absurd zip
  zip_is_map (x ∷ xs) [] zip = absurd zip
  zip_is_map (x ∷ xs) (y ∷ ys) zip = rw (zip.0, zip_is_map xs ys zip.1) refl
