-- Lists in which no two elements have the same key: groups by their masks, members by their numbers.
use Rattle.std.proofs.Common.{◌≡◌, ◌==◌, ◌||◌, ◌&&◌, ℕ, zero, suc, ◌+◌, ◌<◌, Bool, true, false, not, List, [], ◌∷◌, ◌++◌, length, find, Some, take, drop, get_or, slice_set, map, filter, if◌then◌else◌, subst, refl, sym, ap, ◌∙◌, arith}
use Rattle.std.specs.Bool.{⊤}
use Rattle.std.proofs.lemmas.Bool.{false≢true}
use Rattle.std.specs.List.{AllByRecursion, IsDistinct, list_any}
use Rattle.std.proofs.lemmas.List.Folds.{list_any-append}

pub eq_flips : (a b : ℕ) → (a == b) ≡ (b == a)
eq_flips a b = by (a == b) refl (b == a) refl
  where
    by : (x : Bool) → (a == b) ≡ x → (y : Bool) → (b == a) ≡ y → x ≡ y
    by true e true f = refl
    by false e false f = refl
    by true e false f = grind (arith, e, f)
    by false e true f = grind (arith, e, f)

pub eq_same : (a b : ℕ) → a ≡ b → (a == b) ≡ true
eq_same a b e = grind (arith, e)

or_left : (a b : Bool) → (a || b) ≡ false → a ≡ false
or_left true b none = none
or_left false b none = refl

or_right : (a b : Bool) → (a || b) ≡ false → b ≡ false
or_right true b none = absurd (cc)
or_right false b none = none

or_true : (b : Bool) → (b || true) ≡ true
or_true true = refl
or_true false = refl

or_false : (b : Bool) → (b || false) ≡ b
or_false true = refl
or_false false = refl

module _ {A : Type 0} (key : A → ℕ) where
  abbrev pub has_key : List A → ℕ → Bool
  has_key xs k = list_any (λ x. key x == k) xs

  abbrev pub AreDistinct : List A → Type 0
  AreDistinct xs = IsDistinct (λ a b. a == b) (map key xs)

  -- a change that keeps the keys of elements keeps which keys are there
  pub kept_key : (f : A → A) → ((x : A) → key (f x) ≡ key x) → (xs : List A) (k : ℕ) → has_key (map f xs) k ≡ has_key xs k
  kept_key f keeps [] k = refl
  kept_key f keeps (x ∷ xs) k = rw (keeps x, kept_key f keeps xs k) refl

  -- ---- the same, by whether a key is there

  abbrev AreApart : List A → Type 0
  AreApart [] = ⊤
  AreApart (x ∷ xs) = (has_key xs (key x) ≡ false) × AreApart xs

  none_equal : (xs : List A) (k : ℕ) → has_key xs k ≡ false → AllByRecursion (λ y. (k == y) ≡ false) (map key xs)
  none_equal [] k none = tt
  none_equal (x ∷ xs) k none = by (key x == k) refl none (λ n. none_equal xs k n)
    where
      by : (b : Bool) → (key x == k) ≡ b → (b || has_key xs k) ≡ false → (has_key xs k ≡ false → AllByRecursion (λ y. (k == y) ≡ false) (map key xs))
          → AllByRecursion (λ y. (k == y) ≡ false) (map key (x ∷ xs))
      by true e n later = absurd (cc)
      by false e n later = (eq_flips k (key x) ∙ e, later n)

  equal_none : (xs : List A) (k : ℕ) → AllByRecursion (λ y. (k == y) ≡ false) (map key xs) → has_key xs k ≡ false
  equal_none [] k all = refl
  equal_none (x ∷ xs) k all =
      let first : (key x == k) ≡ false = eq_flips (key x) k ∙ all.0 in
      let rest = equal_none xs k all.1 in
      rw (first, rest) refl

  to_distinct : (xs : List A) → AreApart xs → AreDistinct xs
  unfolding IsDistinct
  to_distinct [] apart = tt
  to_distinct (x ∷ xs) apart = (none_equal xs (key x) apart.0, to_distinct xs apart.1)

  to_apart : (xs : List A) → AreDistinct xs → AreApart xs
  unfolding IsDistinct
  to_apart [] distinct = tt
  to_apart (x ∷ xs) distinct = (equal_none xs (key x) distinct.0, to_apart xs distinct.1)

  -- ---- what keeps elements apart

  apart_map : (f : A → A) → ((x : A) → key (f x) ≡ key x) → (xs : List A) → AreApart xs → AreApart (map f xs)
  apart_map f keeps [] apart = tt
  apart_map f keeps (x ∷ xs) apart = (kept_key f keeps xs (key (f x)) ∙ ap (has_key xs) (keeps x) ∙ apart.0, apart_map f keeps xs apart.1)

  apart_push : (xs : List A) (y : A) → AreApart xs → has_key xs (key y) ≡ false → AreApart (xs ++ y ∷ [])
  apart_push [] y apart new = (refl, tt)
  apart_push (x ∷ xs) y apart new = by (key x == key y) refl new (λ n. apart_push xs y apart.1 n)
    where
      by : (b : Bool) → (key x == key y) ≡ b → (b || has_key xs (key y)) ≡ false → (has_key xs (key y) ≡ false → AreApart (xs ++ y ∷ []))
          → AreApart (x ∷ xs ++ y ∷ [])
      by true e n later = absurd (cc)
      by false e n later =
          let other : (key y == key x) ≡ false = eq_flips (key y) (key x) ∙ e in
          let first = apart.0 in
          (list_any-append (λ z. key z == key x) xs (y ∷ []) ∙ rw (first, other) refl, later n)

  less_key : (test : A → Bool) (xs : List A) (k : ℕ) → has_key xs k ≡ false → has_key (filter test xs) k ≡ false
  less_key test [] k none = none
  less_key test (x ∷ xs) k none = by (test x) (key x == k) refl none (λ n. less_key test xs k n)
    where
      by : (b e : Bool) → (key x == k) ≡ e → (e || has_key xs k) ≡ false → (has_key xs k ≡ false → has_key (filter test xs) k ≡ false)
          → has_key (if b then x ∷ filter test xs else filter test xs) k ≡ false
      by b true te n later = absurd (cc)
      by true false te n later = rw te (later n)
      by false false te n later = later n

  apart_filter : (test : A → Bool) (xs : List A) → AreApart xs → AreApart (filter test xs)
  apart_filter test [] apart = tt
  apart_filter test (x ∷ xs) apart = by (test x) (less_key test xs (key x) apart.0) (apart_filter test xs apart.1)
    where
      by : (b : Bool) → has_key (filter test xs) (key x) ≡ false → AreApart (filter test xs) → AreApart (if b then x ∷ filter test xs else filter test xs)
      by true none rest = (none, rest)
      by false none rest = rest

  pub distinct_nil : AreDistinct []
  distinct_nil = to_distinct [] tt

  pub distinct_map : (f : A → A) → ((x : A) → key (f x) ≡ key x) → (xs : List A) → AreDistinct xs → AreDistinct (map f xs)
  distinct_map f keeps xs distinct = to_distinct (map f xs) (apart_map f keeps xs (to_apart xs distinct))

  pub distinct_push : (xs : List A) (y : A) → AreDistinct xs → has_key xs (key y) ≡ false → AreDistinct (xs ++ y ∷ [])
  distinct_push xs y distinct new = to_distinct (xs ++ y ∷ []) (apart_push xs y (to_apart xs distinct) new)

  pub distinct_filter : (test : A → Bool) (xs : List A) → AreDistinct xs → AreDistinct (filter test xs)
  distinct_filter test xs distinct = to_distinct (filter test xs) (apart_filter test xs (to_apart xs distinct))

  -- ---- an element is removed

  all_kept : (xs : List A) (k : ℕ) → has_key xs k ≡ false → filter (λ y. not (key y == k)) xs ≡ xs
  all_kept [] k none = refl
  all_kept (x ∷ xs) k none = by (key x == k) refl none (λ n. all_kept xs k n)
    where
      by : (b : Bool) → (key x == k) ≡ b → (b || has_key xs k) ≡ false → (has_key xs k ≡ false → filter (λ y. not (key y == k)) xs ≡ xs)
          → (if not b then x ∷ filter (λ y. not (key y == k)) xs else filter (λ y. not (key y == k)) xs) ≡ x ∷ xs
      by true e n later = absurd (cc)
      by false e n later = ap (λ zs. x ∷ zs) (later n)

  absent_at : (xs : List A) (k : ℕ) (q : ℕ) (x : A) → has_key xs q ≡ false → k < length xs → x ≡ get_or xs k x → (key x == q) ≡ false
  absent_at [] k q x none within at = absurd (omega arith)
  absent_at (z ∷ zs) zero q x none within at = subst (λ y. (key y == q) ≡ false) (sym at) (or_left (key z == q) (has_key zs q) none)
  absent_at (z ∷ zs) (suc k) q x none within at = absent_at zs k q x (or_right (key z == q) (has_key zs q) none) (omega arith) at

  removed_apart : (xs : List A) (k : ℕ) (x : A) → AreApart xs → k < length xs → x ≡ get_or xs k x
      → take k xs ++ drop (k + 1) xs ≡ filter (λ y. not (key y == key x)) xs
  removed_apart [] k x apart within at = absurd (omega arith)
  removed_apart (z ∷ zs) zero x apart within at =
      let same : (key z == key x) ≡ true = eq_same (key z) (key x) (ap key (sym at)) in
      let rest = all_kept zs (key x) (subst (λ q. has_key zs q ≡ false) (ap key (sym at)) apart.0) in
      rw (same) (sym rest)
  removed_apart (z ∷ zs) (suc k) x apart within at =
      let other : (key z == key x) ≡ false = eq_flips (key z) (key x) ∙ absent_at zs k (key z) x apart.0 (omega arith) at in
      let more : suc k + 1 ≡ suc (k + 1) = omega arith in
      let rest = removed_apart zs k x apart.1 (omega arith) at in
      subst (λ n. z ∷ take k zs ++ drop n (z ∷ zs) ≡ filter (λ y. not (key y == key x)) (z ∷ zs)) (sym more) (rw (other) (ap (λ ys. z ∷ ys) rest))

  -- the elements that stay are those of other keys
  pub removed_is : (xs : List A) (k : ℕ) (x : A) → AreDistinct xs → k < length xs → x ≡ get_or xs k x
      → take k xs ++ drop (k + 1) xs ≡ filter (λ y. not (key y == key x)) xs
  removed_is xs k x distinct within at = removed_apart xs k x (to_apart xs distinct) within at

  -- ---- an element is changed

  -- if no element has the key, none is changed
  none_changed : (f : A → A) (xs : List A) (k : ℕ) → has_key xs k ≡ false → map (λ y. if key y == k then f y else y) xs ≡ xs
  none_changed f [] k none = refl
  none_changed f (x ∷ xs) k none =
      let first = or_left (key x == k) (has_key xs k) none in
      let rest = none_changed f xs k (or_right (key x == k) (has_key xs k) none) in
      rw (first, rest) refl

  changed_apart : (f : A → A) (xs : List A) (k : ℕ) (x : A) → AreApart xs → k < length xs → x ≡ get_or xs k x
      → slice_set xs k (f x) ≡ map (λ y. if key y == key x then f y else y) xs
  changed_apart f [] k x apart within at = absurd (omega arith)
  changed_apart f (z ∷ zs) zero x apart within at =
      let same : (key z == key x) ≡ true = eq_same (key z) (key x) (ap key (sym at)) in
      let rest = none_changed f zs (key x) (subst (λ q. has_key zs q ≡ false) (ap key (sym at)) apart.0) in
      rw (same, rest) (ap (λ y. f y ∷ zs) at)
  changed_apart f (z ∷ zs) (suc k) x apart within at =
      let other : (key z == key x) ≡ false = eq_flips (key z) (key x) ∙ absent_at zs k (key z) x apart.0 (omega arith) at in
      rw other (ap (λ ys. z ∷ ys) (changed_apart f zs k x apart.1 (omega arith) at))

  -- the element of that key is changed, and the others stay
  pub changed_is : (f : A → A) (xs : List A) (k : ℕ) (x : A) → AreDistinct xs → k < length xs → x ≡ get_or xs k x
      → slice_set xs k (f x) ≡ map (λ y. if key y == key x then f y else y) xs
  changed_is f xs k x distinct within at = changed_apart f xs k x (to_apart xs distinct) within at

  -- a key that no element has isn't a key of some of them either
  pub none_fewer : (test : A → Bool) (xs : List A) (k : ℕ) → has_key xs k ≡ false → has_key (filter test xs) k ≡ false
  none_fewer test xs k none = less_key test xs k none

  -- ---- the element at a place

  there_at : (xs : List A) (k : ℕ) (d : A) → k < length xs → has_key xs (key (get_or xs k d)) ≡ true
  there_at [] k d within = absurd (omega arith)
  there_at (x ∷ xs) zero d within = let same = eq_same (key x) (key x) refl in rw same refl
  there_at (x ∷ xs) (suc k) d within = let later = there_at xs k d (omega arith) in rw later (or_true (key x == key (get_or xs k d)))

  pub has_at : (xs : List A) (k n : ℕ) → k < length xs → ((d : A) → key (get_or xs k d) ≡ n) → has_key xs n ≡ true
  has_at [] k n within at = absurd (omega arith)
  has_at (x ∷ xs) k n within at = subst (λ q. has_key (x ∷ xs) q ≡ true) (at x) (there_at (x ∷ xs) k x within)

  other_key : (x : A) (xs : List A) (k : ℕ) (d : A) → has_key xs (key x) ≡ false → k < length xs → (key x == key (get_or xs k d)) ≡ false
  other_key x xs k d none within = by (key x == key (get_or xs k d)) refl
    where
      by : (b : Bool) → (key x == key (get_or xs k d)) ≡ b → b ≡ false
      by true e =
          let same : key x ≡ key (get_or xs k d) = grind (arith, e) in
          absurd (false≢true (sym none ∙ ap (has_key xs) same ∙ there_at xs k d within))
      by false e = refl

  found_apart : (xs : List A) (k : ℕ) (d : A) → AreApart xs → k < length xs → find (λ x. key x == key (get_or xs k d)) xs ≡ Some (get_or xs k d)
  found_apart [] k d apart within = absurd (omega arith)
  found_apart (x ∷ xs) zero d apart within = let same = eq_same (key x) (key x) refl in rw same refl
  found_apart (x ∷ xs) (suc k) d apart within =
      let other = other_key x xs k d apart.0 (omega arith) in
      rw other (found_apart xs k d apart.1 (omega arith))

  -- it is the one that is found by its key
  pub found_at : (xs : List A) (k : ℕ) (d : A) → AreDistinct xs → k < length xs → find (λ x. key x == key (get_or xs k d)) xs ≡ Some (get_or xs k d)
  found_at xs k d distinct within = found_apart xs k d (to_apart xs distinct) within

  -- ---- a further test of the element of a key

  pub none_passes : (test : A → Bool) (xs : List A) (k : ℕ) → has_key xs k ≡ false → list_any (λ x. key x == k && test x) xs ≡ false
  none_passes test [] k none = refl
  none_passes test (x ∷ xs) k none =
      let first = or_left (key x == k) (has_key xs k) none in
      let rest = none_passes test xs k (or_right (key x == k) (has_key xs k) none) in
      rw (first, rest) refl

  passes_apart : (test : A → Bool) (xs : List A) (k : ℕ) (d : A) → AreApart xs → k < length xs
      → list_any (λ x. key x == key (get_or xs k d) && test x) xs ≡ test (get_or xs k d)
  passes_apart test [] k d apart within = absurd (omega arith)
  passes_apart test (x ∷ xs) zero d apart within =
      let same = eq_same (key x) (key x) refl in
      let rest = none_passes test xs (key x) apart.0 in
      rw (same, rest) (or_false (test x))
  passes_apart test (x ∷ xs) (suc k) d apart within =
      let other = other_key x xs k d apart.0 (omega arith) in
      rw other (passes_apart test xs k d apart.1 (omega arith))

  -- only that element is asked
  pub passes_at : (test : A → Bool) (xs : List A) (k : ℕ) (d : A) → AreDistinct xs → k < length xs
      → list_any (λ x. key x == key (get_or xs k d) && test x) xs ≡ test (get_or xs k d)
  passes_at test xs k d distinct within = passes_apart test xs k d (to_apart xs distinct) within
