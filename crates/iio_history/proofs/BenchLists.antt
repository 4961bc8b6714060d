-- Lists of which each element has a property; names and their places.
use Rattle.std.proofs.Common.{◌≡◌, ℕ, zero, suc, ◌+◌, ◌==◌, Bool, true, List, [], ◌∷◌, ◌++◌, map, Option, None, Some, slice_get, refl, subst, rules}
use Rattle.std.proofs.lemmas.Slice.Eq.{bytes_eq-Decides}
use Rattle.std.specs.Str.{bytes_eq}
use Rattle.iio_base.specs.Refusals.{first_refusal}
use Rattle.iio_text.specs.declared.errors.Errno.{Errno}
use Rattle.iio_core.specs.Lists.{map_from}
use Rattle.iio_history.specs.Bench.{Every, place_in, is_in}
use Rattle.iio_core.proofs.PlaceLists.{itself, same_number}

-- ---- every element

pub every_at : {A : Type 0} (P : A → Type 0) (xs : List A) (k : ℕ) (x : A) → Every P xs → slice_get xs k ≡ Some x → P x
every_at P [] k x all is = cc
every_at P (y ∷ ys) zero x all is = let one : y ≡ x = cc in subst P one all.0
every_at P (y ∷ ys) (suc k) x all is = every_at P ys k x all.1 is

pub every_from : {A B : Type 0} (P : A → Type 0) (Q : B → Type 0) (f : ℕ → A → B) (i : ℕ) (xs : List A) → ((j : ℕ) (x : A) → P x → Q (f j x)) → Every P xs
    → Every Q (map_from f i xs)
every_from P Q f i [] each all = tt
every_from P Q f i (x ∷ xs) each all = (each i x all.0, every_from P Q f (suc i) xs each all.1)

pub every_map : {A B : Type 0} (P : A → Type 0) (Q : B → Type 0) (f : A → B) (xs : List A) → ((x : A) → P x → Q (f x)) → Every P xs → Every Q (map f xs)
every_map P Q f [] each all = tt
every_map P Q f (x ∷ xs) each all = (each x all.0, every_map P Q f xs each all.1)

pub every_as : {A : Type 0} (P Q : A → Type 0) (xs : List A) → ((x : A) → P x → Q x) → Every P xs → Every Q xs
every_as P Q [] each all = tt
every_as P Q (x ∷ xs) each all = (each x all.0, every_as P Q xs each all.1)

-- ---- names and their places

pub name_same : (a b : List ℕ) → bytes_eq a b ≡ true → a ≡ b
name_same a b h = (bytes_eq-Decides a b).0 h

pub name_itself : (a : List ℕ) → bytes_eq a a ≡ true
name_itself a = (bytes_eq-Decides a a).1 refl

pub tests_same : (a b : Bool) → (a ≡ true → b ≡ true) → (b ≡ true → a ≡ true) → a ≡ b
tests_same a b f g = search rules

-- a name that is there has a place of its own
pub place_tells : (ns : List (List ℕ)) (a b : List ℕ) → is_in ns b ≡ true → place_in ns a ≡ place_in ns b → a ≡ b
place_tells [] a b there is = cc
place_tells (n ∷ ns) a b there is = search (rules, is_in, name_same, place_tells ns a b)

pub place_same : (ns : List (List ℕ)) (a b : List ℕ) → is_in ns b ≡ true → (place_in ns a == place_in ns b) ≡ bytes_eq a b
place_same ns a b there = search (rules, tests_same, place_tells, same_number, name_itself, name_same, itself)

-- a name that is there keeps its place if others come after it
pub place_stays : (ns more : List (List ℕ)) (a : List ℕ) → is_in ns a ≡ true → place_in (ns ++ more) a ≡ place_in ns a
place_stays [] more a there = cc
place_stays (n ∷ ns) more a there = search (rules, is_in, place_stays ns more a)

pub still_in : (ns more : List (List ℕ)) (a : List ℕ) → is_in ns a ≡ true → is_in (ns ++ more) a ≡ true
still_in [] more a there = cc
still_in (n ∷ ns) more a there = search (rules, is_in, still_in ns more a)

-- ---- refusals

-- the first refusal of two lists
abbrev pub first_of_two : Option Errno → Option Errno → Option Errno
first_of_two None later = later
first_of_two (Some e) later = Some e

pub first_appended : (xs bs : List (Bool × Errno)) → first_refusal (xs ++ bs) ≡ first_of_two (first_refusal xs) (first_refusal bs)
first_appended [] bs = refl
first_appended (a ∷ xs) bs = search (rules, first_appended xs bs)
