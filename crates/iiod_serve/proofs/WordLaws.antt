-- Lists of one, two and three words, and texts of numbers.
use Rattle.std.proofs.Common.{◌≡◌, ◌↔◌, ◌<◌, ◌≤◌, ◌^◌, ◌∙◌, ℕ, Bool, true, false, not, IsTrue, Result, Ok, Err, refl, List, [], ◌∷◌, length, get_or, slice_index_or, arith, ap, sym, subst}
use Rattle.std.proofs.lemmas.Bool.{false≢true}
use Rattle.std.proofs.lemmas.Slice.Eq.{bytes_eq-Decides}
use Rattle.std.proofs.lemmas.Fmt.{decimal_injective}
use Rattle.std.specs.Str.{bytes_eq}
use Rattle.std.specs.Prelude.{codes, decimal, map, String, string_bytes}
use Rattle.iiod_serve.specs.Words.{IsServe}

one_word : {A : Type 0} (words : List (String A)) (w : String A) → 1 ≤ length words → length words < 2 → w ≡ slice_index_or words 0 w
    → map string_bytes words ≡ string_bytes w ∷ []
one_word [] w some one e = absurd (omega arith)
one_word (x ∷ []) w some one e = ap (λ v. string_bytes v ∷ []) (sym e)
one_word (x ∷ y ∷ zs) w some one e = absurd (omega arith)

same_as : (bs text : List ℕ) (r : Bool) → r ≡ bytes_eq bs text → bs ∷ [] ≡ text ∷ [] → IsTrue r
same_as bs text r e h = e ∙ (bytes_eq-Decides bs text).1 (ap (λ (l : List (List ℕ)). get_or l 0 []) h)

same_text : (bs text : List ℕ) (r : Bool) → r ≡ bytes_eq bs text → IsTrue r → bs ≡ text
same_text bs text r e h = (bytes_eq-Decides bs text).0 (sym e ∙ h)

-- whether the only word is the text
pub says : {A : Type 0} (words : List (String A)) (w : String A) (text : List ℕ) (r : Bool) → 1 ≤ length words → length words < 2
    → w ≡ slice_index_or words 0 w → r ≡ bytes_eq (string_bytes w) text → IsTrue r ↔ (map string_bytes words ≡ text ∷ [])
says words w text r some one e h =
    let word = one_word words w some one e in
    ((λ t. word ∙ ap (λ (v : List ℕ). v ∷ []) (same_text (string_bytes w) text r h t)), (λ same. same_as (string_bytes w) text r h (sym word ∙ same)))

not_false : (b : Bool) → not b ≡ false → b ≡ true
not_false true h = refl
not_false false h = absurd (false≢true (sym h))

-- a first word that doesn't differ from the text
pub first_is : (bs text : List ℕ) (r : Bool) → r ≡ not (bytes_eq bs text) → r ≡ false → bs ≡ text
first_is bs text r test said = (bytes_eq-Decides bs text).0 (not_false (bytes_eq bs text) (sym test ∙ said))

pub two_words : {A : Type 0} (words : List (String A)) (u v : String A) → 2 ≤ length words → length words < 3
    → u ≡ slice_index_or words 0 u → v ≡ slice_index_or words 1 v → map string_bytes words ≡ string_bytes u ∷ string_bytes v ∷ []
two_words [] u v some few a b = absurd (omega arith)
two_words (x ∷ []) u v some few a b = absurd (omega arith)
two_words (x ∷ y ∷ []) u v some few a b = rw (a, b) refl
two_words (x ∷ y ∷ z ∷ zs) u v some few a b = absurd (omega arith)

three_words : {A : Type 0} (words : List (String A)) (u v w : String A) → 3 ≤ length words → length words < 4
    → u ≡ slice_index_or words 0 u → v ≡ slice_index_or words 1 v → w ≡ slice_index_or words 2 w
    → map string_bytes words ≡ string_bytes u ∷ string_bytes v ∷ string_bytes w ∷ []
three_words [] u v w some few a b c = absurd (omega arith)
three_words (x ∷ []) u v w some few a b c = absurd (omega arith)
three_words (x ∷ y ∷ []) u v w some few a b c = absurd (omega arith)
three_words (x ∷ y ∷ z ∷ []) u v w some few a b c = rw (a, b, c) refl
three_words (x ∷ y ∷ z ∷ t ∷ ts) u v w some few a b c = absurd (omega arith)

-- the three words, if the first of them is the text
pub says_three : {A : Type 0} (words : List (String A)) (u v w : String A) (text device mask : List ℕ) (r : Bool) → 3 ≤ length words → length words < 4
    → u ≡ slice_index_or words 0 u → v ≡ slice_index_or words 1 v → w ≡ slice_index_or words 2 w
    → r ≡ not (bytes_eq (string_bytes u) text) → r ≡ false → device ≡ string_bytes v → mask ≡ string_bytes w
    → map string_bytes words ≡ text ∷ device ∷ mask ∷ []
says_three words u v w text device mask r some few a b c test said second third =
    let first : string_bytes u ≡ text = first_is (string_bytes u) text r test said in
    rw (second, third, ← first) (three_words words u v w some few a b c)

-- ---- the words `serve ADDRESS PERIOD`

-- if the first of three words doesn't differ from `serve`, the second,
-- and the number that the third spells, are those of the words
pub says_serve : {A : Type 0} (words : List (String A)) (u v w : String A) (address number : List ℕ) (period : ℕ) (r : Bool) → 3 ≤ length words
    → length words < 4
    → u ≡ slice_index_or words 0 u → v ≡ slice_index_or words 1 v → w ≡ slice_index_or words 2 w
    → r ≡ not (bytes_eq (string_bytes u) (codes "serve")) → r ≡ false → address ≡ string_bytes v → number ≡ string_bytes w
    → (1 ≤ period) × (period ≤ 60000) × (number ≡ decimal period) → IsServe words address period
says_serve words u v w address number period r some few a b c test said second third (one, most, is) =
    (one, most, says_three words u v w (codes "serve") address (decimal period) r some few a b c test said second (sym is ∙ third))

-- ---- texts of numbers

-- a text of a number that isn't a period is no period's text
pub no_period : (text : List ℕ) (n m : ℕ) → (n < 2 ^ 64) × (text ≡ decimal n) → (1 ≤ n → n ≤ 60000 → ⊥) → 1 ≤ m → m ≤ 60000 → text ≡ decimal m → ⊥
no_period text n m (fits, is) out one most other =
    let same : m ≡ n = decimal_injective m n (omega (arith, most)) fits (sym other ∙ is) in
    out (subst (λ (k : ℕ). 1 ≤ k) same one) (subst (λ (k : ℕ). k ≤ 60000) same most)

-- a text that was found to differ isn't the same
pub not_other : (bs text : List ℕ) (r : Bool) → r ≡ not (bytes_eq bs text) → r ≡ true → bs ≡ text → ⊥
not_other bs text r test said same = not_true (bytes_eq bs text) (sym test ∙ said) ((bytes_eq-Decides bs text).1 same)
  where
    not_true : (b : Bool) → not b ≡ true → b ≡ true → ⊥
    not_true true h is = false≢true h
    not_true false h is = false≢true is

pub same_number : {E : Type 0} (r : Result ℕ E) (m n : ℕ) → r ≡ Ok m → r ≡ Ok n → m ≡ n
same_number r m n one other = cc

pub no_number : {E : Type 0} (r : Result ℕ E) (e : E) (n : ℕ) → r ≡ Err e → r ≡ Ok n → ⊥
no_number r e n one other = absurd (cc)
