-- Lists of six words, and their meaning.
use Rattle.std.proofs.Common.{◌≡◌, ◌<◌, ◌≤◌, ◌∙◌, ℕ, Bool, true, false, not, refl, List, [], ◌∷◌, length, get_or, slice_index_or, arith, ap, sym, Some}
use Rattle.std.proofs.lemmas.Bool.{false≢true}
use Rattle.std.proofs.lemmas.Slice.Eq.{bytes_eq-Decides}
use Rattle.std.specs.Str.{bytes_eq}
use Rattle.std.specs.Prelude.{◌↔◌, codes, map, IsTrue, String, string_bytes}
use Rattle.iiod_readdev.specs.Words.{BeginsReaddev, IsReaddev, ReaddevWords, amount_of}

not_false : (b : Bool) → not b ≡ false → b ≡ true
not_false true h = refl
not_false false h = absurd (false≢true (sym h))

six_words : {A : Type 0} (words : List (String A)) (a b c d e f : String A) → 6 ≤ length words → length words < 7
    → a ≡ slice_index_or words 0 a → b ≡ slice_index_or words 1 b → c ≡ slice_index_or words 2 c → d ≡ slice_index_or words 3 d → e ≡ slice_index_or words 4 e
    → f ≡ slice_index_or words 5 f
    → map string_bytes words ≡ string_bytes a ∷ string_bytes b ∷ string_bytes c ∷ string_bytes d ∷ string_bytes e ∷ string_bytes f ∷ []
six_words [] a b c d e f some few ea eb ec ed ee ef = absurd (omega arith)
six_words (x0 ∷ []) a b c d e f some few ea eb ec ed ee ef = absurd (omega arith)
six_words (x0 ∷ x1 ∷ []) a b c d e f some few ea eb ec ed ee ef = absurd (omega arith)
six_words (x0 ∷ x1 ∷ x2 ∷ []) a b c d e f some few ea eb ec ed ee ef = absurd (omega arith)
six_words (x0 ∷ x1 ∷ x2 ∷ x3 ∷ []) a b c d e f some few ea eb ec ed ee ef = absurd (omega arith)
six_words (x0 ∷ x1 ∷ x2 ∷ x3 ∷ x4 ∷ []) a b c d e f some few ea eb ec ed ee ef = absurd (omega arith)
six_words (x0 ∷ x1 ∷ x2 ∷ x3 ∷ x4 ∷ x5 ∷ []) a b c d e f some few ea eb ec ed ee ef = rw (ea, eb, ec, ed, ee, ef) refl
six_words (x0 ∷ x1 ∷ x2 ∷ x3 ∷ x4 ∷ x5 ∷ x6 ∷ xs) a b c d e f some few ea eb ec ed ee ef = absurd (omega arith)

-- the six words, if the first of them is the text
pub says_six : {A : Type 0} (words : List (String A)) (a b c d e f : String A) (text address device mask : List ℕ) (r : Bool) → 6 ≤ length words
    → length words < 7
    → a ≡ slice_index_or words 0 a → b ≡ slice_index_or words 1 b → c ≡ slice_index_or words 2 c → d ≡ slice_index_or words 3 d → e ≡ slice_index_or words 4 e
    → f ≡ slice_index_or words 5 f
    → r ≡ not (bytes_eq (string_bytes a) text) → r ≡ false → address ≡ string_bytes b → device ≡ string_bytes c → mask ≡ string_bytes e
    → map string_bytes words ≡ text ∷ address ∷ device ∷ string_bytes d ∷ mask ∷ string_bytes f ∷ []
says_six words a b c d e f text address device mask r some few ea eb ec ed ee ef test said p q s =
    let first : string_bytes a ≡ text = (bytes_eq-Decides (string_bytes a) text).0 (not_false (bytes_eq (string_bytes a) text) (sym test ∙ said)) in
    rw (p, q, s, ← first) (six_words words a b c d e f some few ea eb ec ed ee ef)

some_same : (m n : ℕ) → Some m ≡ Some n → m ≡ n
some_same m n h = cc

amounts_same : (text text' : List ℕ) (m n : ℕ) → text ≡ text' → amount_of text ≡ Some m → amount_of text' ≡ Some n → m ≡ n
amounts_same text text' m n same first second = some_same m n (sym first ∙ ap amount_of same ∙ second)

nth_same : (n : ℕ) (xs ys : List (List ℕ)) → xs ≡ ys → get_or xs n [] ≡ get_or ys n []
nth_same n xs ys e = ap (λ (l : List (List ℕ)). get_or l n []) e

same_words : (a b : ReaddevWords) → a.address ≡ b.address → a.device ≡ b.device → a.samples ≡ b.samples → a.mask ≡ b.mask → a.scans ≡ b.scans → a ≡ b
same_words a b address device samples mask scans =
    let make : List ℕ → List ℕ → ℕ → List ℕ → ℕ → ReaddevWords = λ p q r s t. record { address = p; device = q; samples = r; mask = s; scans = t } in
    ap (λ v. make v a.device a.samples a.mask a.scans) address
    ∙ ap (λ v. make b.address v a.samples a.mask a.scans) device
    ∙ ap (λ v. make b.address b.device v a.mask a.scans) samples
    ∙ ap (λ v. make b.address b.device b.samples v a.scans) mask
    ∙ ap (λ v. make b.address b.device b.samples b.mask v) scans

-- words have one meaning
pub one_meaning : {A : Type 0} (words : List (String A)) (a b : ReaddevWords) → IsReaddev words a → IsReaddev words b → a ≡ b
one_meaning words a b x y =
    let all = sym x.words_are ∙ y.words_are in
    let address : a.address ≡ b.address = nth_same 1 _ _ all in
    let device : a.device ≡ b.device = nth_same 2 _ _ all in
    let samples : x.samples ≡ y.samples = nth_same 3 _ _ all in
    let mask : a.mask ≡ b.mask = nth_same 4 _ _ all in
    let scans : x.scans ≡ y.scans = nth_same 5 _ _ all in
    same_words a b address device (amounts_same x.samples y.samples a.samples b.samples samples x.is_samples y.is_samples) mask
    (amounts_same x.scans y.scans a.scans b.scans scans x.is_scans y.is_scans)

-- ---- the first word

pub begins : {A : Type 0} (words : List (String A)) (word : String A) (r : Bool) → 1 ≤ length words → word ≡ slice_index_or words 0 word
    → r ≡ bytes_eq (string_bytes word) (codes "readdev")
    → IsTrue r ↔ BeginsReaddev words
begins [] word r some is test = absurd (omega arith)
begins (x ∷ xs) word r some is test = (
  (λ (t : r ≡ true). (
    map string_bytes xs,
    ap (λ w. string_bytes w ∷ map string_bytes xs) (sym is)
        ∙ ap (λ bs. bs ∷ map string_bytes xs) ((bytes_eq-Decides (string_bytes word) (codes "readdev")).0 (sym test ∙ t)),
  )),
  (λ b. test ∙ (bytes_eq-Decides (string_bytes word) (codes "readdev")).1 (ap string_bytes is ∙ nth_same 0 _ _ b.1)),
)
