-- The words `solo NAME`.
use Rattle.std.proofs.Common.{◌≡◌, ◌<◌, ◌≤◌, ◌∙◌, ℕ, Bool, true, false, not, Option, Some, None, List, [], ◌∷◌, length, slice_index_or, get_or, refl, ap, sym}
use Rattle.std.proofs.lemmas.Bool.{false≢true}
use Rattle.std.specs.Str.{bytes_eq}
use Rattle.std.specs.Prelude.{codes, is_some, map, String, string_bytes, if◌then◌else◌}
use Rattle.iio_attr.specs.Name.{is_name, name_of}
use Rattle.iiod_serve.proofs.WordLaws.{first_is, two_words}
use Rattle.iiod_program.specs.Words.{IsSolo}

-- ---- whether a text is a name, by whether one was made of it

some_name : (b : Bool) (text : List ℕ) → is_some (if b then Some text else None) ≡ true → b ≡ true
some_name true text is = refl
some_name false text is = absurd (false≢true is)

no_name : (b : Bool) (text : List ℕ) → is_some (if b then Some text else None) ≡ false → b ≡ true → ⊥
no_name true text is named = false≢true (sym is)
no_name false text is named = false≢true named

-- if the first of two words doesn't differ from `solo`, the second is the name, if it is one
pub says_solo : {A : Type 0} (words : List (String A)) (u v : String A) (name : List ℕ) (r : Bool) (made : Option (List ℕ)) (none : Bool) → 2 ≤ length words
    → length words < 3
    → u ≡ slice_index_or words 0 u → v ≡ slice_index_or words 1 v → r ≡ not (bytes_eq (string_bytes u) (codes "solo")) → r ≡ false → name ≡ string_bytes v
    → made ≡ name_of name → is_some made ≡ not none → none ≡ false → IsSolo words name
says_solo words u v name r made none some few a b test said second makes tells is =
    let first : string_bytes u ≡ codes "solo" = first_is (string_bytes u) (codes "solo") r test said in
    let named : is_name name ≡ true = some_name (is_name name) name (ap (λ (o : Option (List ℕ)). is_some o) (sym makes) ∙ tells ∙ ap not is) in
    (named, two_words words u v some few a b ∙ ap (λ (t : List ℕ). t ∷ string_bytes v ∷ []) first ∙ ap (λ (t : List ℕ). codes "solo" ∷ t ∷ []) (sym second))

-- if the second isn't a name, these are other words
pub says_other : {A : Type 0} (words : List (String A)) (u v : String A) (text : List ℕ) (made : Option (List ℕ)) (none : Bool) → 2 ≤ length words
    → length words < 3
    → u ≡ slice_index_or words 0 u → v ≡ slice_index_or words 1 v → text ≡ string_bytes v
    → made ≡ name_of text → is_some made ≡ not none → none ≡ true → (name : List ℕ) → IsSolo words name → ⊥
says_other words u v text made none some few a b second makes tells is name solo =
    let same : name ≡ text = ap (λ (l : List (List ℕ)). get_or l 1 []) (sym solo.1 ∙ two_words words u v some few a b) ∙ sym second in
    no_name (is_name text) text (ap (λ (o : Option (List ℕ)). is_some o) (sym makes) ∙ tells ∙ ap not is) (ap is_name (sym same) ∙ solo.0)
