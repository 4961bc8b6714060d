-- The target that words name, by the first of them.
use Rattle.std.proofs.Common.{◌≡◌, ℕ, Bool, true, false, List, [], ◌∷◌, Option, Some, None, Ok, option_map, unwrap_or, refl, sym, ap, ◌∙◌}
use Rattle.std.specs.Bool.{if◌then◌else◌}
use Rattle.iiod_grammar.specs.declared.words.PlaceWord.{PlaceWord}
use Rattle.iiod_grammar.specs.Command.{Target, AtBuffer, AtDebug, AtInput, AtOutput, entry_of, places, at_place, at_channel, at_device, target_of, counted_target, last_of, all_but_last}
use Rattle.iiod_grammar.specs.Parts.{place_form}

-- a word that names no place is an attribute's name
pub target_of-name : (a : List ℕ) (words : List (List ℕ)) (w : Option PlaceWord) → option_map place_form w ≡ entry_of places a → w ≡ None
    → at_device a words ≡ target_of (a ∷ words)
target_of-name a words w is none = ap (λ o. unwrap_or o (at_device a) words) (sym (ap (option_map place_form) none) ∙ is)

by_tests : (a b c d : List ℕ) (more : List (List ℕ)) (p q r s : Bool) →
    unwrap_or (if p then Some (at_place AtBuffer)
    else (if q then Some (at_place AtDebug) else (if r then Some (at_channel AtInput) else (if s then Some (at_channel AtOutput) else None)))) (at_device a)
    (b ∷ c ∷ d ∷ more) ≡ None
by_tests a b c d more true q r s = refl
by_tests a b c d more false true r s = refl
by_tests a b c d more false false true s = refl
by_tests a b c d more false false false true = refl
by_tests a b c d more false false false false = refl

-- four words name nothing
pub target_of-many : (a b c d : List ℕ) (more : List (List ℕ)) → None ≡ target_of (a ∷ b ∷ c ∷ d ∷ more)
target_of-many a b c d more = sym (by_tests a b c d more _ _ _ _)

-- ---- words one by one, each with those after it

pub target-three : (ws r1 r2 r3 : List (List ℕ)) (a b c : List ℕ) (t : Option Target) → ws ≡ a ∷ r1 → r1 ≡ b ∷ r2 → r2 ≡ c ∷ r3 → r3 ≡ []
    → t ≡ target_of (a ∷ b ∷ c ∷ []) → t ≡ target_of ws
target-three ws r1 r2 r3 a b c t h1 h2 h3 h4 is = is ∙ ap target_of (sym (h1 ∙ ap (λ r. a ∷ r) (h2 ∙ ap (λ r. b ∷ r) (h3 ∙ ap (λ r. c ∷ r) h4))))

pub target-many : (ws r1 r2 r3 r4 : List (List ℕ)) (a b c d : List ℕ) → ws ≡ a ∷ r1 → r1 ≡ b ∷ r2 → r2 ≡ c ∷ r3 → r3 ≡ d ∷ r4 → None ≡ target_of ws
target-many ws r1 r2 r3 r4 a b c d h1 h2 h3 h4 =
    target_of-many a b c d r4 ∙ ap target_of (sym (h1 ∙ ap (λ r. a ∷ r) (h2 ∙ ap (λ r. b ∷ r) (h3 ∙ ap (λ r. c ∷ r) h4))))

abbrev Counted : Option Target → List ℕ → List (List ℕ) → Type 0
Counted t count ws = Ok (t, count) ≡ counted_target ws

pub counted-three : (ws r1 r2 r3 : List (List ℕ)) (a b c : List ℕ) (t : Option Target) → ws ≡ a ∷ r1 → r1 ≡ b ∷ r2 → r2 ≡ c ∷ r3 → r3 ≡ []
    → t ≡ target_of (a ∷ b ∷ []) → Counted t c ws
counted-three ws r1 r2 r3 a b c t h1 h2 h3 h4 is =
    ap (λ o. Ok (o, c)) is ∙ ap counted_target (sym (h1 ∙ ap (λ r. a ∷ r) (h2 ∙ ap (λ r. b ∷ r) (h3 ∙ ap (λ r. c ∷ r) h4))))

pub counted-four : (ws r1 r2 r3 r4 : List (List ℕ)) (a b c d : List ℕ) (t : Option Target) → ws ≡ a ∷ r1 → r1 ≡ b ∷ r2 → r2 ≡ c ∷ r3 → r3 ≡ d ∷ r4 → r4 ≡ []
    → t ≡ target_of (a ∷ b ∷ c ∷ []) → Counted t d ws
counted-four ws r1 r2 r3 r4 a b c d t h1 h2 h3 h4 h5 is =
    ap (λ o. Ok (o, d)) is
    ∙ ap counted_target (sym (h1 ∙ ap (λ r. a ∷ r) (h2 ∙ ap (λ r. b ∷ r) (h3 ∙ ap (λ r. c ∷ r) (h4 ∙ ap (λ r. d ∷ r) h5)))))

pub counted-many : (ws r1 r2 r3 r4 r5 : List (List ℕ)) (a b c d e last : List ℕ) → ws ≡ a ∷ r1 → r1 ≡ b ∷ r2 → r2 ≡ c ∷ r3 → r3 ≡ d ∷ r4 → r4 ≡ e ∷ r5
    → last ≡ last_of e r5 → Counted None last ws
counted-many ws r1 r2 r3 r4 r5 a b c d e last h1 h2 h3 h4 h5 is =
    ap (λ w. Ok (None, w)) is
    ∙ ap (λ o. Ok (o, last_of e r5)) (target_of-many a b c d (all_but_last e r5))
    ∙ ap counted_target (sym (h1 ∙ ap (λ r. a ∷ r) (h2 ∙ ap (λ r. b ∷ r) (h3 ∙ ap (λ r. c ∷ r) (h4 ∙ ap (λ r. d ∷ r) h5)))))
