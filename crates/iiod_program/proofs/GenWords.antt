-- The words `gen N`.
use Rattle.std.proofs.Common.{◌≡◌, ◌<◌, ◌≤◌, ◌^◌, ◌∙◌, ℕ, Bool, false, not, Option, Some, None, IfSome, List, [], ◌∷◌, length, slice_index_or, ap, sym}
use Rattle.std.specs.Str.{bytes_eq}
use Rattle.std.specs.Prelude.{codes, decimal, map, String, string_bytes}
use Rattle.iiod_serve.proofs.WordLaws.{first_is, two_words}
use Rattle.iiod_program.specs.Words.{IsGen}

-- if the first of two words doesn't differ from `gen`, the number that the second spells is that of the words
pub says_gen : {A : Type 0} (words : List (String A)) (u v : String A) (number : List ℕ) (r : Bool) (spelled : Option ℕ) → 2 ≤ length words → length words < 3
    → u ≡ slice_index_or words 0 u → v ≡ slice_index_or words 1 v → r ≡ not (bytes_eq (string_bytes u) (codes "gen")) → r ≡ false → number ≡ string_bytes v
    → IfSome spelled (λ n. (n < 2 ^ 64) × (number ≡ decimal n)) → IfSome spelled (λ n. IsGen words n)
says_gen words u v number r None some few a b test said second h = tt
says_gen words u v number r (Some n) some few a b test said second (fits, is) =
    let first : string_bytes u ≡ codes "gen" = first_is (string_bytes u) (codes "gen") r test said in
    (fits, two_words words u v some few a b ∙ ap (λ (t : List ℕ). t ∷ string_bytes v ∷ []) first ∙ ap (λ (t : List ℕ). codes "gen" ∷ t ∷ []) (sym second ∙ is))
