-- The words of `serve`. (This project's own.)
use Rattle.std.specs.Prelude.{◌≡◌, ℕ, ◌≤◌, List, [], ◌∷◌, map, codes, String, string_bytes}
use Rattle.std.specs.Fmt.{decimal}

-- the three words `serve ADDRESS PERIOD`, where PERIOD is the one decimal spelling of a number from 1 to 60,000
abbrev pub IsServe : {A : Type 0} → List (String A) → (address : List ℕ) → (period : ℕ) → Type 0
IsServe words address period = (1 ≤ period) × (period ≤ 60000) × (map string_bytes words ≡ codes "serve" ∷ address ∷ decimal period ∷ [])

-- other words, or none
abbrev pub IsNoServe : {A : Type 0} → List (String A) → Type 0
IsNoServe words = (address : List ℕ) (period : ℕ) → IsServe words address period → ⊥
