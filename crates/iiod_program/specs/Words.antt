-- The program's words. (This project's own.)
use Rattle.std.specs.Prelude.{◌≡◌, ℕ, ◌^◌, ◌<◌, true, List, [], ◌∷◌, map, codes, String, string_bytes}
use Rattle.std.specs.Fmt.{decimal}
use Rattle.iio_attr.specs.Name.{is_name}

-- the one word `play`
abbrev pub IsPlay : {A : Type 0} → List (String A) → Type 0
IsPlay words = map string_bytes words ≡ codes "play" ∷ []

-- the two words `solo NAME`, where NAME has the form of a name
abbrev pub IsSolo : {A : Type 0} → List (String A) → (name : List ℕ) → Type 0
IsSolo words name = (is_name name ≡ true) × (map string_bytes words ≡ codes "solo" ∷ name ∷ [])

-- the three words `layout DEVICE MASK`
abbrev pub IsLayout : {A : Type 0} → List (String A) → (device mask : List ℕ) → Type 0
IsLayout words device mask = map string_bytes words ≡ codes "layout" ∷ device ∷ mask ∷ []

-- the two words `gen N`, where N is the one decimal spelling of a number up to 2^64 - 1
abbrev pub IsGen : {A : Type 0} → List (String A) → ℕ → Type 0
IsGen words n = (n < 2 ^ 64) × (map string_bytes words ≡ codes "gen" ∷ decimal n ∷ [])

-- other words, or none
abbrev pub IsOther : {A : Type 0} → List (String A) → Type 0
IsOther words =
    (IsPlay words → ⊥) × ((name : List ℕ) → IsSolo words name → ⊥) × ((device mask : List ℕ) → IsLayout words device mask → ⊥) × ((n : ℕ) → IsGen words n → ⊥)
