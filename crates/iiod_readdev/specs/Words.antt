-- The words of `readdev`. (This project's own.)
use Rattle.std.specs.Prelude.{◌≡◌, ℕ, List, [], ◌∷◌, map, codes, String, string_bytes, Option, Some}
use Rattle.iio_text.specs.Numbers.{number_of}
use Rattle.iiod_client.specs.Line.{unless_zero}
use Rattle.iiod_readdev.specs.declared.words.Words.{Words}

-- what the words say: the address, the device's name, the mask's text, and both numbers
pub record ReaddevWords : Type 0 where
  pub address : List ℕ
  pub device : List ℕ
  pub samples : ℕ
  pub mask : List ℕ
  pub scans : ℕ

abbrev pub words_of : Words → ReaddevWords
words_of w = record { address = w.address.now; device = w.device.now; samples = w.samples; mask = w.mask.now; scans = w.scans }

-- the number of a text, if it is at least 1
abbrev pub amount_of : List ℕ → Option ℕ
amount_of text = unless_zero (number_of text)

-- the six words `readdev ADDRESS DEVICE SAMPLES MASK SCANS`
pub record IsReaddev {A : Type 0} (words : List (String A)) (said : ReaddevWords) : Type 0 where
  pub samples : List ℕ
  pub scans : List ℕ
  pub is_samples : amount_of samples ≡ Some said.samples
  pub is_scans : amount_of scans ≡ Some said.scans
  pub words_are : map string_bytes words ≡ codes "readdev" ∷ said.address ∷ said.device ∷ samples ∷ said.mask ∷ scans ∷ []

-- other words, or none
abbrev pub IsNoReaddev : {A : Type 0} → List (String A) → Type 0
IsNoReaddev words = (said : ReaddevWords) → IsReaddev words said → ⊥

-- the first word is `readdev`, whatever the others are
abbrev pub BeginsReaddev : {A : Type 0} → List (String A) → Type 0
BeginsReaddev words = (others : List (List ℕ)) × (map string_bytes words ≡ codes "readdev" ∷ others)
