-- What the program's words ask for. (This project's own.)
use Rattle.std.specs.Prelude.{ℕ, List, String}
use Rattle.iiod_program.specs.Words.{IsPlay, IsSolo, IsLayout, IsGen, IsOther}

pub data Request : Type 0 where
  Play : Request
  Solo : (name : List ℕ) → Request
  Layout : (device mask : List ℕ) → Request
  Gen : (n : ℕ) → Request
  Other : Request

-- these words make that request
abbrev pub Asks : {A : Type 0} → List (String A) → Request → Type 0
Asks words Play = IsPlay words
Asks words (Solo name) = IsSolo words name
Asks words (Layout device mask) = IsLayout words device mask
Asks words (Gen n) = IsGen words n
Asks words Other = IsOther words
