-- The words of a line: the longest runs of bytes that are no blanks. Descriptions and scripts know one
-- blank, the space (this project's own); command lines know spaces and tabs (libiio 0.25's iiod).
use Rattle.std.specs.Prelude.{◌≡◌, ℕ, ◌<◌, Bool, true, false, not, ◌==◌, ◌||◌, if◌then◌else◌, List, [], ◌∷◌, ◌++◌, length, take_while, Option, Some, None, option_map}
use Rattle.std.specs.List.{list_any}

-- a space
abbrev pub is_space : ℕ → Bool
is_space b = b == 32

-- a space or a tab
abbrev pub is_blank : ℕ → Bool
is_blank b = b == 32 || b == 9

-- the text begins with a byte that is no blank
abbrev pub begins_word : (ℕ → Bool) → List ℕ → Bool
begins_word blank [] = false
begins_word blank (b ∷ bs) = not (blank b)

-- words, with a byte put before them: onto the first, or as a word of its own
abbrev pub onto_first : ℕ → Bool → List (List ℕ) → List (List ℕ)
onto_first b true [] = (b ∷ []) ∷ []
onto_first b true (word ∷ words) = (b ∷ word) ∷ words
onto_first b false words = (b ∷ []) ∷ words

-- the words of a text; a byte that is no blank is put onto the word that follows it without a blank in between
abbrev pub words_of : (ℕ → Bool) → List ℕ → List (List ℕ)
words_of blank [] = []
words_of blank (b ∷ bs) = if blank b then words_of blank bs else onto_first b (begins_word blank bs) (words_of blank bs)

-- the first word of a text, and the text after it
pub record IsFirstWord (blank : ℕ → Bool) (text word rest : List ℕ) : Type 0 where
  pub words : words_of blank text ≡ word ∷ words_of blank rest
  pub parts : text ≡ take_while blank text ++ (word ++ rest)
  pub some : 0 < length word
  pub no_blank : list_any blank word ≡ false
  pub ended : begins_word blank rest ≡ false

-- one word, two words, three words, and no more
abbrev pub one_of : List (List ℕ) → Option (List ℕ)
one_of [] = None
one_of (word ∷ []) = Some word
one_of (word ∷ other ∷ words) = None

abbrev pub two_of : List (List ℕ) → Option (List ℕ × List ℕ)
two_of [] = None
two_of (word ∷ words) = option_map (λ second. (word, second)) (one_of words)

abbrev pub three_of : List (List ℕ) → Option (List ℕ × List ℕ × List ℕ)
three_of [] = None
three_of (word ∷ words) = option_map (λ others. (word, others.0, others.1)) (two_of words)

-- a text from its first word on
abbrev pub from_word : List ℕ → List ℕ
from_word [] = []
from_word (b ∷ bs) = if is_space b then from_word bs else b ∷ bs
