-- What one word of a line takes off it.
use Rattle.std.proofs.Common.{◌≡◌, ℕ, ◌+◌, ◌++◌, ◌||◌, Bool, true, false, not, cond, List, [], ◌∷◌, take, take_while, ap, sym, ◌∙◌, refl}
use Rattle.std.proofs.Math.Numerals.{one-add}
use Rattle.std.proofs.lemmas.List.{append_cancel_left}
use Rattle.std.specs.List.{list_any, prefix_len}
use Rattle.iio_text.specs.Words.{IsFirstWord, is_space, begins_word}
use Rattle.iio_text.specs.Words.{from_word}
use Rattle.iio_desc.specs.Lines.{from_space, from_second_word}

-- blanks, and a text from its first word on
parted : (text : List ℕ) → text ≡ take_while is_space text ++ from_word text
parted [] = refl
parted (b ∷ bs) = by_blank (is_space b) (prefix_len is_space bs) (parted bs)
  where
    by_blank : (t : Bool) (n : ℕ) → bs ≡ take n bs ++ from_word bs → b ∷ bs ≡ take (cond t (1 + n) 0) (b ∷ bs) ++ cond t (from_word bs) (b ∷ bs)
    by_blank true n h = rw one-add (ap (λ (xs : List ℕ). b ∷ xs) h)
    by_blank false n h = refl

from_word-first : (text word rest : List ℕ) → IsFirstWord is_space text word rest → from_word text ≡ word ++ rest
from_word-first text word rest h = append_cancel_left (take_while is_space text) _ _ (sym (parted text) ∙ h.parts)

or_false : (a b : Bool) → (a || b) ≡ false → (a ≡ false) × (b ≡ false)
or_false true b h = cc
or_false false b h = (refl, h)

from_space-word : (word rest : List ℕ) → list_any is_space word ≡ false → begins_word is_space rest ≡ false → from_space (word ++ rest) ≡ rest
from_space-word [] [] plain ended = refl
from_space-word [] (b ∷ bs) plain ended = by_blank (is_space b) ended
  where
    by_blank : (t : Bool) → not t ≡ false → cond t (b ∷ bs) (from_space bs) ≡ b ∷ bs
    by_blank true h = refl
    by_blank false h = cc
from_space-word (b ∷ bs) rest plain ended =
    let parts = or_false (is_space b) (list_any is_space bs) plain in
    ap (λ t. cond t (b ∷ (bs ++ rest)) (from_space (bs ++ rest))) parts.0 ∙ from_space-word bs rest parts.1 ended

-- a line from its second word on is the line after the first word, from a word on
pub from_second_word_is : (text word rest : List ℕ) → IsFirstWord is_space text word rest → from_second_word text ≡ from_word rest
from_second_word_is text word rest h =
    ap (λ (t : List ℕ). from_word (from_space t)) (from_word-first text word rest h) ∙ ap from_word (from_space-word word rest h.no_blank h.ended)
