-- How many words a text has.
use Rattle.std.proofs.Common.{◌≡◌, ℕ, ◌+◌, Bool, true, false, not, cond, List, [], ◌∷◌, length, suc, ◌&&◌, arith, ap, sym, ◌∙◌, refl}
use Rattle.iio_text.specs.Words.{is_space, begins_word, onto_first, words_of}

-- how many words begin in a text, after a blank or after another byte
abbrev pub begun_words : Bool → List ℕ → ℕ
begun_words after [] = 0
begun_words after (b ∷ bs) = cond (after && not (is_space b)) 1 0 + begun_words (is_space b) bs

-- after a blank another word begins, if the text begins with a word
begun_words-blank : (text : List ℕ) → begun_words true text ≡ begun_words false text + cond (begins_word is_space text) 1 0
begun_words-blank [] = refl
begun_words-blank (b ∷ bs) = by_blank (is_space b) (begun_words (is_space b) bs)
  where
    by_blank : (t : Bool) (n : ℕ) → cond (not t) 1 0 + n ≡ 0 + n + cond (not t) 1 0
    by_blank true n = omega arith
    by_blank false n = omega arith

-- a byte that begins a word, or is put onto the word after it
length-onto_first : (b n : ℕ) (begins : Bool) (words : List (List ℕ)) → length words ≡ n + cond begins 1 0 → length (onto_first b begins words) ≡ n + 1
length-onto_first b n true [] h = absurd (omega (arith, h))
length-onto_first b n true (w ∷ ws) h = h
length-onto_first b n false ws h = ap suc h ∙ omega arith

length-words_of : (text : List ℕ) → length (words_of is_space text) ≡ begun_words false text + cond (begins_word is_space text) 1 0
length-words_of [] = refl
length-words_of (b ∷ bs) = by_blank (is_space b) (length-words_of bs)
  where
    by_blank : (t : Bool) → length (words_of is_space bs) ≡ begun_words false bs + cond (begins_word is_space bs) 1 0
        → length (cond t (words_of is_space bs) (onto_first b (begins_word is_space bs) (words_of is_space bs))) ≡ 0 + begun_words t bs + cond (not t) 1 0
    by_blank true h = h ∙ sym (begun_words-blank bs) ∙ omega arith
    by_blank false h = length-onto_first b (begun_words false bs) (begins_word is_space bs) (words_of is_space bs) h ∙ omega arith

-- each word begins after a blank, or with the text
pub words_begun : (text : List ℕ) → begun_words true text ≡ length (words_of is_space text)
words_begun text = begun_words-blank text ∙ sym (length-words_of text)
