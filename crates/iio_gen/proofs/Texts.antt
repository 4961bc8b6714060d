-- Words and lines of texts that are put together from parts.
use Rattle.std.proofs.Common.{◌≡◌, ℕ, ◌^◌, ◌<◌, ◌≤◌, Bool, true, false, not, ◌&&◌, ◌||◌, leb, List, [], ◌∷◌, ◌++◌, length, Ok, refl, sym, ap, ◌∙◌, arith, append-nil}
use Rattle.std.specs.List.{list_all}
use Rattle.std.specs.Char.{is_ascii_digit}
use Rattle.std.specs.Fmt.{decimal}
use Rattle.std.proofs.lemmas.Bool.{le-leb}
use Rattle.std.proofs.lemmas.Bool.Decides.{nat_tests}
use Rattle.std.proofs.lemmas.Fmt.{decimal_is_IsNumeral, decimal_nonempty}
use Rattle.std.proofs.lemmas.List.Folds.{list_all-append}
use Rattle.iio_base.specs.Refusals.{ensure, ◌>>◌}
use Rattle.iio_text.specs.declared.refusals.Why.TheVariants as why
use Rattle.iio_text.specs.Escape.{is_plain}
use Rattle.iio_text.specs.Lines.{fits_line, is_blank_line, is_comment, is_line_end, is_printable, lines_of, onto_line, words_of_line}
use Rattle.iio_text.specs.Words.{begins_word, is_space, onto_first, words_of}
use Rattle.iio_text.proofs.NumberLemmas.{are_digits}

-- ---- tests of all bytes

pub and_true : (a b : Bool) → (a && b) ≡ true → (a ≡ true) × (b ≡ true)
and_true true b h = (refl, h)
and_true false b h = (h, cc)

pub both_parts : (p : ℕ → Bool) (a b : List ℕ) → list_all p a ≡ true → list_all p b ≡ true → list_all p (a ++ b) ≡ true
both_parts p a b f g = list_all-append p a b ∙ rw (f, g) refl

pub weaker : (p q : ℕ → Bool) → ((b : ℕ) → p b ≡ true → q b ≡ true) → (bytes : List ℕ) → list_all p bytes ≡ true → list_all q bytes ≡ true
weaker p q implies [] h = refl
weaker p q implies (b ∷ bs) h =
    let parts = and_true (p b) (list_all p bs) h in
    rw (implies b parts.0, weaker p q implies bs parts.1) refl

-- a byte that can be in a word, and needs no escape
abbrev pub is_word_byte : ℕ → Bool
is_word_byte b = leb 33 b && is_plain b

plain_printable : (b : ℕ) → is_plain b ≡ true → is_printable b ≡ true
plain_printable b h = grind (arith, nat_tests, h)

word_plain : (b : ℕ) → is_word_byte b ≡ true → is_plain b ≡ true
word_plain b h = (and_true (leb 33 b) (is_plain b) h).1

word_no_space : (b : ℕ) → is_word_byte b ≡ true → is_space b ≡ false
word_no_space b h = grind (arith, nat_tests, h)

digit_word : (b : ℕ) → is_ascii_digit b ≡ true → is_word_byte b ≡ true
digit_word b h = grind (arith, nat_tests, h)

printable_no_end : (b : ℕ) → is_printable b ≡ true → is_line_end b ≡ false
printable_no_end b h = grind (arith, nat_tests, h)

pub plain_is_printable : (bytes : List ℕ) → list_all is_plain bytes ≡ true → list_all is_printable bytes ≡ true
plain_is_printable bytes h = weaker is_plain is_printable plain_printable bytes h

pub word_is_plain : (bytes : List ℕ) → list_all is_word_byte bytes ≡ true → list_all is_plain bytes ≡ true
word_is_plain bytes h = weaker is_word_byte is_plain word_plain bytes h

-- ---- words

pub record IsWord (word : List ℕ) : Type 0 where
  pub some : 0 < length word
  pub bytes : list_all is_word_byte word ≡ true

-- the digits of a number are a word
pub decimal_word : (n : ℕ) → n < 2 ^ 64 → IsWord (decimal n)
decimal_word n h = record {
  some = decimal_nonempty n h;
  bytes = weaker is_ascii_digit is_word_byte digit_word (decimal n) (are_digits (decimal n) (decimal_is_IsNumeral n h).0.1);
}

-- a byte that isn't a space
word_byte : (b : ℕ) (rest : List ℕ) → is_space b ≡ false → words_of is_space (b ∷ rest) ≡ onto_first b (begins_word is_space rest) (words_of is_space rest)
word_byte b rest e = rw e refl

-- a word, and a text that doesn't begin with a byte of a word
pub words_by : (word rest : List ℕ) → 0 < length word → list_all is_word_byte word ≡ true → begins_word is_space rest ≡ false
    → words_of is_space (word ++ rest) ≡ word ∷ words_of is_space rest
words_by [] rest some bytes ends = absurd (omega arith)
words_by (b ∷ []) rest some bytes ends =
    let parts = and_true (is_word_byte b) true bytes in
    word_byte b rest (word_no_space b parts.0) ∙ ap (λ t. onto_first b t (words_of is_space rest)) ends
words_by (b ∷ c ∷ cs) rest some bytes ends =
    let parts = and_true (is_word_byte b) (list_all is_word_byte (c ∷ cs)) bytes in
    let second = and_true (is_word_byte c) (list_all is_word_byte cs) parts.1 in
    word_byte b ((c ∷ cs) ++ rest) (word_no_space b parts.0)
    ∙ ap (λ t. onto_first b (not t) (words_of is_space ((c ∷ cs) ++ rest))) (word_no_space c second.0)
    ∙ ap (onto_first b true) (words_by (c ∷ cs) rest (omega arith) parts.1 ends)

-- a word before a space
pub word_then : (word rest : List ℕ) → IsWord word → words_of is_space (word ++ 32 ∷ rest) ≡ word ∷ words_of is_space rest
word_then word rest is = words_by word (32 ∷ rest) is.some is.bytes refl

-- a word at the end
pub word_last : (word : List ℕ) → IsWord word → words_of is_space word ≡ word ∷ []
word_last word is = ap (words_of is_space) (sym (append-nil word)) ∙ words_by word [] is.some is.bytes refl

pub word_printable : (word : List ℕ) → IsWord word → list_all is_printable word ≡ true
word_printable word is = plain_is_printable word (word_is_plain word is.bytes)

-- ---- lines

-- a printable text of these words, of at most 63 bytes
pub record IsLine (text : List ℕ) (words : List (List ℕ)) : Type 0 where
  pub printable : list_all is_printable text ≡ true
  pub short : length text ≤ 63
  pub said : words_of is_space text ≡ words

-- the words of a line that isn't a comment
pub line_words : (text : List ℕ) (words : List (List ℕ)) → IsLine text words → is_comment text ≡ false → words_of_line text ≡ Ok words
line_words text words is meant =
    let short = is.short in
    let fits : fits_line text ≡ true = le-leb (length text) 1048576 (omega arith) in
    rw (fits, meant, is.printable) (by_blank (is_blank_line (words_of is_space text)))
  where
    by_blank : (b : Bool) → (ensure (b || true) why.Text >> Ok (words_of is_space text)) ≡ Ok words
    by_blank true = ap Ok is.said
    by_blank false = ap Ok is.said

-- a printable line, and LF, before what follows
pub lines_then : (text more : List ℕ) → list_all is_printable text ≡ true → lines_of ((text ++ 10 ∷ []) ++ more) ≡ text ∷ lines_of more
lines_then [] more h = refl
lines_then (b ∷ bs) more h =
    let parts = and_true (is_printable b) (list_all is_printable bs) h in
    line_byte b ((bs ++ 10 ∷ []) ++ more) (printable_no_end b parts.0) ∙ ap (onto_line b) (lines_then bs more parts.1)
  where
    line_byte : (b : ℕ) (rest : List ℕ) → is_line_end b ≡ false → lines_of (b ∷ rest) ≡ onto_line b (lines_of rest)
    line_byte b rest e = rw e refl
