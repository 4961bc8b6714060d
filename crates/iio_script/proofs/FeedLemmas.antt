-- A feed's quoted text comes after its name, which has no quote in it.
use Rattle.std.proofs.Common.{◌≡◌, ℕ, Bool, true, nat_le, List, [], ◌∷◌, ◌++◌, length, take_while, None, Result, refl, sym, subst, rules}
use Rattle.std.specs.List.{list_all}
use Rattle.std.specs.Char.{is_ascii_alphabetic}
use Rattle.iio_attr.specs.Name.{is_name, is_name_byte}
use Rattle.iio_text.specs.declared.faults.LineFault.{LineFault}
use Rattle.iio_text.specs.LineFault.{Tells}
use Rattle.iio_text.specs.Words.{IsFirstWord, from_word, is_space, words_of}
use Rattle.iio_desc.specs.Description.{Description}
use Rattle.iiod_grammar.specs.Command.{entry_of}
use Rattle.iio_text.specs.declared.refusals.Why.{Why}
use Rattle.iio_history.specs.Transcript.{Step}
use Rattle.iio_history.specs.Script.{begins_quote, feed_step, from_quote, has_quote_first, step_by, step_words}
use Rattle.iio_script.specs.Step.{feed_of}

-- ---- the word that begins with a quote

quote_byte : (b : ℕ) (bs : List ℕ) (t : Bool) → is_space b ≡ t → has_quote_first (words_of is_space bs) ≡ begins_quote (from_word bs)
    → has_quote_first (words_of is_space (b ∷ bs)) ≡ begins_quote (from_word (b ∷ bs))
quote_byte b bs t space ih = search rules

quote_first : (text : List ℕ) → has_quote_first (words_of is_space text) ≡ begins_quote (from_word text)
quote_first [] = refl
quote_first (b ∷ bs) = quote_byte b bs (is_space b) refl (quote_first bs)

-- ---- the first quote of a line

space_past : (b : ℕ) (bs rest : List ℕ) (t : Bool) → is_space b ≡ t → from_quote (take_while is_space bs ++ rest) ≡ from_quote rest
    → from_quote (take_while is_space (b ∷ bs) ++ rest) ≡ from_quote rest
space_past b bs rest t space ih = search rules

past_spaces : (text rest : List ℕ) → from_quote (take_while is_space text ++ rest) ≡ from_quote rest
past_spaces [] rest = refl
past_spaces (b ∷ bs) rest = space_past b bs rest (is_space b) refl (past_spaces bs rest)

name_byte_past : (b : ℕ) (bs rest : List ℕ) (t : Bool) → is_name_byte b ≡ t → list_all is_name_byte (b ∷ bs) ≡ true
    → (list_all is_name_byte bs ≡ true → from_quote (bs ++ rest) ≡ from_quote rest) → from_quote ((b ∷ bs) ++ rest) ≡ from_quote rest
name_byte_past b bs rest t byte all ih = search rules

past_name : (name rest : List ℕ) → list_all is_name_byte name ≡ true → from_quote (name ++ rest) ≡ from_quote rest
past_name [] rest all = refl
past_name (b ∷ bs) rest all = name_byte_past b bs rest (is_name_byte b) refl all (past_name bs rest)

word_at : (b : ℕ) (bs : List ℕ) (t : Bool) → is_space b ≡ t → begins_quote (from_word (b ∷ bs)) ≡ true
    → (begins_quote (from_word bs) ≡ true → from_quote bs ≡ from_word bs) → from_quote (b ∷ bs) ≡ from_word (b ∷ bs)
word_at b bs t space quote ih = search rules

at_word : (text : List ℕ) → begins_quote (from_word text) ≡ true → from_quote text ≡ from_word text
at_word [] quote = refl
at_word (b ∷ bs) quote = word_at b bs (is_space b) refl quote (at_word bs)

first_byte_past : (b : ℕ) (bs rest : List ℕ) (t u : Bool) → is_ascii_alphabetic b ≡ t → nat_le (length bs) 31 ≡ u → is_name (b ∷ bs) ≡ true
    → from_quote ((b ∷ bs) ++ rest) ≡ from_quote rest
first_byte_past b bs rest t u byte size is = search (rules, past_name)

past_whole_name : (name rest : List ℕ) → is_name name ≡ true → from_quote (name ++ rest) ≡ from_quote rest
past_whole_name name rest is = search (rules, first_byte_past)

quote_at : (line name words : List ℕ) → IsFirstWord is_space line name words → is_name name ≡ true → begins_quote (from_word words) ≡ true
    → from_quote line ≡ from_word words
quote_at line name words first is quote = search (rules, past_spaces, past_whole_name, at_word)

-- ---- a feed

by_quote : (line name words : List ℕ) → IsFirstWord is_space line name words → is_name name ≡ true → (t : Bool) → begins_quote (from_word words) ≡ t
    → feed_step line name (words_of is_space words) ≡ feed_of name (from_word words)
by_quote line name words first is t quote = search (rules, quote_first, quote_at)

by_name : (line name words : List ℕ) → IsFirstWord is_space line name words → (t : Bool) → is_name name ≡ t
    → feed_step line name (words_of is_space words) ≡ feed_of name (from_word words)
by_name line name words first t is = search (rules, by_quote)

feed_is : (line name words : List ℕ) → IsFirstWord is_space line name words → feed_step line name (words_of is_space words) ≡ feed_of name (from_word words)
feed_is line name words first = by_name line name words first (is_name name) refl

-- a line whose first word begins no other step
pub feed_line : (desc : Description) (line name words : List ℕ) → entry_of step_words name ≡ None → IsFirstWord is_space line name words
    → step_by desc line name (words_of is_space words) (entry_of step_words name) ≡ feed_of name (from_word words)
feed_line desc line name words none first = rw none (feed_is line name words first)

pub feed_told : (desc : Description) (line name words : List ℕ) (e : LineFault) → entry_of step_words name ≡ None → IsFirstWord is_space line name words
    → Tells e (feed_of name (from_word words)) → Tells e (step_by desc line name (words_of is_space words) (entry_of step_words name))
feed_told desc line name words e none first told = subst (λ (reading : Result Step Why). Tells e reading) (sym (feed_line desc line name words none first)) told
