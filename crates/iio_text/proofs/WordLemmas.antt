-- Lemmas on the words of a line.
use Rattle.std.proofs.Common.{◌≡◌, ℕ, ◌<◌, Bool, true, false, not, List, [], ◌∷◌, length, take, drop, refl, arith, ap, ◌∙◌, sym, one-add}
use Rattle.std.specs.List.{list_any, prefix_len, position_or_len}
use Rattle.std.proofs.lemmas.Bool.{not-true}
use Rattle.std.proofs.lemmas.List.{take-append-drop, nil_from_length}
use Rattle.std.proofs.lemmas.Grind.{common_steps}
use Rattle.iio_text.specs.Words.{begins_word, words_of, IsFirstWord}

skip_byte : (blank : ℕ → Bool) (b : ℕ) (bs : List ℕ) (v : Bool) → blank b ≡ v → words_of blank (drop (prefix_len blank bs) bs) ≡ words_of blank bs
    → words_of blank (drop (prefix_len blank (b ∷ bs)) (b ∷ bs)) ≡ words_of blank (b ∷ bs)
skip_byte blank b bs true e ih = rw (e, one-add) ih
skip_byte blank b bs false e ih = rw (e, e) refl

-- blanks in front don't count
pub words_of-skip : (blank : ℕ → Bool) (s : List ℕ) → words_of blank (drop (prefix_len blank s) s) ≡ words_of blank s
words_of-skip blank [] = refl
words_of-skip blank (b ∷ bs) = skip_byte blank b bs (blank b) refl (words_of-skip blank bs)

-- after the blanks a word begins, if anything stands there
begins_byte : (blank : ℕ → Bool) (b : ℕ) (bs : List ℕ) (v : Bool) → blank b ≡ v
    → (0 < length (drop (prefix_len blank bs) bs) → begins_word blank (drop (prefix_len blank bs) bs) ≡ true)
    → 0 < length (drop (prefix_len blank (b ∷ bs)) (b ∷ bs)) → begins_word blank (drop (prefix_len blank (b ∷ bs)) (b ∷ bs)) ≡ true
begins_byte blank b bs true e ih h = rw (e, one-add) (ih (rw (e, one-add) at h))
begins_byte blank b bs false e ih h = rw e (ap not e)

pub begins_word-drop : (blank : ℕ → Bool) (s : List ℕ) → 0 < length (drop (prefix_len blank s) s) → begins_word blank (drop (prefix_len blank s) s) ≡ true
begins_word-drop blank [] h = absurd (omega arith)
begins_word-drop blank (b ∷ bs) h = begins_byte blank b bs (blank b) refl (begins_word-drop blank bs) h

stops_at : (blank : ℕ → Bool) (bs : List ℕ) → begins_word blank bs ≡ false → position_or_len blank bs ≡ 0
stops_at blank [] h = refl
stops_at blank (b ∷ bs) h = rw h refl

-- a text that begins with a word is that word and what follows it
pub record SplitsWord (blank : ℕ → Bool) (s : List ℕ) : Type 0 where
  pub words : words_of blank s ≡ take (position_or_len blank s) s ∷ words_of blank (drop (position_or_len blank s) s)
  pub some : 0 < position_or_len blank s
  pub no_blank : list_any blank (take (position_or_len blank s) s) ≡ false
  pub ended : begins_word blank (drop (position_or_len blank s) s) ≡ false

split_byte : (blank : ℕ → Bool) (b : ℕ) (bs : List ℕ) → blank b ≡ false → (v : Bool) → begins_word blank bs ≡ v
    → (begins_word blank bs ≡ true → SplitsWord blank bs) → SplitsWord blank (b ∷ bs)
split_byte blank b bs e true f ih = let h = ih f in record {
  words = rw (e, one-add, f, h.words) refl;
  some = rw e (omega arith);
  no_blank = rw (e, one-add, e) h.no_blank;
  ended = rw (e, one-add) h.ended;
}
split_byte blank b bs e false f ih = let stops = stops_at blank bs f in record {
  words = rw (e, f, stops) refl;
  some = rw e (omega arith);
  no_blank = rw (e, stops) (rw e refl);
  ended = rw (e, stops) f;
}

pub splits_word : (blank : ℕ → Bool) (s : List ℕ) → begins_word blank s ≡ true → SplitsWord blank s
splits_word blank [] h = absurd cc
splits_word blank (b ∷ bs) h = split_byte blank b bs (not-true (blank b) h) (begins_word blank bs) refl (splits_word blank bs)

some_taken : (n : ℕ) (s : List ℕ) → 0 < n → 0 < length s → 0 < length (take n s)
some_taken n s h k = grind (arith, common_steps)

-- what stands after the blanks, cut at the next blank, is the first word and the text after it
pub first_word_is : (blank : ℕ → Bool) (text begun word rest : List ℕ) → begun ≡ drop (prefix_len blank text) text → 0 < length begun
    → word ≡ take (position_or_len blank begun) begun → rest ≡ drop (position_or_len blank begun) begun → IsFirstWord blank text word rest
first_word_is blank text begun word rest a b c d =
    let begins : begins_word blank begun ≡ true = rw a (begins_word-drop blank text (rw a at b)) in
    let h = splits_word blank begun begins in
    let skipped : words_of blank begun ≡ words_of blank text = rw a (words_of-skip blank text) in record {
      words = rw (c, d) (sym skipped ∙ h.words);
      parts = rw (c, d, take-append-drop (position_or_len blank begun) begun, a) (sym (take-append-drop (prefix_len blank text) text));
      some = rw c (some_taken (position_or_len blank begun) begun h.some b);
      no_blank = rw c h.no_blank;
      ended = rw d h.ended;
    }

-- if nothing stands after the blanks, there is no word
pub no_word : (blank : ℕ → Bool) (text : List ℕ) → length (drop (prefix_len blank text) text) ≡ 0 → words_of blank text ≡ []
no_word blank text h = sym (words_of-skip blank text) ∙ ap (words_of blank) (nil_from_length _ h)
