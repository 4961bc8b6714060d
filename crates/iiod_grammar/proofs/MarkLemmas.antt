-- The marks of a text, and its first word by them.
use Rattle.std.proofs.Common.{◌≡◌, ℕ, ◌+◌, ◌-◌, ◌*◌, ◌/◌, ◌%◌, ◌^◌, ◌<◌, ◌≤◌, Bool, true, false, not, List, [], ◌∷◌, map, cond, length, get_or, take, drop, refl, sym, ap, ap₂, subst, suc, zero, one-add, div-one, pow_mono, pow_pos, shr-shr, ◌∙◌, arith, bit_or, inl, inr}
use Rattle.std.proofs.lemmas.Bool.{cases_lt, le-leb, lt-leb}
use Rattle.std.proofs.lemmas.Simd.{mask_l-lt, bit_mask_l, trailing_mask_l}
use Rattle.std.proofs.lemmas.List.{length-map, length-drop, length-take, take-map, drop-map, take_all, get_or-take, get_or-drop}
use Rattle.std.proofs.lemmas.Nat.Bits.{bit_at_or, same_from_bits, bit_at_cat_low, bit_at_cat_high, bit_at-zero, bit_at_above, bit_at-trailing_ones}
use Rattle.std.proofs.lemmas.Nat.{shl_whole}
use Rattle.std.specs.Int.{w64, bit_at, trailing_zeros, trailing_ones}
use Rattle.std.specs.List.{position_or_len, prefix_len}
use native.Mathlib.Nat.{zero-div}
use lib.Lanes.{chunk, mask_l}
use Rattle.iio_text.specs.Words.{is_blank, words_of}
use Rattle.iiod_grammar.specs.Marks.{is_solid, marks_of, kept_marks}

-- ---- the marks of two loads that together hold all bytes, some of them twice

bits_joined : (ms : List Bool) (n m i : ℕ) → m ≤ length ms → length ms ≤ n + m
    → bit_at (bit_or (mask_l (take n ms)) (mask_l (drop (length ms - m) ms) * 2 ^ (length ms - m))) i ≡ bit_at (mask_l ms) i
bits_joined ms n m i enough few =
    let k = length ms - m in
    let a = mask_l (take n ms) in
    let b = mask_l (drop k ms) in
    let bit : ℕ = cond (get_or ms i false) 1 0 in
    let both = bit_at_or a (b * 2 ^ k) i in
    let whole : bit_at (mask_l ms) i ≡ bit = bit_mask_l ms i in
    let none : b * 2 ^ k ≡ b * 2 ^ k + 0 = omega arith in
    let front : i < n → bit_at a i ≡ bit = λ h. bit_mask_l (take n ms) i ∙ ap (λ (v : Bool). cond v 1 0) (get_or-take n ms i false h) in
    elim (cases_lt i k) [
      | inl low ↦
          let back : bit_at (b * 2 ^ k) i ≡ 0 = ap (λ x. bit_at x i) none ∙ bit_at_cat_low b k 0 i low ∙ bit_at-zero i in
          omega (arith, both, whole, back, front (omega (arith, low, few)))
      | inr high ↦
          let at : k + (i - k) ≡ i = omega (arith, high) in
          let back : bit_at (b * 2 ^ k) i ≡ bit =
          ap (λ x. bit_at x i) none ∙ bit_at_cat_high b k 0 i (omega (arith, pow_pos k)) high
          ∙ bit_mask_l (drop k ms) (i - k) ∙ ap (λ (v : Bool). cond v 1 0) (get_or-drop k ms (i - k) false ∙ ap (λ j. get_or ms j false) at) in
          elim (cases_lt i n) [
            | inl within ↦ omega (arith, both, whole, back, front within)
            | inr beyond ↦
                let size : length (take n ms) ≤ i = omega (arith, beyond, length-take n ms) in
                let gone : bit_at a i ≡ 0 = bit_at_above a (length (take n ms)) i (mask_l-lt (take n ms)) size in
                omega (arith, both, whole, back, gone)
          ]
    ]

pub marks_joined : (text : List ℕ) (n m a b : ℕ) → m ≤ length text → length text ≤ n + m → length text ≤ 64
    → a ≡ marks_of (chunk 0 n text) → b ≡ marks_of (chunk (length text - m) m text) → bit_or a (b * 2 ^ (length text - m) % 2 ^ 64) ≡ marks_of text
marks_joined text n m a b enough few fits front back =
    let ms = map is_solid text in
    let k = length text - m in
    let long : length ms ≡ length text = length-map text is_solid in
    let rest : length (drop k text) ≡ m = omega (arith, length-drop k text, enough) in
    let first : a ≡ mask_l (take n ms) = front ∙ ap mask_l (sym (take-map is_solid n text)) in
    let last : b ≡ mask_l (drop k ms) = back ∙ ap marks_of (take_all m (drop k text) (omega (arith, rest))) ∙ ap mask_l (sym (drop-map is_solid k text)) in
    let small : mask_l (drop k ms) < 2 ^ m = subst (λ j. mask_l (drop k ms) < 2 ^ j) (omega (arith, length-drop k ms, long, enough)) (mask_l-lt (drop k ms)) in
    let shifted : mask_l (drop k ms) * 2 ^ k % 2 ^ 64 ≡ mask_l (drop k ms) * 2 ^ k =
    shl_whole (mask_l (drop k ms)) m k 64 small (omega (arith, enough, fits)) in
    ap₂ (λ x y. bit_or x (y * 2 ^ k % 2 ^ 64)) first last ∙ ap (λ y. bit_or (mask_l (take n ms)) y) shifted
    ∙ subst (λ j. bit_or (mask_l (take n ms)) (mask_l (drop (j - m) ms) * 2 ^ (j - m)) ≡ mask_l ms) long
    (same_from_bits _ _ (λ i. bits_joined ms n m i (omega (arith, long, enough)) (omega (arith, long, few))))

-- ---- the first word, by the marks

half : (m : Bool) (n : ℕ) → (cond m 1 0 + 2 * n) / 2 ≡ n
half true n = omega arith
half false n = omega arith

mask_shift : (k : ℕ) (ms : List Bool) → mask_l ms / 2 ^ k ≡ mask_l (drop k ms)
mask_shift zero ms = div-one (mask_l ms)
mask_shift (suc k) [] = zero-div (2 ^ suc k)
mask_shift (suc k) (m ∷ ms) =
    let e : suc k ≡ 1 + k = omega arith in
    ap (λ j. mask_l (m ∷ ms) / 2 ^ j) e ∙ sym (shr-shr (mask_l (m ∷ ms)) 1 k) ∙ ap (λ x. x / 2 ^ k) (half m (mask_l ms)) ∙ mask_shift k ms

pub marks_shift : (k : ℕ) (text : List ℕ) → marks_of text / 2 ^ k ≡ marks_of (drop k text)
marks_shift k text = mask_shift k (map is_solid text) ∙ ap mask_l (drop-map is_solid k text)

twice : (v : Bool) → not (not v) ≡ v
twice true = refl
twice false = refl

same_start : (text : List ℕ) → prefix_len (λ b. not (is_solid b)) text ≡ prefix_len is_blank text
same_start [] = refl
same_start (b ∷ bs) = ap₂ (λ (v : Bool) n. cond v (1 + n) 0) (twice (is_blank b)) (same_start bs)

pub start_at : (text : List ℕ) → length text ≤ 64 → 0 < marks_of text → trailing_zeros w64 (marks_of text) ≡ prefix_len is_blank text
start_at text few some = trailing_mask_l is_solid 64 text few some ∙ same_start text

by_bits : (p : ℕ → Bool) (xs : List ℕ) (t : ℕ) → ((i : ℕ) → i < t → get_or (map p xs) i false ≡ true) → get_or (map p xs) t false ≡ false → t ≡ prefix_len p xs
by_bits p [] zero f e = refl
by_bits p [] (suc t) f e = absurd (cc (f 0 (omega arith)))
by_bits p (x ∷ xs) zero f e = rw e refl
by_bits p (x ∷ xs) (suc t) f e = rw (f 0 (omega arith)) (omega (arith, by_bits p xs t (λ i h. f (suc i) (omega arith)) e))

is_set : (v : Bool) → ◌≡◌ {A = ℕ} (cond v 1 0) 1 → v ≡ true
is_set true h = refl
is_set false h = absurd (omega arith)

is_clear : (v : Bool) → ◌≡◌ {A = ℕ} (cond v 1 0) 0 → v ≡ false
is_clear true h = absurd (omega arith)
is_clear false h = refl

pub end_at : (text : List ℕ) → length text ≤ 63 → trailing_ones w64 (marks_of text) ≡ position_or_len is_blank text
end_at text few =
    let ms = map is_solid text in
    let small : mask_l ms < 2 ^ length text = subst (λ j. mask_l ms < 2 ^ j) (length-map text is_solid) (mask_l-lt ms) in
    let below : mask_l ms + 1 < 2 ^ 64 = omega (arith, small, pow_mono few) in
    let bits = bit_at-trailing_ones w64 (mask_l ms) below in
    by_bits is_solid text _ (λ i h. is_set _ (sym (bit_mask_l ms i) ∙ bits.2 i h)) (is_clear _ (sym (bit_mask_l ms _) ∙ bits.1))

left_byte : (b : ℕ) (bs : List ℕ) (v : Bool) → is_blank b ≡ v → (0 < marks_of bs → 0 < length (drop (prefix_len is_blank bs) bs)) → 0 < marks_of (b ∷ bs)
    → 0 < length (drop (prefix_len is_blank (b ∷ bs)) (b ∷ bs))
left_byte b bs true e ih h = rw (e, one-add) (ih (omega (arith, rw e at h)))
left_byte b bs false e ih h = rw e (omega arith)

pub some_left : (text : List ℕ) → 0 < marks_of text → 0 < length (drop (prefix_len is_blank text) text)
some_left [] h = absurd (omega arith)
some_left (b ∷ bs) h = left_byte b bs (is_blank b) refl (some_left bs) h

none_byte : (b : ℕ) (bs : List ℕ) (v : Bool) → is_blank b ≡ v → (marks_of bs ≡ 0 → words_of is_blank bs ≡ []) → marks_of (b ∷ bs) ≡ 0
    → words_of is_blank (b ∷ bs) ≡ []
none_byte b bs true e ih h = rw e (ih (omega (arith, rw e at h)))
none_byte b bs false e ih h = absurd (omega (arith, rw e at h))

none_marked : (text : List ℕ) → marks_of text ≡ 0 → words_of is_blank text ≡ []
none_marked [] h = refl
none_marked (b ∷ bs) h = none_byte b bs (is_blank b) refl (none_marked bs) h

-- ---- the marks that are kept

pub kept_few : (text : List ℕ) → length text ≤ 63 → kept_marks text ≡ marks_of text
kept_few text few = rw (le-leb (length text) 63 few) refl

pub kept_long : (text : List ℕ) → 63 < length text → kept_marks text ≡ 0
kept_long text long = rw (lt-leb (length text) 63 long) refl

pub no_words_kept : (text : List ℕ) → kept_marks text ≡ 0 → length text ≤ 63 → words_of is_blank text ≡ []
no_words_kept text none few = none_marked text (sym (kept_few text few) ∙ none)

pub some_kept : (text : List ℕ) (marks : ℕ) → marks ≡ kept_marks text → 0 < marks → (length text ≤ 63) × (marks ≡ marks_of text)
some_kept text marks is some =
    elim (cases_lt 63 (length text)) [
      | inl long ↦ absurd (omega (arith, is, some, kept_long text long))
      | inr few ↦ (few, is ∙ kept_few text few)
    ]

pub marks_small : (text : List ℕ) (n : ℕ) → length text ≤ n → marks_of text < 2 ^ n
marks_small text n few =
    let small : marks_of text < 2 ^ length text = subst (λ j. marks_of text < 2 ^ j) (length-map text is_solid) (mask_l-lt (map is_solid text)) in
    omega (arith, small, pow_mono few)

-- if a mark is kept, the first word begins at the lowest, and the text from there on has the marks from there on
pub record Begins (text : List ℕ) (marks : ℕ) : Type 0 where
  pub start : trailing_zeros w64 marks ≡ prefix_len is_blank text
  pub some : 0 < length (drop (prefix_len is_blank text) text)
  pub few : length (drop (prefix_len is_blank text) text) ≤ 63
  pub marked : marks / 2 ^ trailing_zeros w64 marks ≡ marks_of (drop (prefix_len is_blank text) text)

pub begins : (text : List ℕ) (marks : ℕ) → marks ≡ kept_marks text → 0 < marks → Begins text marks
begins text marks is some =
    let kept = some_kept text marks is some in
    let few = kept.0 in
    let any : 0 < marks_of text = omega (arith, some, kept.1) in
    let start : trailing_zeros w64 marks ≡ prefix_len is_blank text = ap (trailing_zeros w64) kept.1 ∙ start_at text (omega (arith, few)) any in record {
      start = start;
      some = some_left text any;
      few = omega (arith, few, length-drop (prefix_len is_blank text) text);
      marked = ap₂ (λ m j. m / 2 ^ j) kept.1 start ∙ marks_shift (prefix_len is_blank text) text;
    }

pub kept_rest : (begun : List ℕ) (marks k : ℕ) → length begun ≤ 63 → marks ≡ marks_of begun → marks / 2 ^ k ≡ kept_marks (drop k begun)
kept_rest begun marks k few is =
    ap (λ m. m / 2 ^ k) is ∙ marks_shift k begun ∙ sym (kept_few (drop k begun) (omega (arith, few, length-drop k begun)))
