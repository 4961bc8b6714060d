-- Lemmas on escaped texts.
use borrow.Rule.Slice.PartMut.{put_mid, mid_of}
use Rattle.std.proofs.Common.{◌≡◌, ℕ, zero, suc, ◌+◌, ◌-◌, ◌*◌, ◌/◌, ◌%◌, ◌<◌, ◌≤◌, Bool, true, false, not, cond, eqb, List, [], ◌∷◌, ◌++◌, length, get_or, take, drop, Some, Result, Ok, Err, refl, arith, ap, inl, inr, ◌∙◌, sym, subst, add-zero, add-one, append_assoc, length-append, length-drop, append-nil, None, Fits, w8}
use Rattle.std.specs.Char.{digit_char}
use Rattle.std.specs.List.{prefix_len, position_or_len}
use Rattle.std.proofs.Math.Seq.{take-append_seam, drop-append_seam}
use Rattle.std.proofs.lemmas.List.{drop-drop, drop_all}
use Rattle.std.proofs.lemmas.Bool.Decides.{nat_tests, eqb_tells}
use Rattle.iio_text.proofs.PrintedLemmas.{take_grown}
use Rattle.iio_text.specs.Escape.{is_plain, escaped_byte, escaped, hex_value, hex_byte, piece_of, piece_then, before, unescaped, unescaped_from, between_quotes, quoted, quoted_of}

-- the bytes that belong to the piece before mean nothing
pub passed_over : (place n : ℕ) (s : List ℕ) → n ≤ length s → unescaped_from place n s ≡ unescaped_from (place + n) 0 (drop n s)
passed_over place zero s h = rw add-zero refl
passed_over place (suc n) [] h = absurd (omega arith)
passed_over place (suc n) (b ∷ bs) h =
    let e : place + 1 + n ≡ place + suc n = omega arith in
    passed_over (place + 1) n bs (omega arith) ∙ ap (λ p. unescaped_from p 0 (drop n bs)) e

pub before-before : (xs ys : List ℕ) (r : Result (List ℕ) ℕ) → before xs (before ys r) ≡ before (xs ++ ys) r
before-before xs ys (Ok more) = rw append_assoc refl
before-before xs ys (Err place) = refl

-- a piece, and then the text after it
pub piece_step : (place byte more : ℕ) (s : List ℕ) → piece_of s ≡ Some (byte, more) → more < length s
    → unescaped_from place 0 s ≡ before (byte ∷ []) (unescaped_from (place + (more + 1)) 0 (drop (more + 1) s))
piece_step place byte more [] e h = absurd (omega arith)
piece_step place byte more (b ∷ rest) e h =
    let p : place + 1 + more ≡ place + (more + 1) = omega arith in
    ap (λ o. piece_then place o (λ m. unescaped_from (place + 1) m rest)) e
    ∙ ap (before (byte ∷ [])) (passed_over (place + 1) more rest (omega arith) ∙ ap (λ q. unescaped_from q 0 (drop more rest)) p)
    ∙ rw add-one refl

-- one turn of the reading loop
pub piece_more : (text out : List ℕ) (place byte more : ℕ) → unescaped text ≡ before out (unescaped_from place 0 (drop place text))
    → piece_of (drop place text) ≡ Some (byte, more) → more < length (drop place text)
    → unescaped text ≡ before (out ++ byte ∷ []) (unescaped_from (place + (more + 1)) 0 (drop (place + (more + 1)) text))
piece_more text out place byte more so_far e h =
    so_far ∙ ap (before out) (piece_step place byte more (drop place text) e h)
    ∙ before-before out (byte ∷ []) _
    ∙ ap (λ s. before (out ++ byte ∷ []) (unescaped_from (place + (more + 1)) 0 s)) (drop-drop (more + 1) place text)

hex_value-digit_char : (d : ℕ) → d < 16 → hex_value (digit_char d) ≡ Some d
hex_value-digit_char d h = grind (arith, nat_tests)

hex_byte-digits : (b : ℕ) → b < 256 → hex_byte (hex_value (digit_char (b / 16))) (hex_value (digit_char (b % 16))) ≡ Some (b, 3)
hex_byte-digits b h =
    let high = hex_value-digit_char (b / 16) (omega arith) in
    let low = hex_value-digit_char (b % 16) (omega arith) in
    let e : 16 * (b / 16) + b % 16 ≡ b = omega arith in
    rw (high, low, e) refl

-- a printed byte is one piece, which means it
abbrev IsPiece : List ℕ → ℕ → Type 0
IsPiece t b = piece_of (escaped_byte b ++ t) ≡ Some (b, length (escaped_byte b) - 1)

piece_plain : (b : ℕ) (t : List ℕ) → eqb b 10 ≡ false → eqb b 34 ≡ false → eqb b 92 ≡ false → is_plain b ≡ true → IsPiece t b
piece_plain b t n q s p =
    let e : escaped_byte b ≡ b ∷ [] = rw (n, p, q, s) refl in
    rw e (rw (p, s) refl)

piece_other : (b : ℕ) (t : List ℕ) → b < 256 → eqb b 10 ≡ false → eqb b 34 ≡ false → eqb b 92 ≡ false → is_plain b ≡ false → IsPiece t b
piece_other b t h n q s p =
    let e : escaped_byte b ≡ 92 ∷ 120 ∷ digit_char (b / 16) ∷ digit_char (b % 16) ∷ [] = rw (n, p, q, s) refl in
    rw e (hex_byte-digits b h)

piece_by : (b : ℕ) (t : List ℕ) → b < 256 → eqb b 10 ≡ false → eqb b 34 ≡ false → eqb b 92 ≡ false → (v : Bool) → is_plain b ≡ v → IsPiece t b
piece_by b t h n q s true p = piece_plain b t n q s p
piece_by b t h n q s false p = piece_other b t h n q s p

piece_of-escaped_byte : (b : ℕ) (t : List ℕ) → b < 256 → IsPiece t b
piece_of-escaped_byte b t h =
    elim (eqb_tells b 10) [
      | inl e ↦ subst (IsPiece t) (sym e.1) refl
      | inr n ↦ elim (eqb_tells b 34) [
        | inl e ↦ subst (IsPiece t) (sym e.1) refl
        | inr q ↦ elim (eqb_tells b 92) [
          | inl e ↦ subst (IsPiece t) (sym e.1) refl
          | inr s ↦ piece_by b t h n.0 q.0 s.0 (is_plain b) refl
        ]
      ]
    ]

escaped_byte-some : (b : ℕ) → 0 < length (escaped_byte b)
escaped_byte-some b = grind (arith, nat_tests)

escaped_step : (place b : ℕ) (t : List ℕ) → b < 256
    → unescaped_from place 0 (escaped_byte b ++ t) ≡ before (b ∷ []) (unescaped_from (place + length (escaped_byte b)) 0 t)
escaped_step place b t h =
    let some = escaped_byte-some b in
    let whole : length (escaped_byte b) - 1 + 1 ≡ length (escaped_byte b) = omega arith in
    let room : length (escaped_byte b) - 1 < length (escaped_byte b ++ t) = omega (arith, length-append (escaped_byte b) t) in
    piece_step place b (length (escaped_byte b) - 1) (escaped_byte b ++ t) (piece_of-escaped_byte b t h) room
    ∙ ap (λ n. before (b ∷ []) (unescaped_from (place + n) 0 (drop n (escaped_byte b ++ t)))) whole
    ∙ ap (λ s. before (b ∷ []) (unescaped_from (place + length (escaped_byte b)) 0 s)) (drop-append_seam (escaped_byte b) t)

-- a printed text means the bytes that were printed
pub unescaped_from-escaped : (place : ℕ) (bs : List ℕ) → ((k : ℕ) → Fits w8 (get_or bs k 0)) → unescaped_from place 0 (escaped bs) ≡ Ok bs
unescaped_from-escaped place [] h = refl
unescaped_from-escaped place (b ∷ bs) h =
    escaped_step place b (escaped bs) (omega (arith, h 0))
    ∙ ap (before (b ∷ [])) (unescaped_from-escaped (place + length (escaped_byte b)) bs (λ k. h (suc k)))

get_or-append_seam : (xs : List ℕ) → get_or (xs ++ 34 ∷ []) (length xs) 0 ≡ 34
get_or-append_seam [] = refl
get_or-append_seam (x ∷ xs) = get_or-append_seam xs

between_quotes-quoted : (xs : List ℕ) → between_quotes (34 ∷ (xs ++ 34 ∷ [])) ≡ Some xs
between_quotes-quoted xs =
    let e : length (xs ++ 34 ∷ []) - 1 ≡ length xs = omega (arith, length-append xs (34 ∷ [])) in
    rw (e, get_or-append_seam xs, take-append_seam xs (34 ∷ [])) refl

-- a quoted text means the bytes that were quoted
pub quoted_of-quoted : (bs : List ℕ) → ((k : ℕ) → Fits w8 (get_or bs k 0)) → quoted_of (quoted bs) ≡ Some bs
quoted_of-quoted bs h = rw (between_quotes-quoted (escaped bs)) (rw (unescaped_from-escaped 0 bs h) refl)

before-nil : (r : Result (List ℕ) ℕ) → before [] r ≡ r
before-nil (Ok more) = refl
before-nil (Err place) = refl

-- a byte that stands for itself is one piece
piece_of-plain : (b : ℕ) (rest : List ℕ) → is_plain b ≡ true → piece_of (b ∷ rest) ≡ Some (b, 0)
piece_of-plain b rest p = grind (arith, nat_tests, p)

-- the bytes before the first that doesn't stand for itself
plain_step : (t : Bool) (n : ℕ) → cond (not (not t)) (1 + n) 0 ≡ cond t (1 + n) 0
plain_step true n = refl
plain_step false n = refl

pub plain_place : (s : List ℕ) → position_or_len (λ b. not (is_plain b)) s ≡ prefix_len is_plain s
plain_place [] = refl
plain_place (b ∷ bs) = ap (λ n. cond (not (not (is_plain b))) (1 + n) 0) (plain_place bs) ∙ plain_step (is_plain b) (prefix_len is_plain bs)

-- what a text means from a place on: its first n bytes, followed by what the text after them means
abbrev Means : ℕ → List ℕ → ℕ → Type 0
Means place s n = unescaped_from place 0 s ≡ before (take n s) (unescaped_from (place + n) 0 (drop n s))

run_by : (place b : ℕ) (rest : List ℕ) → Means (place + 1) rest (prefix_len is_plain rest) → (v : Bool) → is_plain b ≡ v
    → Means place (b ∷ rest) (prefix_len is_plain (b ∷ rest))
run_by place b rest more true p =
    let n = prefix_len is_plain rest in
    let one : 1 + n ≡ suc n = omega arith in
    let len : prefix_len is_plain (b ∷ rest) ≡ suc n = rw p one in
    let e : place + 1 + n ≡ place + suc n = omega arith in
    let whole : Means place (b ∷ rest) (suc n) =
    ap (λ o. piece_then place o (λ m. unescaped_from (place + 1) m rest)) (piece_of-plain b rest p)
    ∙ ap (before (b ∷ [])) more
    ∙ before-before (b ∷ []) (take n rest) _
    ∙ ap (λ q. before (b ∷ take n rest) (unescaped_from q 0 (drop n rest))) e in
    subst (Means place (b ∷ rest)) (sym len) whole
run_by place b rest more false p =
    let len : prefix_len is_plain (b ∷ rest) ≡ 0 = rw p refl in
    let whole : Means place (b ∷ rest) 0 = rw add-zero (sym (before-nil (unescaped_from place 0 (b ∷ rest)))) in
    subst (Means place (b ∷ rest)) (sym len) whole

-- the bytes at a text's beginning that stand for themselves, followed by what the text after them means
plain_run : (place : ℕ) (s : List ℕ) → Means place s (prefix_len is_plain s)
plain_run place [] = refl
plain_run place (b ∷ rest) = run_by place b rest (plain_run (place + 1) rest) (is_plain b) refl

-- what was read, with the bytes before the next one that doesn't stand for itself
pub run_more : (text out items : List ℕ) (place n k : ℕ) → unescaped text ≡ before out (unescaped_from place 0 (drop place text))
    → n ≡ position_or_len (λ b. not (is_plain b)) (drop place text) → k ≡ n
    → items ≡ out ++ mid_of place k text → unescaped text ≡ before items (unescaped_from (place + n) 0 (drop (place + n) text))
run_more text out items place n k so_far is same all =
    let after = drop place text in
    let len = prefix_len is_plain after in
    let e : n ≡ len = is ∙ plain_place after in
    rw (all, same, e) (so_far ∙ ap (before out) (plain_run place after)
    ∙ before-before out (take len after) _
    ∙ ap (λ s. before (out ++ take len after) (unescaped_from (place + len) 0 s)) (drop-drop len place text))

-- what was read, with those bytes copied into a room that has what was read before
pub copied_more : (text out grown room after : List ℕ) (place len n m k : ℕ) → unescaped text ≡ before (take len out) (unescaped_from place 0 (drop place text))
    → n ≡ position_or_len (λ b. not (is_plain b)) (drop place text)
    → grown ≡ out → take n room ≡ take n (drop place text) → len ≤ length out → n ≤ length room → len + n ≤ m
    → unescaped text ≡ before (take (len + n) (take m (put_mid len k grown room ++ after))) (unescaped_from (place + n) 0 (drop (place + n) text))
copied_more text out grown room after place len n m k so_far is same copied inside fits within =
    let written : take (len + n) (take m (put_mid len k grown room ++ after)) ≡ take len out ++ mid_of place n text =
    take_grown len k n m grown room after (rw same inside) fits within ∙ ap (λ t. take len t ++ take n room) same ∙ ap (λ t. take len out ++ t) copied in
    run_more text (take len out) (take (len + n) (take m (put_mid len k grown room ++ after))) place n n so_far is refl written

-- a text that is read to its end
pub whole_read : (text out : List ℕ) (place : ℕ) → unescaped text ≡ before out (unescaped_from place 0 (drop place text)) → length text ≤ place
    → unescaped text ≡ Ok out
whole_read text out place so_far past = so_far ∙ ap (λ s. before out (unescaped_from place 0 s)) (drop_all place text past) ∙ ap Ok (append-nil out)

-- if no piece stands where a text goes on, the text is wrong there
no_piece_by : (place : ℕ) (s : List ℕ) → 0 < length s → piece_of s ≡ None → unescaped_from place 0 s ≡ Err place
no_piece_by place [] some none = absurd (omega arith)
no_piece_by place (b ∷ rest) some none = ap (λ o. piece_then place o (λ m. unescaped_from (place + 1) m rest)) none

pub no_piece : (text out : List ℕ) (place : ℕ) → unescaped text ≡ before out (unescaped_from place 0 (drop place text)) → place < length text
    → piece_of (drop place text) ≡ None → unescaped text ≡ Err place
no_piece text out place so_far some none = so_far ∙ ap (before out) (no_piece_by place (drop place text) (omega (arith, length-drop place text)) none)
