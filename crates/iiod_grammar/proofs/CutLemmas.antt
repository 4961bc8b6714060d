-- The first piece of bytes that were begun and further ones.
use Rattle.std.proofs.Common.{◌≡◌, ℕ, ◌+◌, ◌-◌, ◌<◌, ◌≤◌, ◌==◌, Bool, not, cond, true, false, zero, suc, List, [], ◌∷◌, ◌++◌, length, take, drop, get_or, Some, None, refl, sym, ap, subst, ◌∙◌, inl, inr, arith, length-append}
use Rattle.std.specs.List.{position_or_len}
use Rattle.std.proofs.lemmas.Bool.{cases_lt, and_parts, lt-ltb, le-ltb, le-leb, leb-true, eq-eqb}
use Rattle.std.proofs.lemmas.List.{take_all, take-append-drop}
use Rattle.std.proofs.lemmas.List.Folds.{prefix_len-append}
use Rattle.std.proofs.Math.Seq.{take-append-add}
use Rattle.iio_text.proofs.RunLemmas.{place_front}
use Rattle.iiod_grammar.specs.Command.{without_returns}
use Rattle.iiod_grammar.specs.Lines.{is_lf, cut, NotYet, WholeLine, WholePayload, Overlong, is_begun}

pub payload_begun : (count : ℕ) (begun : List ℕ) → is_begun (Some count) begun ≡ true → length begun ≤ count
payload_begun count begun h = leb-true (length begun) count (and_parts _ _ h).0

-- a payload that is whole with further bytes
pub payload_whole : (count : ℕ) (begun bytes : List ℕ) → is_begun (Some count) begun ≡ true → count - length begun ≤ length bytes
    → cut (Some count) (begun ++ bytes) ≡ WholePayload (begun ++ take (count - length begun) bytes)
payload_whole count begun bytes h enough =
    let within = payload_begun count begun h in
    let size : count ≡ length begun + (count - length begun) = omega arith in
    let whole = le-ltb (length (begun ++ bytes)) count (omega (arith, length-append begun bytes)) in
    rw whole (ap WholePayload (ap (λ n. take n (begun ++ bytes)) size ∙ take-append-add begun bytes (count - length begun)))

-- ---- lines

-- where the first LF stands
end_after : (begun bytes : List ℕ) → is_begun None begun ≡ true → position_or_len is_lf (begun ++ bytes) ≡ length begun + position_or_len is_lf bytes
end_after begun bytes h =
    let none : (position_or_len is_lf begun == length begun) ≡ true = (and_parts _ _ h).0 in
    prefix_len-append (λ b. not (is_lf b)) begun bytes ∙ rw none refl

pub line_overlong : (begun bytes : List ℕ) → is_begun None begun ≡ true → 1024 < length begun + position_or_len is_lf bytes
    → cut None (begun ++ bytes) ≡ Overlong
line_overlong begun bytes h over = rw (end_after begun bytes h, lt-ltb 1024 (length begun + position_or_len is_lf bytes) over) refl

pub line_not_yet : (begun bytes : List ℕ) → is_begun None begun ≡ true → length begun + length bytes ≤ 1024 → position_or_len is_lf bytes ≡ length bytes
    → (cut None (begun ++ bytes) ≡ NotYet) × (is_begun None (begun ++ bytes) ≡ true)
line_not_yet begun bytes h few none =
    let end : position_or_len is_lf (begun ++ bytes) ≡ length (begun ++ bytes) = end_after begun bytes h ∙ omega (arith, none, length-append begun bytes) in
    let within : length (begun ++ bytes) ≤ 1024 = omega (arith, length-append begun bytes) in (
      rw (end, le-ltb 1024 (length (begun ++ bytes)) within, le-ltb (length (begun ++ bytes)) (length (begun ++ bytes)) (omega arith)) refl,
      rw (end, eq-eqb (length (begun ++ bytes)) (length (begun ++ bytes)) refl) (le-leb (length (begun ++ bytes)) 1024 within),
    )

pub line_whole : (begun bytes : List ℕ) (e : ℕ) → is_begun None begun ≡ true → e ≡ position_or_len is_lf bytes → length begun + e ≤ 1024 → e < length bytes
    → cut None (begun ++ bytes) ≡ WholeLine (without_returns (begun ++ take e bytes)) (length begun + (e + 1))
line_whole begun bytes e h is within some =
    let end : position_or_len is_lf (begun ++ bytes) ≡ length begun + e = end_after begun bytes h ∙ ap (λ n. length begun + n) (sym is) in
    let size : length begun + e + 1 ≡ length begun + (e + 1) = omega arith in
    rw (
      end,
      le-ltb 1024 (length begun + e) within,
      lt-ltb (length begun + e) (length (begun ++ bytes)) (omega (arith, length-append begun bytes)),
      take-append-add begun bytes e,
      size,
    ) refl

-- an LF at the beginning of a line
pub line_blank : (begun bytes : List ℕ) → begun ≡ [] → 0 < length bytes → get_or bytes 0 0 ≡ 10 → cut None (begun ++ bytes) ≡ WholeLine begun (length begun + 1)
line_blank begun bytes none some lf = rw none (line_whole [] bytes 0 refl (first bytes some lf) (omega arith) some)
  where
    first : (bytes : List ℕ) → 0 < length bytes → get_or bytes 0 0 ≡ 10 → 0 ≡ position_or_len is_lf bytes
    first [] some lf = absurd (omega (arith, some))
    first (b ∷ bs) some lf = rw lf refl

pub line_begun : (begun : List ℕ) → is_begun None begun ≡ true → length begun ≤ 1024
line_begun begun h = leb-true (length begun) 1024 (and_parts _ _ h).1

-- ---- the first LF among the first bytes

front_step : (t : Bool) (n m k : ℕ) → cond (not t) (1 + n) 0 < suc k → (n < k → m ≡ n) → cond (not t) (1 + m) 0 ≡ cond (not t) (1 + n) 0
front_step true n m k h more = refl
front_step false n m k h more = let e = more (omega arith) in omega arith

front_short : (xs : List ℕ) (n : ℕ) → position_or_len is_lf (take n xs) < n → position_or_len is_lf xs ≡ position_or_len is_lf (take n xs)
front_short [] zero h = absurd (omega arith)
front_short [] (suc n) h = refl
front_short (x ∷ xs) zero h = absurd (omega arith)
front_short (x ∷ xs) (suc n) h = front_step (is_lf x) (position_or_len is_lf (take n xs)) (position_or_len is_lf xs) n h (front_short xs n)

-- ... if it isn't after them, or they are all
pub front_place : (xs : List ℕ) (n end : ℕ) → end ≡ position_or_len is_lf (take n xs) → (n ≤ end → length xs ≤ n) → position_or_len is_lf xs ≡ end
front_place xs n end is more = elim (cases_lt end n) [
  | inl short ↦ front_short xs n (omega (arith, is, short)) ∙ sym is
  | inr past ↦ ap (position_or_len is_lf) (sym (take_all n xs (more past))) ∙ sym is
]

-- it is never after the first LF of all bytes
pub front_before : (xs : List ℕ) (n : ℕ) → position_or_len is_lf (take n xs) ≤ position_or_len is_lf xs
front_before xs n =
    subst (λ (t : List ℕ). position_or_len is_lf (take n xs) ≤ position_or_len is_lf t) (take-append-drop n xs) (place_front is_lf (take n xs) (drop n xs))
