-- The length of a number; and bytes that are written over others.
use Rattle.std.proofs.Common.{◌≡◌, ℕ, ◌+◌, ◌*◌, ◌/◌, ◌%◌, ◌^◌, ◌<◌, ◌≤◌, nat_le, List, [], ◌∷◌, ◌++◌, length, take, drop, append_assoc, length-append, refl, inl, inr, sym, ap, ◌∙◌, arith}
use Rattle.std.specs.Fmt.{decimal}
use Rattle.std.specs.Int.{byte_len, w32, w64, to_be_bytes}
use Rattle.std.proofs.Math.Seq.{drop-append-add, take-append_seam}
use Rattle.std.proofs.lemmas.List.{drop-drop, length-take-le}
use Rattle.std.proofs.lemmas.Bool.{cases_lt, cond_both}
use Rattle.std.proofs.lemmas.Fmt.{decimal_by_steps, decimal_step, length-decimal-le}
use Rattle.iio_mask.specs.Text.{digit_count, digits_of, mask_text}
use Rattle.iiod_reply.specs.Reply.{head_length, head_text}

-- a smaller number has no more digits
pub no_longer : (came most : ℕ) → came ≤ most → most < 2 ^ 64 → length (decimal came) ≤ length (decimal most)
no_longer came most less small =
    decimal_by_steps (λ m ds. (n : ℕ) → n ≤ m → n < 2 ^ 64 → length (decimal n) ≤ length ds) (λ m l n h s. one n (omega arith)) more most small came less
    (omega arith)
  where
    one : (n : ℕ) → n < 10 → length (decimal n) ≤ 1
    one n h = length-decimal-le 1 n (omega arith) (omega arith) (omega arith)

    more : (m : ℕ) (ds : List ℕ) → 10 ≤ m → ((n : ℕ) → n ≤ m / 10 → n < 2 ^ 64 → length (decimal n) ≤ length ds)
        → (n : ℕ) → n ≤ m → n < 2 ^ 64 → length (decimal n) ≤ length (ds ++ ((48 + m % 10) ∷ []))
    more m ds l h n less s = elim (cases_lt n 10) [
      | inl few ↦ omega (arith, one n few, length-append ds ((48 + m % 10) ∷ []))
      | inr many ↦ omega (
        arith,
        ap length (decimal_step n many s),
        length-append (decimal (n / 10)) ((48 + n % 10) ∷ []),
        length-append ds
            ((48 + m % 10) ∷ []),
        h (n / 10) (omega arith) (omega arith),
      )
    ]

-- the most digits that a number has
pub length_most : (n : ℕ) → n < 2 ^ 64 → length (decimal n) ≤ 20
length_most n small = length-decimal-le 20 n (omega arith) (omega (arith, small)) small

-- a mask's text has as many digits as `digit_count` says
pub length_mask : (channels bits : ℕ) → length (mask_text channels bits) ≡ digit_count channels
length_mask channels bits = cond_both (nat_le channels 32) w32 w64 (λ w. length (digits_of (to_be_bytes w bits)) ≡ 2 * byte_len w) (λ _. refl) (λ _. refl)

-- ... and a head as many bytes as `head_length` says
pub length_head : (channels mask came : ℕ) → length (head_text channels mask came) ≡ head_length channels came
length_head channels mask came =
    let line = mask_text channels mask ++ 10 ∷ [] in
    omega (
      arith,
      length-append (decimal came ++ 10 ∷ []) line,
      length-append (decimal came) (10 ∷ []),
      length-append (mask_text channels mask) (10 ∷ []),
      length_mask channels mask,
    )

-- a head for fewer bytes is no longer
pub no_longer_head : (channels came most : ℕ) → came ≤ most → most < 2 ^ 64 → head_length channels came ≤ head_length channels most
no_longer_head channels came most less small = omega (arith, no_longer came most less small)

-- what was written, and what comes after it
put_whole : (at : ℕ) (old a mid : List ℕ) → at + length a ≤ length old → mid ≡ take at old ++ (a ++ drop (at + length a) old)
    → (take (at + length a) mid ≡ take at old ++ a) × ((n : ℕ) → drop (at + length a + n) mid ≡ drop (at + length a + n) old)
put_whole at old a mid within put =
    let front = take at old ++ a in
    let rest = drop (at + length a) old in
    let long : length front ≡ at + length a = length-append (take at old) a ∙ ap (λ k. k + length a) (length-take-le at old (omega arith)) in
    let whole : mid ≡ front ++ rest = put ∙ sym (append_assoc (take at old) a rest) in (
      ap (λ k. take k mid) (sym long) ∙ ap (take (length front)) whole ∙ take-append_seam front rest,
      λ n. ap (λ k. drop (k + n) mid) (sym long) ∙ ap (drop (length front + n)) whole ∙ drop-append-add front rest n ∙ drop-drop n (at + length a) old,
    )

-- bytes that are written one after another
pub put_beside : (at : ℕ) (old a b mid new : List ℕ) → at + length a + length b ≤ length old
    → mid ≡ take at old ++ (a ++ drop (at + length a) old)
    → new ≡ take (at + length a) mid ++ (b ++ drop (at + length a + length b) mid)
    → new ≡ take at old ++ ((a ++ b) ++ drop (at + length (a ++ b)) old)
put_beside at old a b mid new within first second =
    let w = put_whole at old a mid (omega arith) first in
    let n : at + length a + length b ≡ at + length (a ++ b) = omega (arith, length-append a b) in
    second ∙ rw (w.0, w.1 (length b)) (append_assoc (take at old) a (b ++ drop (at + length a + length b) old)
    ∙ ap (λ xs. take at old ++ xs) (sym (append_assoc a b (drop (at + length a + length b) old)) ∙ ap (λ k. (a ++ b) ++ drop k old) n))

-- ... and after which some are removed
pub put_short : (at gone : ℕ) (old a mid new : List ℕ) → at + length a ≤ length old
    → mid ≡ take at old ++ (a ++ drop (at + length a) old)
    → new ≡ take (at + length a) mid ++ drop (at + length a + gone) mid
    → new ≡ take at old ++ (a ++ drop (at + length a + gone) old)
put_short at gone old a mid new within first second =
    let w = put_whole at old a mid within first in
    second ∙ rw (w.0, w.1 gone) (append_assoc (take at old) a (drop (at + length a + gone) old))
