-- Bytes of numbers, and numbers of bytes.
use Rattle.std.proofs.Common.{◌≡◌, ℕ, zero, suc, ◌+◌, ◌-◌, ◌*◌, ◌^◌, ◌≤◌, List, [], ◌∷◌, ◌++◌, length, take, drop, reverse, replicate, refl, ap, ◌∙◌, inl, inr, arith}
use Rattle.std.proofs.Math.Nat.{pow-succ'}
use Rattle.std.proofs.lemmas.Bool.{cases_lt}
use Rattle.std.proofs.lemmas.List.{reverse-append, take-replicate, drop_all, append-nil}
use Rattle.std.proofs.lemmas.Grind.{common_steps}
use Rattle.std.specs.Int.{bytes_low_first, bytes_high_first, byte_at, from_le_bytes, from_be_bytes, w64}
use Rattle.iio_scan_type.specs.Bytes.{low_first_number}

-- fewer bytes, lowest first, are the first of more
pub take-bytes_low_first : (i k m n : ℕ) → k ≤ m → take k (bytes_low_first i m n) ≡ bytes_low_first i k n
take-bytes_low_first i zero m n h = refl
take-bytes_low_first i (suc k) zero n h = absurd (omega arith)
take-bytes_low_first i (suc k) (suc m) n h = ap (λ t. byte_at i n ∷ t) (take-bytes_low_first (suc i) k m n (omega arith))

-- fewer bytes, highest first, are the last of more
pub drop-bytes_high_first : (k m n : ℕ) → k ≤ m → drop (m - k) (bytes_high_first m n) ≡ bytes_high_first k n
drop-bytes_high_first k zero n h = let none : k ≡ 0 = omega arith in rw none refl
drop-bytes_high_first k (suc m) n h =
    elim (cases_lt m k) [
      | inl all ↦ let same : k ≡ suc m = omega arith in let none : suc m - suc m ≡ 0 = omega arith in rw (same, none) refl
      | inr fewer ↦ let next : suc m - k ≡ suc (m - k) = omega arith in rw next (drop-bytes_high_first k m n fewer)
    ]

regroup : (x l p y : ℕ) → x + 256 * (l + p * y) ≡ x + 256 * l + 256 * p * y
regroup x l p y = grind arith

pub low_first_number-append : (xs ys : List ℕ) → low_first_number (xs ++ ys) ≡ low_first_number xs + 256 ^ length xs * low_first_number ys
low_first_number-append [] ys = grind arith
low_first_number-append (x ∷ xs) ys = rw (low_first_number-append xs ys, pow-succ' 256 (length xs)) (regroup x _ _ _)

-- eight bytes make std's number of a word
pub low_first_word : (w : List ℕ) → length w ≡ 8 → from_le_bytes w64 w ≡ low_first_number w
low_first_word w l = grind (arith, common_steps)

pub high_first_word : (w : List ℕ) → length w ≡ 8 → from_be_bytes w64 w ≡ low_first_number (reverse w)
high_first_word w l = grind (arith, common_steps)

-- zero bytes above the others don't change the number
zeros_above : (xs zs : List ℕ) → low_first_number zs ≡ 0 → low_first_number (xs ++ zs) ≡ low_first_number xs
zeros_above xs zs h = rw (low_first_number-append xs zs, h) (grind arith)

zeros-drop : (n k : ℕ) → low_first_number (drop n (replicate k 0)) ≡ 0
zeros-drop zero zero = refl
zeros-drop zero (suc k) = let e = zeros-drop zero k in omega arith
zeros-drop (suc n) zero = refl
zeros-drop (suc n) (suc k) = zeros-drop n k

zeros-reverse : (k : ℕ) → low_first_number (reverse (replicate k 0)) ≡ 0
zeros-reverse zero = refl
zeros-reverse (suc k) = grind (arith, common_steps, zeros_above, zeros-reverse k)

-- bytes below the zero bytes of a word, or above them, are the number
pub low_first_read : (bs ys : List ℕ) → ys ≡ bs → length bs ≤ 8 → from_le_bytes w64 (ys ++ drop (length bs) (replicate 8 0)) ≡ low_first_number bs
low_first_read bs ys e h =
    rw e (low_first_word (bs ++ drop (length bs) (replicate 8 0)) (grind (arith, common_steps)) ∙ zeros_above bs _ (zeros-drop (length bs) 8))

pub high_first_read : (bs ys : List ℕ) → ys ≡ bs → length bs ≤ 8
    → from_be_bytes w64 (take (8 - length bs) (replicate 8 0) ++ (ys ++ drop (8 - (8 - length bs)) (drop (8 - length bs) (replicate 8 0))))
    ≡ low_first_number (reverse bs)
high_first_read bs ys e h =
    let z : List ℕ = replicate 8 0 in
    let m : ℕ = 8 - length bs in
    let none : drop (8 - m) (drop m z) ≡ [] = drop_all (8 - m) (drop m z) (grind (arith, common_steps)) in
    let front : take m z ≡ replicate m 0 = take-replicate m 8 0 (omega arith) in
    rw (e, none, front, append-nil bs)
    (high_first_word (replicate m 0 ++ bs) (grind (arith, common_steps))
    ∙ ap low_first_number (reverse-append (replicate m 0) bs) ∙ zeros_above (reverse bs) _ (zeros-reverse m))
