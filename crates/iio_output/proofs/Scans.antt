-- Scans that stand one after the other in bytes: how many there are, those in two runs of bytes, the first of them and the
-- others, and the first few.
use Rattle.std.proofs.Common.{◌≡◌, ℕ, zero, suc, ◌+◌, ◌-◌, ◌*◌, ◌/◌, ◌%◌, ◌≤◌, ◌<◌, ◌==◌, min, nat_lt, Bool, true, false, ◌⊎◌, inl, inr, List, [], ◌∷◌, ◌++◌, length, take, drop, length-append, length-drop, mul-le-mul_right, refl, sym, ap, ◌∙◌, arith, rules}
use Rattle.std.proofs.lemmas.Grind.{common_steps}
use Rattle.std.proofs.lemmas.List.{length-take-le, take_all, take-append-drop, take-append-le, drop-append-le}
use Rattle.std.proofs.lemmas.Bool.{cases_lt}
use Rattle.std.proofs.lemmas.Bool.Decides.{nat_tests}
use Rattle.std.proofs.Math.Seq.{take-append_seam}
use Rattle.std.proofs.Math.Nat.{div-eq_of_lt, mul-div_cancel, mul-mod_left, mul-sub, mul_comm, min-eq_right}
use Rattle.iio_output.specs.Written.{is_none_left, scans_in, scans_of}

pub length-scans_in : (n size : ℕ) (bytes : List ℕ) → length (scans_in n size bytes) ≡ n
length-scans_in zero size bytes = refl
length-scans_in (suc n) size bytes = ap suc (length-scans_in n size (drop size bytes))

-- bytes after the scans don't count
scans_in-front : (n size : ℕ) (bytes rest : List ℕ) → n * size ≤ length bytes → scans_in n size (bytes ++ rest) ≡ scans_in n size bytes
scans_in-front zero size bytes rest long = refl
scans_in-front (suc n) size bytes rest long =
    let more : size ≤ length bytes = omega (arith, long) in
    let fewer : n * size ≤ length (drop size bytes) = omega (arith, long, length-drop size bytes) in
    ap (λ x. x ∷ scans_in n size (drop size (bytes ++ rest))) (take-append-le size bytes rest more)
    ∙ ap (λ xs. take size bytes ∷ scans_in n size xs) (drop-append-le size bytes rest more)
    ∙ ap (λ xs. take size bytes ∷ xs) (scans_in-front n size (drop size bytes) rest fewer)

-- the scans of two runs of bytes, the first of which is whole scans
scans_in-append : (m n size : ℕ) (xs ys : List ℕ) → length xs ≡ m * size → scans_in (m + n) size (xs ++ ys) ≡ scans_in m size xs ++ scans_in n size ys
scans_in-append zero n size xs ys whole = grind (arith, common_steps)
scans_in-append (suc m) n size xs ys whole =
    let more : size ≤ length xs = omega (arith, whole) in
    let fewer : length (drop size xs) ≡ m * size = omega (arith, whole, length-drop size xs) in
    let count : suc m + n ≡ suc (m + n) = omega arith in
    ap (λ k. scans_in k size (xs ++ ys)) count
    ∙ ap (λ x. x ∷ scans_in (m + n) size (drop size (xs ++ ys))) (take-append-le size xs ys more)
    ∙ ap (λ zs. take size xs ∷ scans_in (m + n) size zs) (drop-append-le size xs ys more)
    ∙ ap (λ zs. take size xs ∷ zs) (scans_in-append m n size (drop size xs) ys fewer)

-- bytes of whole scans, by how many there are
pub whole_is : (size n : ℕ) → n % size ≡ 0 → n ≡ n / size * size
whole_is size n whole = search rules

pub is_whole : (size n k : ℕ) → n ≡ k * size → n % size ≡ 0
is_whole size n k is = ap (λ m. m % size) is ∙ mul-mod_left k size

pub counts_of : (size n k : ℕ) → 1 ≤ size → n ≡ k * size → n / size ≡ k
counts_of size n k some is = ap (λ m. m / size) is ∙ mul-div_cancel k some

pub length-scans_of : (size : ℕ) (bytes : List ℕ) → length (scans_of size bytes) ≡ length bytes / size
length-scans_of size bytes = length-scans_in (length bytes / size) size bytes

-- the scans of two runs of whole scans
pub scans_of-append : (size : ℕ) (xs ys : List ℕ) → 1 ≤ size → length xs % size ≡ 0 → length ys % size ≡ 0
    → scans_of size (xs ++ ys) ≡ scans_of size xs ++ scans_of size ys
scans_of-append size xs ys some whole whole' =
    let m : ℕ = length xs / size in
    let n : ℕ = length ys / size in
    let first : length xs ≡ m * size = whole_is size (length xs) whole in
    let second : length ys ≡ n * size = whole_is size (length ys) whole' in
    let both : length (xs ++ ys) ≡ (m + n) * size = omega (arith, length-append xs ys, first, second) in
    ap (λ k. scans_in k size (xs ++ ys)) (counts_of size (length (xs ++ ys)) (m + n) some both)
    ∙ scans_in-append m n size xs ys first

pub one_scan : (size : ℕ) (scan : List ℕ) → 1 ≤ size → length scan ≡ size → scans_of size scan ≡ scan ∷ []
one_scan size scan some is =
    let one : length scan ≡ 1 * size = omega (arith, is) in
    ap (λ k. scans_in k size scan) (counts_of size (length scan) 1 some one)
    ∙ ap (λ x. x ∷ []) (take_all size scan (omega (arith, is)))

-- (a - b) times k
pub turned : (a b k : ℕ) → (a - b) * k ≡ a * k - b * k
turned a b k = mul_comm (a - b) k ∙ mul-sub k a b ∙ ap (λ x. x - k * b) (mul_comm k a) ∙ ap (λ x. a * k - x) (mul_comm k b)

-- the first scan, and then the others
pub first_scan : (size : ℕ) (bytes : List ℕ) → 1 ≤ size → length bytes % size ≡ 0 → (length bytes == 0) ≡ false
    → (scans_of size bytes ≡ take size bytes ∷ scans_of size (drop size bytes)) × (size ≤ length bytes) × (length (drop size bytes) % size ≡ 0)
first_scan size bytes some whole any =
    let n : ℕ = length bytes / size in
    let is : length bytes ≡ n * size = whole_is size (length bytes) whole in
    let more : 0 < length bytes = grind (arith, nat_tests) in
    let long : size ≤ length bytes = at_least n size (length bytes) is more in
    let one : length (take size bytes) ≡ size = length-take-le size bytes long in
    let rest : length (drop size bytes) ≡ (n - 1) * size = omega (arith, length-drop size bytes, is, turned n 1 size) in
    let whole' = is_whole size (length (drop size bytes)) (n - 1) rest in
    let first = is_whole size (length (take size bytes)) 1 (omega (arith, one)) in (
      ap (λ bs. scans_of size bs) (sym (take-append-drop size bytes))
          ∙ scans_of-append size (take size bytes) (drop size bytes) some first whole'
          ∙ ap (λ xs. xs ++ scans_of size (drop size bytes)) (one_scan size (take size bytes) some one),
      long,
      whole',
    )
  where
    at_least : (n size k : ℕ) → k ≡ n * size → 0 < k → size ≤ k
    at_least zero size k is more = absurd (omega (arith, is, more))
    at_least (suc n) size k is more = omega (arith, is)

-- whether there is no scan, by the number of scans
none_by_length : (xs : List (List ℕ)) → is_none_left xs ≡ (length xs == 0)
none_by_length xs = search rules

-- fewer bytes than a scan has are no scan
pub none_below : (size : ℕ) (bytes : List ℕ) → 1 ≤ size → is_none_left (scans_of size bytes) ≡ nat_lt (length bytes) size
none_below size bytes some = none_by_length (scans_of size bytes) ∙ ap (λ n. n == 0) (length-scans_of size bytes) ∙ by (nat_lt (length bytes) size) refl
  where
    by : (b : Bool) → nat_lt (length bytes) size ≡ b → (length bytes / size == 0) ≡ b
    by true is =
        let less : length bytes < size = grind (arith, nat_tests) in
        ap (λ n. n == 0) (div-eq_of_lt less)
    by false is = search rules

-- no bytes and no scans are the same
pub none_left : (size : ℕ) (bytes : List ℕ) → 1 ≤ size → length bytes % size ≡ 0 → is_none_left (scans_of size bytes) ≡ (length bytes == 0)
none_left size bytes some whole = search rules

-- the first few scans stand in the first bytes
pub take-scans_of : (most size : ℕ) (bytes : List ℕ) → 1 ≤ size → length bytes % size ≡ 0
    → take most (scans_of size bytes) ≡ scans_of size (take (min (length bytes) (most * size)) bytes)
take-scans_of most size bytes some whole = by (cases_lt most n)
  where
    n : ℕ
    n = length bytes / size

    is : length bytes ≡ n * size
    is = whole_is size (length bytes) whole

    -- the first scans are all of them
    by_all : n ≤ most → take most (scans_of size bytes) ≡ scans_of size (take (min (length bytes) (most * size)) bytes)
    by_all few = search (rules, take_all, length-scans_of)

    -- the first scans, and then the others
    by_first : most ≤ n → take most (scans_of size bytes) ≡ scans_of size (take (min (length bytes) (most * size)) bytes)
    by_first more =
        let short : most * size ≤ n * size = mul-le-mul_right size more in
        let count : min (length bytes) (most * size) ≡ most * size = min-eq_right (omega (arith, is, short)) in
        let front = take (most * size) bytes in
        let rest = drop (most * size) bytes in
        let here : length front ≡ most * size = length-take-le (most * size) bytes (omega (arith, is, short)) in
        let there : length rest ≡ (n - most) * size = omega (arith, length-drop (most * size) bytes, is, turned n most size) in
        let parts : scans_of size bytes ≡ scans_of size front ++ scans_of size rest = ap (λ bs. scans_of size bs) (sym (take-append-drop (most * size) bytes))
        ∙ scans_of-append size front rest some (is_whole size (length front) most here) (is_whole size (length rest) (n - most) there) in
        let long : length (scans_of size front) ≡ most = length-scans_of size front ∙ counts_of size (length front) most some here in
        ap (λ xs. take most xs) parts
        ∙ ap (λ k. take k (scans_of size front ++ scans_of size rest)) (sym long)
        ∙ take-append_seam (scans_of size front) (scans_of size rest)
        ∙ ap (λ k. scans_of size (take k bytes)) (sym count)

    by : (most < n) ⊎ (n ≤ most) → take most (scans_of size bytes) ≡ scans_of size (take (min (length bytes) (most * size)) bytes)
    by (inl less) = by_first (omega (arith, less))
    by (inr more) = by_all more
