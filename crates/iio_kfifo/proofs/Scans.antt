-- Scans that stand one after the other in bytes: how many there are, another one at the end, bytes after them, the first of
-- them and the others, and their bytes.
use Rattle.std.proofs.Common.{◌≡◌, ℕ, zero, suc, ◌+◌, ◌*◌, ◌≤◌, min, List, [], ◌∷◌, ◌++◌, length, take, drop, refl, sym, ap, ◌∙◌, arith}
use Rattle.std.proofs.lemmas.List.{length-drop, nil_from_length, take_all, take-append-le, drop-append-le, drop-drop, drop_min, take_min}
use Rattle.std.proofs.Math.Seq.{drop-append_seam, take-add, take-append_seam}
use Rattle.std.specs.List.{flat_map}
use Rattle.iio_kfifo.specs.Queue.{scans_in}

pub length-scans_in : (size count : ℕ) (bytes : List ℕ) → length (scans_in size count bytes) ≡ count
length-scans_in size zero bytes = refl
length-scans_in size (suc count) bytes = ap suc (length-scans_in size count (drop size bytes))

-- another scan after the others
pub scans_in-append : (size count : ℕ) (bytes scan : List ℕ) → length bytes ≡ count * size → length scan ≡ size
    → scans_in size (suc count) (bytes ++ scan) ≡ scans_in size count bytes ++ scan ∷ []
scans_in-append size zero bytes scan all one =
    let none = nil_from_length bytes (omega (arith, all)) in
    rw none (ap (λ x. x ∷ []) (take_all size scan (omega (arith, one))))
scans_in-append size (suc count) bytes scan all one =
    let more : size ≤ length bytes = omega (arith, all) in
    let first = take-append-le size bytes scan more in
    let rest = drop-append-le size bytes scan more in
    let fewer : length (drop size bytes) ≡ count * size = omega (arith, all, length-drop size bytes) in
    ap (λ x. x ∷ scans_in size (suc count) (drop size (bytes ++ scan))) first
    ∙ ap (λ xs. take size bytes ∷ scans_in size (suc count) xs) rest
    ∙ ap (λ xs. take size bytes ∷ xs) (scans_in-append size count (drop size bytes) scan fewer one)

-- bytes after the scans don't count
pub scans_in-front : (size count : ℕ) (bytes rest : List ℕ) → count * size ≤ length bytes → scans_in size count (bytes ++ rest) ≡ scans_in size count bytes
scans_in-front size zero bytes rest long = refl
scans_in-front size (suc count) bytes rest long =
    let more : size ≤ length bytes = omega (arith, long) in
    let fewer : count * size ≤ length (drop size bytes) = omega (arith, long, length-drop size bytes) in
    ap (λ x. x ∷ scans_in size count (drop size (bytes ++ rest))) (take-append-le size bytes rest more)
    ∙ ap (λ xs. take size bytes ∷ scans_in size count xs) (drop-append-le size bytes rest more)
    ∙ ap (λ xs. take size bytes ∷ xs) (scans_in-front size count (drop size bytes) rest fewer)

-- the first scans, and then the others
pub scans_in-split : (size first count : ℕ) (bytes : List ℕ)
    → scans_in size (first + count) bytes ≡ scans_in size first bytes ++ scans_in size count (drop (first * size) bytes)
scans_in-split size zero count bytes =
    let all : 0 + count ≡ count = omega arith in
    let none : 0 * size ≡ 0 = omega arith in
    rw (all, none) refl
scans_in-split size (suc first) count bytes =
    let more : suc first + count ≡ suc (first + count) = omega arith in
    let times : suc first * size ≡ size + first * size = omega arith in
    rw (more, times)
    (ap (λ xs. take size bytes ∷ xs)
    (scans_in-split size first count (drop size bytes)
    ∙ ap (λ xs. scans_in size first (drop size bytes) ++ scans_in size count xs) (drop-drop (first * size) size bytes)))

-- the bytes of the scans are the first of those that they stand in
pub scans_in-bytes : (size count : ℕ) (bytes : List ℕ) → flat_map (λ scan. scan) (scans_in size count bytes) ≡ take (count * size) bytes
scans_in-bytes size zero bytes = let none : 0 * size ≡ 0 = omega arith in rw none refl
scans_in-bytes size (suc count) bytes =
    let times : suc count * size ≡ size + count * size = omega arith in
    rw times (ap (λ xs. take size bytes ++ xs) (scans_in-bytes size count (drop size bytes)) ∙ sym (take-add size (count * size) bytes))

-- the first elements of a list, at most that many, and the others
module _ {A : Type 0} (most : ℕ) (xs front rest : List A) (is : xs ≡ front ++ rest) (long : length front ≡ min most (length xs)) where
  pub take_most : take most xs ≡ front
  take_most = sym (take_min most xs) ∙ ap (λ n. take n xs) (sym long) ∙ ap (λ ys. take (length front) ys) is ∙ take-append_seam front rest

  pub drop_most : drop most xs ≡ rest
  drop_most = sym (drop_min most xs) ∙ ap (λ n. drop n xs) (sym long) ∙ ap (λ ys. drop (length front) ys) is ∙ drop-append_seam front rest
