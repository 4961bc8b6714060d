-- From the mask of one load to the first byte that passes a test, and to whether all pass.
use Rattle.std.proofs.Common.{◌≡◌, ℕ, ◌+◌, ◌*◌, ◌%◌, ◌^◌, ◌<◌, ◌≤◌, Bool, true, false, not, ◌&&◌, eqb, List, [], ◌∷◌, ◌++◌, map, cond, length, get_or, take, drop, Fits, w8, refl, sym, ap, subst, suc, ◌∙◌, arith, zero, zero-add, length-drop}
use Rattle.std.proofs.lemmas.Bool.{agree_below, agree_below_at}
use Rattle.std.proofs.lemmas.Bool.Decides.{nat_tests}
use Rattle.std.proofs.Math.Bool.{and-false}
use Rattle.std.proofs.Math.Seq.{take-add}
use Rattle.std.proofs.lemmas.List.Folds.{list_all-append}
use Rattle.std.proofs.lemmas.Simd.{zip2_of_maps, map-map, mask_l-mod, length-chunk, get_or-chunk, take_more_put_chunk, first_set_mask_l, leading_from_mask_l, chunk-drop}
use Rattle.std.proofs.lemmas.List.{length-map, take-append-drop, take-take, take_all}
use Rattle.std.specs.List.{list_all, position_or_len}
use lib.Lanes.{zip2, chunk, put_chunk, mask_l, top}
use Rattle.std.specs.Prelude.{◌==◌, if◌then◌else◌}
use Rattle.std.specs.Int.{w64, trailing_zeros}

-- the place of the lowest bit of a mask of n bits, or n if none is set
abbrev pub first_of : ℕ → ℕ → ℕ
first_of mask n = if mask == 0 then n else trailing_zeros w64 mask

-- an operation on two vectors that were computed lane by lane from v
pub joined : (h : ℕ → ℕ → ℕ) (f g : ℕ → ℕ) (v : List ℕ) {a b : List ℕ} → a ≡ map f v → b ≡ map g v → zip2 h a b ≡ map (λ x. h (f x) (g x)) v
joined h f g v p q = zip2_of_maps h f g v p q

-- two tests that agree on bytes have the same first place
same_place : (p q : ℕ → Bool) (v : List ℕ) → agree_below p q 256 ≡ true → ((k : ℕ) → k < length v → Fits w8 (get_or v k 0))
    → position_or_len p v ≡ position_or_len q v
same_place p q [] all fits = refl
same_place p q (x ∷ xs) all fits =
    let here : p x ≡ q x = agree_below_at p q 256 x all (fits 0 (omega arith)).fits in
    rw (here, same_place p q xs all (λ k h. fits (suc k) (omega arith))) refl

-- the mask of a load of n bytes, in which a lane's top bit is set exactly if its byte passes
pub lanes_place : (q : ℕ → Bool) (d : List ℕ) (n i r : ℕ) (z : List ℕ) → n ≤ 64 → i + n ≤ length d → ((k : ℕ) → Fits w8 (get_or d k 0))
    → r ≡ first_of (mask_l (map (top 7) z) % 2 ^ 64) n → (f : ℕ → ℕ) → z ≡ map f (chunk i n d) → agree_below (λ x. top 7 (f x)) q 256 ≡ true
    → r ≡ position_or_len q (chunk i n d)
lanes_place q d n i r z few room fits found f lanes all =
    let v = chunk i n d in
    let p : ℕ → Bool = λ x. top 7 (f x) in
    let long = length-chunk i n d room in
    let mask =
    ap (λ l. mask_l l % 2 ^ 64) (ap (map (top 7)) lanes ∙ map-map (top 7) f v) ∙ mask_l-mod (map p v) 64 (omega (arith, length-map v p, long, few)) in
    found ∙ ap (λ m. first_of m n) mask ∙ first_set_mask_l p v n long few
    ∙ same_place p q v all (λ k h. subst (Fits w8) (sym (get_or-chunk i n d k 0 (omega (arith, long)))) (fits (i + k)))

-- two tests that agree on bytes give the same mask
same_map : (p q : ℕ → Bool) (v : List ℕ) → agree_below p q 256 ≡ true → ((k : ℕ) → k < length v → Fits w8 (get_or v k 0)) → map p v ≡ map q v
same_map p q [] all fits = refl
same_map p q (x ∷ xs) all fits =
    let here : p x ≡ q x = agree_below_at p q 256 x all (fits 0 (omega arith)).fits in
    rw (here, same_map p q xs all (λ k h. fits (suc k) (omega arith))) refl

pub lanes_mask : (q : ℕ → Bool) (d : List ℕ) (n i : ℕ) (z : List ℕ) → n ≤ 64 → i + n ≤ length d → ((k : ℕ) → Fits w8 (get_or d k 0))
    → (f : ℕ → ℕ) → z ≡ map f (chunk i n d) → agree_below (λ x. top 7 (f x)) q 256 ≡ true → mask_l (map (top 7) z) % 2 ^ 64 ≡ mask_l (map q (chunk i n d))
lanes_mask q d n i z few room fits f lanes all =
    let v = chunk i n d in
    let p : ℕ → Bool = λ x. top 7 (f x) in
    let long = length-chunk i n d room in
    ap (λ l. mask_l l % 2 ^ 64) (ap (map (top 7)) lanes ∙ map-map (top 7) f v) ∙ mask_l-mod (map p v) 64 (omega (arith, length-map v p, long, few))
    ∙ ap mask_l (same_map p q v all (λ k h. subst (Fits w8) (sym (get_or-chunk i n d k 0 (omega (arith, long)))) (fits (i + k))))

some_step : (t : Bool) (n k l : ℕ) → 0 < cond t 1 0 + 2 * n → (0 < n → k < l) → cond (not t) (1 + k) 0 < suc l
some_step true n k l h more = omega arith
some_step false n k l h more = let e = more (omega arith) in omega arith

-- if a bit is set, some byte passes
pub some_lane : (q : ℕ → Bool) (v : List ℕ) → 0 < mask_l (map q v) → position_or_len q v < length v
some_lane q [] h = absurd (omega arith)
some_lane q (x ∷ xs) h = some_step (q x) (mask_l (map q xs)) (position_or_len q xs) (length xs) h (some_lane q xs)

-- the first of sixteen bytes that passes, by their mask
pub masked_place : (q : ℕ → Bool) (d : List ℕ) (i m r : ℕ) → i + 16 ≤ length d → m ≡ mask_l (map q (chunk i 16 d)) → r ≡ first_of m 16
    → r ≡ position_or_len q (chunk i 16 d)
masked_place q d i m r room is found =
    let long = length-chunk i 16 d room in
    found ∙ ap (λ n. first_of n 16) is ∙ first_set_mask_l q (chunk i 16 d) 16 long (omega arith)

pub masked_some : (q : ℕ → Bool) (d : List ℕ) (i m : ℕ) → i + 16 ≤ length d → m ≡ mask_l (map q (chunk i 16 d)) → 0 < m → position_or_len q (chunk i 16 d) < 16
masked_some q d i m room is some =
    let inside = some_lane q (chunk i 16 d) (omega (arith, is, some)) in
    omega (arith, inside, length-chunk i 16 d room)

pub masked_none : (q : ℕ → Bool) (d : List ℕ) (i m : ℕ) → i + 16 ≤ length d → m ≡ mask_l (map q (chunk i 16 d)) → m ≡ 0 → 16 ≡ position_or_len q (chunk i 16 d)
masked_none q d i m room is none = sym (leading_from_mask_l q (chunk i 16 d) (sym is ∙ none) ∙ length-chunk i 16 d room)

skip_step : (t : Bool) (n r m : ℕ) → suc r ≤ cond (not t) (1 + n) 0 → (r ≤ n → n ≡ r + m) → cond (not t) (1 + n) 0 ≡ suc r + m
skip_step true n r m h more = absurd (omega arith)
skip_step false n r m h more = let e = more (omega arith) in omega arith

-- the bytes before a place, none of which passes
pub place_skip : (q : ℕ → Bool) (d : List ℕ) (r : ℕ) → r ≤ position_or_len q d → position_or_len q d ≡ r + position_or_len q (drop r d)
place_skip q d zero h = sym (zero-add (position_or_len q d))
place_skip q [] (suc r) h = absurd (omega arith)
place_skip q (x ∷ xs) (suc r) h = skip_step (q x) (position_or_len q xs) r (position_or_len q (drop r xs)) h (place_skip q xs r)

front_step : (t : Bool) (n m : ℕ) → n ≤ m → cond (not t) (1 + n) 0 ≤ cond (not t) (1 + m) 0
front_step true n m h = omega arith
front_step false n m h = omega arith

-- the first place of a front is never after the first place of the whole
pub place_front : (q : ℕ → Bool) (a b : List ℕ) → position_or_len q a ≤ position_or_len q (a ++ b)
place_front q [] b = omega arith
place_front q (x ∷ xs) b = front_step (q x) (position_or_len q xs) (position_or_len q (xs ++ b)) (place_front q xs b)

-- a place of a front is one of the whole
in_front_step : (t : Bool) (n m k : ℕ) → cond (not t) (1 + n) 0 < suc k → (n < k → m ≡ n) → cond (not t) (1 + m) 0 ≡ cond (not t) (1 + n) 0
in_front_step true n m k h more = refl
in_front_step false n m k h more = let e = more (omega arith) in omega arith

place_in_front : (q : ℕ → Bool) (a b : List ℕ) → position_or_len q a < length a → position_or_len q (a ++ b) ≡ position_or_len q a
place_in_front q [] b h = absurd (omega arith)
place_in_front q (x ∷ xs) b h = in_front_step (q x) (position_or_len q xs) (position_or_len q (xs ++ b)) (length xs) h (place_in_front q xs b)

-- a run of n bytes after bytes none of which passes: one byte of the run passes
pub place_in_run : (q : ℕ → Bool) (d : List ℕ) (n i r : ℕ) → i + n ≤ length d → i ≤ position_or_len q d → r ≡ position_or_len q (chunk i n d) → r < n
    → position_or_len q d ≡ i + r
place_in_run q d n i r room before is short =
    let front = place_in_front q (chunk i n d) (drop (i + n) d) (omega (arith, is, length-chunk i n d room)) in
    let whole = ap (position_or_len q) (chunk-drop i n d) ∙ front ∙ sym is in
    place_skip q d i before ∙ ap (λ m. i + m) whole

-- a run of n bytes after bytes none of which passes: no byte of the run passes
pub place_past_run : (q : ℕ → Bool) (d : List ℕ) (n i r : ℕ) → i ≤ position_or_len q d → r ≡ position_or_len q (chunk i n d) → n ≤ r
    → i + n ≤ position_or_len q d
place_past_run q d n i r before is long =
    let skip = place_skip q d i before in
    let front : position_or_len q (chunk i n d) ≤ position_or_len q (drop i d) =
    subst (λ (t : List ℕ). position_or_len q (chunk i n d) ≤ position_or_len q t) (sym (chunk-drop i n d)) (place_front q (chunk i n d) (drop (i + n) d)) in
    omega (arith, skip, front, is)

-- what a room has of a text up to a place, and a part of the next run that is stored there
pub copied_on : (text room : List ℕ) (i n : ℕ) → i + 16 ≤ length text → length text ≤ length room → n ≤ 16 → take i room ≡ take i text
    → take (i + n) (put_chunk i room (chunk i 16 text)) ≡ take (i + n) text
copied_on text room i n here fits part same =
    let long = length-chunk i 16 text here in
    let whole : take (i + 16) (put_chunk i room (chunk i 16 text)) ≡ take (i + 16) text =
    take_more_put_chunk i room (chunk i 16 text) (i + 16) (omega (arith, long)) (omega arith) ∙ ap (λ t. t ++ chunk i 16 text) same
    ∙ sym (take-add i 16 text) in
    sym (take-take (i + n) (i + 16) (put_chunk i room (chunk i 16 text)) (omega arith)) ∙ ap (take (i + n)) whole
    ∙ take-take (i + n) (i + 16) text (omega arith)

-- ---- whether all bytes pass

-- no bit of a mask is set
no_bit : (t : Bool) (n : ℕ) (b : Bool) → eqb n 0 ≡ b → eqb (cond t 1 0 + 2 * n) 0 ≡ (not t && b)
no_bit true n b h = grind (arith, nat_tests)
no_bit false n b h = grind (arith, nat_tests, h)

no_lane : (p : ℕ → Bool) (v : List ℕ) → eqb (mask_l (map p v)) 0 ≡ list_all (λ x. not (p x)) v
no_lane p [] = refl
no_lane p (x ∷ xs) = no_bit (p x) (mask_l (map p xs)) (list_all (λ y. not (p y)) xs) (no_lane p xs)

-- two tests that agree on bytes
same_all : (p q : ℕ → Bool) (v : List ℕ) → agree_below p q 256 ≡ true → ((k : ℕ) → k < length v → Fits w8 (get_or v k 0)) → list_all p v ≡ list_all q v
same_all p q [] all fits = refl
same_all p q (x ∷ xs) all fits =
    let here : p x ≡ q x = agree_below_at p q 256 x all (fits 0 (omega arith)).fits in
    rw (here, same_all p q xs all (λ k h. fits (suc k) (omega arith))) refl

-- the mask of a load of n bytes, in which a lane's top bit is set exactly if its byte fails
pub lanes_all : (q : ℕ → Bool) (d : List ℕ) (i n : ℕ) (z : List ℕ) → n ≤ 64 → i + n ≤ length d → ((k : ℕ) → Fits w8 (get_or d k 0))
    → (f : ℕ → ℕ) → z ≡ map f (chunk i n d) → agree_below (λ x. not (top 7 (f x))) q 256 ≡ true
    → eqb (mask_l (map (top 7) z) % 2 ^ 64) 0 ≡ list_all q (chunk i n d)
lanes_all q d i n z few room fits f lanes all =
    let v = chunk i n d in
    let p : ℕ → Bool = λ x. top 7 (f x) in
    let long = length-chunk i n d room in
    let mask =
    ap (λ l. mask_l l % 2 ^ 64) (ap (map (top 7)) lanes ∙ map-map (top 7) f v) ∙ mask_l-mod (map p v) 64 (omega (arith, length-map v p, long, few)) in
    ap (λ m. eqb m 0) mask ∙ no_lane p v
    ∙ same_all (λ x. not (p x)) q v all (λ k h. subst (Fits w8) (sym (get_or-chunk i n d k 0 (omega (arith, long)))) (fits (i + k)))

-- bytes up to a place, and a run of them from there on
pub all_more : (q : ℕ → Bool) (d : List ℕ) (i n : ℕ) → list_all q (take i d) ≡ true → list_all q (chunk i n d) ≡ true → list_all q (take (i + n) d) ≡ true
all_more q d i n a b = ap (list_all q) (take-add i n d) ∙ list_all-append q (take i d) (chunk i n d) ∙ rw (a, b) refl

-- a run of bytes with one that fails
pub one_fails : (q : ℕ → Bool) (d : List ℕ) (i n : ℕ) → list_all q (chunk i n d) ≡ false → list_all q d ≡ false
one_fails q d i n e =
    sym (ap (list_all q) (take-append-drop i d)) ∙ list_all-append q (take i d) (drop i d)
    ∙ ap (λ b. list_all q (take i d) && b)
    (sym (ap (list_all q) (take-append-drop n (drop i d))) ∙ list_all-append q (chunk i n d) (drop n (drop i d))
    ∙ ap (λ b. b && list_all q (drop n (drop i d))) e)
    ∙ and-false (list_all q (take i d))

-- a front and a back that together cover all
cover_front : (t a b : Bool) → a ≡ (b && a) → (t && a) ≡ ((t && b) && (t && a))
cover_front true a b h = h
cover_front false a b h = refl

cover_both : (t a b c : Bool) → a ≡ (b && c) → (t && a) ≡ ((t && b) && c)
cover_both true a b c h = h
cover_both false a b c h = refl

cover : (q : ℕ → Bool) (d : List ℕ) (m i : ℕ) → i ≤ m → list_all q d ≡ (list_all q (take m d) && list_all q (drop i d))
cover q [] zero zero h = refl
cover q [] (suc m) zero h = refl
cover q [] zero (suc i) h = absurd (omega arith)
cover q [] (suc m) (suc i) h = refl
cover q (x ∷ xs) zero zero h = refl
cover q (x ∷ xs) zero (suc i) h = absurd (omega arith)
cover q (x ∷ xs) (suc m) zero h = cover_front (q x) (list_all q xs) (list_all q (take m xs)) (cover q xs m zero (omega arith))
cover q (x ∷ xs) (suc m) (suc i) h = cover_both (q x) (list_all q xs) (list_all q (take m xs)) (list_all q (drop i xs)) (cover q xs m i (omega arith))

-- the last n bytes, and those up to a place that is among them
pub all_with_last : (q : ℕ → Bool) (d : List ℕ) (m i n : ℕ) → i + n ≡ length d → i ≤ m → list_all q d ≡ (list_all q (take m d) && list_all q (chunk i n d))
all_with_last q d m i n whole among =
    cover q d m i among
    ∙ ap (λ t. list_all q (take m d) && list_all q t) (sym (take_all n (drop i d) (omega (arith, length-drop i d, whole))))
