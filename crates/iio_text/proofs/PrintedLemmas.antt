-- Lemmas on how bytes are printed from a table, into a room.
use borrow.Rule.Slice.PartMut.{put_mid, mid_of, post_of}
use lib.Lanes.{chunk, put_chunk, number_l, Each1}
use Rattle.std.proofs.Common.{◌≡◌, ℕ, zero, suc, ◌+◌, ◌-◌, ◌*◌, ◌/◌, ◌%◌, ◌^◌, ◌<◌, ◌≤◌, ◌∷◌, ◌++◌, Bool, true, eqb, leb, List, [], length, length-append, take, drop, get_or, refl, ap, sym, ◌∙◌, arith, bit_and, div-one, add-zero, zero-add, Fits, w8}
use Rattle.std.specs.Int.{w64, byte_at, bytes_low_first, from_le_bytes, to_le_bytes}
use Rattle.std.proofs.Math.Nat.{pow-suc}
use Rattle.std.proofs.lemmas.Nat.{and_mask, le_bytes_8, pow-add}
use Rattle.std.specs.Str.{bytes_eq}
use Rattle.std.proofs.Math.Seq.{take-add, take-append-add}
use Rattle.std.proofs.lemmas.Bool.{agree_below, agree_below_at, leb-true}
use Rattle.std.proofs.lemmas.Grind.{flat_map-append}
use Rattle.std.proofs.lemmas.Simd.{put_chunk_is}
use Rattle.std.proofs.lemmas.List.{length-take, take-take, take_all, take-append-le, length-take-le, take_more, flat_map_more}
use Rattle.std.proofs.lemmas.Slice.Eq.{bytes_eq-Decides}
use Rattle.iio_text.specs.Escape.{escaped, escaped_byte, is_plain}
use Rattle.iio_text.specs.declared.escapes.TheConstants.{PRINTED, PRINTED_LENS}

-- the number of bytes that a byte is printed as
abbrev pub printed_len : ℕ → ℕ
printed_len b = get_or PRINTED_LENS b 0

-- the four bytes that the table has for a byte
abbrev pub entry : ℕ → List ℕ
entry b = take 4 (drop (4 * b) PRINTED)

abbrev is_right : ℕ → Bool
is_right b = bytes_eq (take (printed_len b) (entry b)) (escaped_byte b)

abbrev is_within : ℕ → Bool
is_within b = leb (printed_len b) (length (entry b))

all_right : agree_below is_right (λ b. true) 256 ≡ true
all_right = refl

all_within : agree_below is_within (λ b. true) 256 ≡ true
all_within = refl

-- no byte is printed as more than four
all_short : agree_below (λ b. leb (printed_len b) 4) (λ b. true) 256 ≡ true
all_short = refl

pub printed_len-le : (b : ℕ) → b < 256 → printed_len b ≤ 4
printed_len-le b h = leb-true (printed_len b) 4 (agree_below_at (λ c. leb (printed_len c) 4) (λ c. true) 256 b all_short h)

all_plain : agree_below (λ b. eqb (printed_len b) 1) is_plain 256 ≡ true
all_plain = refl

-- exactly the bytes that are printed as one byte stand for themselves
pub one_is_plain : (b : ℕ) → b < 256 → eqb (get_or PRINTED_LENS b 0) 1 ≡ is_plain b
one_is_plain b h = agree_below_at (λ c. eqb (printed_len c) 1) is_plain 256 b all_plain h

-- the first of the table's bytes are the byte as it is printed, whatever stands after them
printed : (b : ℕ) (after : List ℕ) → b < 256 → take (printed_len b) (entry b ++ after) ≡ escaped_byte b
printed b after h =
    let within = agree_below_at is_within (λ c. true) 256 b all_within h in
    let fits = leb-true (printed_len b) (length (entry b)) within in
    take-append-le (printed_len b) (entry b) after fits
    ∙ (bytes_eq-Decides _ _).0 (agree_below_at is_right (λ c. true) 256 b all_right h)

-- four bytes of a table, stored at the beginning of a room
stored : (i k : ℕ) (table room : List ℕ) → 4 ≤ k → 4 ≤ length room
    → put_chunk 0 room (chunk 0 4 (mid_of i k table)) ≡ take 4 (drop i table) ++ drop (length (take 4 (drop i table))) room
stored i k table room more fits =
    let short : 0 + length (take 4 (drop i table)) ≤ length room = omega (arith, length-take 4 (drop i table)) in
    ap (put_chunk 0 room) (take-take 4 k (drop i table) more) ∙ put_chunk_is 0 room (take 4 (drop i table)) short

-- afterwards the byte as it is printed stands at the beginning of the room
pub printed_stored : (b k : ℕ) (room : List ℕ) → b < 256 → 4 ≤ length room → 4 ≤ k
    → take (printed_len b) (put_chunk 0 room (chunk 0 4 (mid_of (4 * b) k PRINTED))) ≡ escaped_byte b
printed_stored b k room h fits more = ap (take (printed_len b)) (stored (4 * b) k PRINTED room more fits) ∙ printed b _ h

-- what stands in a room up to a place, followed by a part that is written there
pub take_into : (a k n : ℕ) (xs ys : List ℕ) → a ≤ length xs → n ≤ length ys → take (a + n) (put_mid a k xs ys) ≡ take a xs ++ take n ys
take_into a k n xs ys h m =
    ap (λ l. take (l + n) (put_mid a k xs ys)) (sym (length-take-le a xs h))
    ∙ take-append-add (take a xs) (ys ++ post_of a k xs) n
    ∙ ap (λ t. take a xs ++ t) (take-append-le n ys (post_of a k xs) m)

-- what stands in a vector up to a place, followed by a part for which it grew, and after which it is cut
pub take_grown : (a k n m : ℕ) (xs ys after : List ℕ) → a ≤ length xs → n ≤ length ys → a + n ≤ m
    → take (a + n) (take m (put_mid a k xs ys ++ after)) ≡ take a xs ++ take n ys
take_grown a k n m xs ys after h l within =
    let long : a + n ≤ length (put_mid a k xs ys) =
    omega (arith, length-append (take a xs) (ys ++ post_of a k xs), length-append ys (post_of a k xs), length-take-le a xs h) in
    take-take (a + n) m (put_mid a k xs ys ++ after) within ∙ take-append-le (a + n) (put_mid a k xs ys) after long ∙ take_into a k n xs ys h l

-- a part that is written doesn't change how long a vector is
pub length_written : (a m : ℕ) (xs ys after : List ℕ) → a ≤ length xs → length ys ≡ length xs - a → m ≡ length xs
    → length (take m (put_mid a (length xs - a) xs ys ++ after)) ≡ m
length_written a m xs ys after h same all =
    let post = post_of a (length xs - a) xs in
    length-take-le m (put_mid a (length xs - a) xs ys ++ after)
    (omega (arith, length-append (put_mid a (length xs - a) xs ys) after, length-append (take a xs) (ys ++ post), length-append ys post, length-take-le a xs h))

-- what a vector had before it grew
pub take_kept : (xs ys : List ℕ) (a m : ℕ) → a ≡ length xs → take a (take (a + m) xs ++ ys) ≡ xs
take_kept xs ys a m e =
    ap (λ t. take a (t ++ ys)) (take_all (a + m) xs (omega (arith, e))) ∙ take-append-le a xs ys (omega (arith, e)) ∙ take_all a xs (omega (arith, e))

-- bytes up to a place, followed by some more from there on
pub escaped_next : (bytes : List ℕ) (place more : ℕ) → escaped (take place bytes) ++ escaped (chunk place more bytes) ≡ escaped (take (place + more) bytes)
escaped_next bytes place more = sym (flat_map-append escaped_byte (take place bytes) (chunk place more bytes)) ∙ ap escaped (sym (take-add place more bytes))

-- bytes up to a place, followed by those from there on to another place
pub escaped_on : (bytes : List ℕ) (place end : ℕ) → place ≤ end
    → escaped (take place bytes) ++ escaped (mid_of place (end - place) bytes) ≡ escaped (take end bytes)
escaped_on bytes place end h =
    let e : place + (end - place) ≡ end = omega arith in
    escaped_next bytes place (end - place) ∙ ap (λ n. escaped (take n bytes)) e

-- bytes up to a place, followed by the one there
pub escaped_more : (bytes : List ℕ) (i : ℕ) → i < length bytes → escaped (take i bytes) ++ escaped_byte (get_or bytes i 0) ≡ escaped (take (i + 1) bytes)
escaped_more bytes i h = flat_map_more escaped_byte [] (take i bytes) (get_or bytes i 0) ∙ ap escaped (sym (take_more bytes i 0 h))

-- ---- the bytes of a word

two_to_bytes : (i : ℕ) → 2 ^ (8 * i) ≡ 256 ^ i
two_to_bytes zero = refl
two_to_bytes (suc i) =
    let more : 8 * suc i ≡ 8 * i + 8 = omega arith in
    ap (λ k. 2 ^ k) more ∙ pow-add 2 (8 * i) 8 ∙ ap (λ p. p * 256) (two_to_bytes i) ∙ sym (pow-suc 256 i)

shifted : (n i : ℕ) → n / 2 ^ (8 * i) % 256 ≡ byte_at i n
shifted n zero = ap (λ m. m % 256) (div-one n)
shifted n (suc i) = ap (λ p. n / p % 256) (two_to_bytes (suc i))

byte_among : (s k i n : ℕ) → i < k → get_or (bytes_low_first s k n) i 0 ≡ byte_at (s + i) n
byte_among s zero i n h = absurd (omega arith)
byte_among s (suc k) zero n h = ap (λ j. byte_at j n) (sym (add-zero s))
byte_among s (suc k) (suc i) n h =
    let next : suc s + i ≡ s + suc i = omega arith in
    byte_among (suc s) k i n (omega arith) ∙ ap (λ j. byte_at j n) next

-- byte i of a word, by a shift
pub byte_of_word : (word i : ℕ) → i < 8 → bit_and (word / 2 ^ (8 * i)) 255 ≡ get_or (to_le_bytes w64 word) i 0
byte_of_word word i h = and_mask (word / 2 ^ (8 * i)) 8 ∙ shifted word i ∙ sym (byte_among 0 8 i word h ∙ ap (λ j. byte_at j word) (zero-add i))

small_bytes : (v : List ℕ) → Each1 (Fits w8) v → (i : ℕ) → get_or v i 0 < 256
small_bytes [] all i = omega arith
small_bytes (b ∷ bs) all zero = all.0.fits
small_bytes (b ∷ bs) all (suc i) = small_bytes bs all.1 i

number_of_eight : (v : List ℕ) → length v ≡ 8 → ((i : ℕ) → get_or v i 0 < 256) → number_l 256 v % 2 ^ 64 ≡ from_le_bytes w64 v
number_of_eight (a ∷ b ∷ c ∷ d ∷ e ∷ f ∷ g ∷ h ∷ []) l small = omega (arith, small 0, small 1, small 2, small 3, small 4, small 5, small 6, small 7)
number_of_eight v l small = absurd (omega arith)

-- the bytes of the number that eight bytes make
pub bytes_of_number : (v : List ℕ) → length v ≡ 8 → Each1 (Fits w8) v → to_le_bytes w64 (number_l 256 v % 2 ^ 64) ≡ v
bytes_of_number v l all = le_bytes_8 v _ l (small_bytes v all) (number_of_eight v l (small_bytes v all))
