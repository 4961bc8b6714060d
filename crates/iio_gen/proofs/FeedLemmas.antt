-- The lines that connections are fed.
use Rattle.std.proofs.Common.{◌≡◌, ℕ, zero, suc, ◌/◌, ◌%◌, ◌^◌, ◌<◌, ◌==◌, true, false, List, [], ◌∷◌, ◌++◌, length, get_or, slice_index, codes, refl, sym, ap, ◌∙◌, arith, append_assoc}
use Rattle.std.specs.Fmt.{decimal}
use Rattle.std.specs.Int.{w32, to_be_bytes}
use Rattle.std.specs.List.{list_all}
use Rattle.std.proofs.lemmas.Bool.{agree_below_at}
use Rattle.std.proofs.lemmas.Bool.Decides.{nat_tests}
use Rattle.hex.specs.Hex.{lower_digits}
use Rattle.iio_text.specs.Escape.{escaped, escaped_byte, is_plain}
use Rattle.iio_mask.specs.Text.{digits_of, mask_text}
use Rattle.iio_gen.specs.Input.{feed_line}
use Rattle.iio_gen.proofs.Texts.{IsWord, and_true, both_parts, decimal_word, is_word_byte, word_is_plain}

-- ---- a mask's text is a word

digit_word : (d : ℕ) → d < 16 → is_word_byte (slice_index lower_digits d) ≡ true
digit_word d small = agree_below_at (λ k. is_word_byte (slice_index lower_digits k)) (λ _. true) 16 d refl small

digits_word : (bytes : List ℕ) → ((i : ℕ) → get_or bytes i 0 < 256) → list_all is_word_byte (digits_of bytes) ≡ true
digits_word [] each = refl
digits_word (b ∷ bytes) each =
    let fits : b < 256 = each 0 in
    let high = digit_word (b / 16) (omega arith) in
    let low = digit_word (b % 16) (omega arith) in
    rw (high, low) (digits_word bytes (λ i. each (suc i)))

byte_fits : (bits i : ℕ) → get_or (to_be_bytes w32 bits) i 0 < 256
byte_fits bits zero = omega arith
byte_fits bits (suc zero) = omega arith
byte_fits bits (suc (suc zero)) = omega arith
byte_fits bits (suc (suc (suc zero))) = omega arith
byte_fits bits (suc (suc (suc (suc i)))) = omega arith

pub mask_word : (bits : ℕ) → IsWord (mask_text 9 bits)
mask_word bits = record { some = omega arith; bytes = digits_word (to_be_bytes w32 bits) (byte_fits bits) }

pub mask_size : (bits : ℕ) → length (mask_text 9 bits) ≡ 8
mask_size bits = refl

-- ---- commands need no escapes except for their LF

abbrev pub IsPlain : List ℕ → Type 0
IsPlain text = list_all is_plain text ≡ true

decimal_plain : (n : ℕ) → n < 2 ^ 64 → IsPlain (decimal n)
decimal_plain n h = let word = decimal_word n h in word_is_plain (decimal n) word.bytes

pub open_plain : (samples bits : ℕ) → samples < 2 ^ 64 → IsPlain (codes "OPEN dev0 " ++ (decimal samples ++ (codes " " ++ mask_text 9 bits)))
open_plain samples bits h =
    let mask = mask_word bits in
    both_parts is_plain (decimal samples) (codes " " ++ mask_text 9 bits) (decimal_plain samples h) (word_is_plain (mask_text 9 bits) mask.bytes)

pub read_plain : (bytes : ℕ) → bytes < 2 ^ 64 → IsPlain (codes "READBUF dev0 " ++ decimal bytes)
read_plain bytes h = decimal_plain bytes h

plain_byte : (b : ℕ) → is_plain b ≡ true → escaped_byte b ≡ b ∷ []
plain_byte b h =
    let lf : (b == 10) ≡ false = grind (arith, nat_tests, h) in
    let quote : (b == 34) ≡ false = grind (arith, nat_tests, h) in
    let back : (b == 92) ≡ false = grind (arith, nat_tests, h) in
    rw (lf, h, quote, back) refl

pub escaped_line : (text : List ℕ) → IsPlain text → escaped (text ++ 10 ∷ []) ≡ text ++ 92 ∷ 110 ∷ []
escaped_line [] plain = refl
escaped_line (b ∷ bs) plain =
    let parts = and_true (is_plain b) (list_all is_plain bs) plain in
    ap (λ t. t ++ escaped (bs ++ 10 ∷ [])) (plain_byte b parts.0) ∙ ap (λ t. b ∷ t) (escaped_line bs parts.1)

-- the line of a step, in the parts in which it is written
pub feed_parts : (c : ℕ) (command : List ℕ) → IsPlain command → feed_line c command ≡ (codes "c" ++ (decimal c ++ codes " \"")) ++ (command ++ codes "\\n\"\n")
feed_parts c command plain =
    ap (λ t. (codes "c" ++ (decimal c ++ (32 ∷ 34 ∷ (t ++ 34 ∷ [])))) ++ 10 ∷ []) (escaped_line command plain) ∙ simp append_assoc

-- a step was appended in these parts
pub feed_appended : (c : ℕ) (command out named fed whole : List ℕ) → IsPlain command → named ≡ out ++ (codes "c" ++ (decimal c ++ codes " \""))
    → fed ≡ named ++ command
    → whole ≡ fed ++ codes "\\n\"\n" → whole ≡ out ++ feed_line c command
feed_appended c command out named fed whole plain a b d =
    d ∙ ap (λ t. t ++ codes "\\n\"\n") (b ∙ ap (λ t. t ++ command) a)
    ∙ append_assoc (out ++ (codes "c" ++ (decimal c ++ codes " \""))) command (codes "\\n\"\n")
    ∙ append_assoc out (codes "c" ++ (decimal c ++ codes " \"")) (command ++ codes "\\n\"\n")
    ∙ ap (λ t. out ++ t) (sym (feed_parts c command plain))

-- the same for a READBUF and for an OPEN, whose numbers are written one after another
pub read_appended : (c bytes : ℕ) (out named headed fed whole : List ℕ) → bytes < 2 ^ 64 → named ≡ out ++ (codes "c" ++ (decimal c ++ codes " \""))
    → headed ≡ named ++ codes "READBUF dev0 " → fed ≡ headed ++ decimal bytes → whole ≡ fed ++ codes "\\n\"\n"
    → whole ≡ out ++ feed_line c (codes "READBUF dev0 " ++ decimal bytes)
read_appended c bytes out named headed fed whole small a b d e =
    feed_appended c (codes "READBUF dev0 " ++ decimal bytes) out named fed whole (read_plain bytes small) a
    (d ∙ ap (λ t. t ++ decimal bytes) b ∙ append_assoc named (codes "READBUF dev0 ") (decimal bytes)) e

pub open_appended : (c samples bits : ℕ) (out named headed sized parted fed whole : List ℕ) → samples < 2 ^ 64
    → named ≡ out ++ (codes "c" ++ (decimal c ++ codes " \""))
    → headed ≡ named ++ codes "OPEN dev0 " → sized ≡ headed ++ decimal samples → parted ≡ sized ++ codes " " → fed ≡ parted ++ mask_text 9 bits
    → whole ≡ fed ++ codes "\\n\"\n"
    → whole ≡ out ++ feed_line c (codes "OPEN dev0 " ++ (decimal samples ++ (codes " " ++ mask_text 9 bits)))
open_appended c samples bits out named headed sized parted fed whole small a b d e f g =
    let parts : (((named ++ codes "OPEN dev0 ") ++ decimal samples) ++ codes " ") ++ mask_text 9 bits
    ≡ named ++ (codes "OPEN dev0 " ++ (decimal samples ++ (codes " " ++ mask_text 9 bits))) = simp append_assoc in
    feed_appended c (codes "OPEN dev0 " ++ (decimal samples ++ (codes " " ++ mask_text 9 bits))) out named fed whole (open_plain samples bits small) a
    (f ∙ ap (λ t. t ++ mask_text 9 bits) (e ∙ ap (λ t. t ++ codes " ") (d ∙ ap (λ t. t ++ decimal samples) b)) ∙ parts) g
