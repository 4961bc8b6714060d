-- Lemmas on the numbers that digits write.
use Rattle.std.proofs.Common.{◌≡◌, ℕ, zero, suc, ◌+◌, ◌-◌, ◌*◌, ◌/◌, ◌^◌, ◌<◌, ◌≤◌, true, false, ◌&&◌, eqb, leb, List, [], ◌∷◌, length, get_or, drop, Some, None, ℤ, pos, negsuc, decimal, FitsSigned, w64, refl, arith, ap, ◌∙◌, sub-one}
use Rattle.std.specs.Prelude.{option_map}
use Rattle.std.specs.Fmt.{signed_decimal}
use Rattle.std.proofs.lemmas.Fmt.{decimal_digit, decimal_is_IsNumeral, first_decimal, length-decimal-le}
use Rattle.std.proofs.lemmas.Int.{ints}
use Rattle.std.specs.List.{list_all}
use Rattle.std.specs.Char.{is_ascii_digit, digit_value}
use Rattle.std.specs.Str.Parse.{AllDigits, digits_value, digits_value_after}
use Rattle.std.proofs.lemmas.Bool.Decides.{nat_tests}
use Rattle.std.proofs.lemmas.List.{at_drop_more}
use Rattle.iio_text.specs.Numbers.{value_up_to, number_of, plain_value, negative_of, int_of}

-- further digits don't make a number smaller
pub digits_value_after-ge : (n : ℕ) (ds : List ℕ) → n ≤ digits_value_after 10 n ds
digits_value_after-ge n [] = omega arith
digits_value_after-ge n (d ∷ ds) = omega (arith, digits_value_after-ge (n * 10 + digit_value d) ds)

-- above a tenth of the limit, another digit makes a number above the limit
pub digits_value_after-past : (limit n : ℕ) (text : List ℕ) (i : ℕ) → i < length text → limit / 10 < n → limit < digits_value_after 10 n (drop i text)
digits_value_after-past limit n text i here past =
    let e = at_drop_more (digits_value_after 10 n) text i 0 here in
    let more = digits_value_after-ge (n * 10 + digit_value (get_or text i 0)) (drop (i + 1) text) in
    omega (arith, e, more)

-- a byte that is no digit
pub no_digits : (text : List ℕ) (i : ℕ) → i < length text → is_ascii_digit (get_or text i 0) ≡ false → list_all is_ascii_digit (drop i text) ≡ false
no_digits text i here e = at_drop_more (list_all is_ascii_digit) text i 0 here ∙ ap (λ b. b && list_all is_ascii_digit (drop (i + 1) text)) e

-- if a byte is no digit, there is no number
pub value_up_to-no_digits : (limit : ℕ) (text : List ℕ) → list_all is_ascii_digit text ≡ false → value_up_to limit text ≡ None
value_up_to-no_digits limit text e = rw e refl

-- above the limit there is no number
pub value_up_to-past : (limit : ℕ) (text : List ℕ) → limit < digits_value 10 text → value_up_to limit text ≡ None
value_up_to-past limit text past = grind (arith, nat_tests)

-- what is read is at most the limit
pub value_up_to-le : (limit : ℕ) (text : List ℕ) (n : ℕ) → value_up_to limit text ≡ Some n → n ≤ limit
value_up_to-le limit text n e = grind (arith, nat_tests)

pub plain_value-le : (limit : ℕ) (text : List ℕ) (n : ℕ) → plain_value limit text ≡ Some n → n ≤ limit
plain_value-le limit [] n e = absurd cc
plain_value-le limit (d ∷ ds) n e = grind (arith, nat_tests, value_up_to-le limit (d ∷ ds))

-- minus a number that isn't zero
pub negative_of-some : (n : ℕ) → 0 < n → negative_of (Some n) ≡ Some (negsuc (n - 1))
negative_of-some zero h = absurd (omega arith)
negative_of-some (suc n) h = rw sub-one refl

-- digits
digit_is : (c : ℕ) → digit_value c < 10 → is_ascii_digit c ≡ true
digit_is c h = grind (arith, nat_tests)

pub are_digits : (ds : List ℕ) → AllDigits 10 ds → list_all is_ascii_digit ds ≡ true
are_digits [] h = refl
are_digits (d ∷ ds) h = rw (digit_is d h.0, are_digits ds h.1) refl

value_up_to-digits : (limit n : ℕ) (ds : List ℕ) → list_all is_ascii_digit ds ≡ true → digits_value 10 ds ≡ n → n ≤ limit → value_up_to limit ds ≡ Some n
value_up_to-digits limit n ds digits value within =
    let small : leb n limit ≡ true = grind (arith, nat_tests) in
    rw (digits, value, small) refl

plain_value-digits : (limit n : ℕ) (ds : List ℕ) → list_all is_ascii_digit ds ≡ true → digits_value 10 ds ≡ n → n ≤ limit → 48 < get_or ds 0 0
    → plain_value limit ds ≡ Some n
plain_value-digits limit n [] digits value within first = absurd (omega arith)
plain_value-digits limit n (d ∷ ds) digits value within first =
    let zero : eqb d 48 ≡ false = grind (arith, nat_tests) in
    rw zero (value_up_to-digits limit n (d ∷ ds) digits value within)

plain_value-decimal : (limit n : ℕ) → n < 2 ^ 64 → n ≤ limit → plain_value limit (decimal n) ≡ Some n
plain_value-decimal limit zero h within = rw (decimal_digit 0 (omega arith)) refl
plain_value-decimal limit (suc n) h within =
    let numeral = decimal_is_IsNumeral (suc n) h in
    plain_value-digits limit (suc n) (decimal (suc n)) (are_digits _ numeral.0.1) numeral.1 within (first_decimal (suc n) (omega arith) h)

-- a printed number is read back
pub number_of-decimal : (n : ℕ) → n < 2 ^ 32 → number_of (decimal n) ≡ Some n
number_of-decimal n h =
    let numeral = decimal_is_IsNumeral n (omega arith) in
    let some : leb 1 (length (decimal n)) ≡ true = grind (arith, nat_tests, numeral.0.0) in
    let short : leb (length (decimal n)) 10 ≡ true = grind (arith, nat_tests, length-decimal-le 10 n (omega arith) (omega arith) (omega arith)) in
    rw (some, short) (value_up_to-digits 4294967295 n (decimal n) (are_digits _ numeral.0.1) numeral.1 (omega arith))

unsigned_int : (ds : List ℕ) → eqb (get_or ds 0 0) 45 ≡ false → int_of ds ≡ option_map pos (plain_value 9223372036854775807 ds)
unsigned_int [] h = refl
unsigned_int (d ∷ ds) h = rw h refl

begins_no_minus : (n : ℕ) → n < 2 ^ 64 → eqb (get_or (decimal n) 0 0) 45 ≡ false
begins_no_minus zero h = rw (decimal_digit 0 (omega arith)) refl
begins_no_minus (suc n) h = let first = first_decimal (suc n) (omega arith) h in grind (arith, nat_tests)

-- a printed integer is read back
pub int_of-signed_decimal : (z : ℤ) → FitsSigned w64 z → int_of (signed_decimal z) ≡ Some z
int_of-signed_decimal (pos n) h =
    let small : n < 2 ^ 63 = omega (arith, ints) in
    unsigned_int (decimal n) (begins_no_minus n (omega arith)) ∙ ap (option_map pos) (plain_value-decimal 9223372036854775807 n (omega arith) (omega arith))
int_of-signed_decimal (negsuc n) h =
    let small : n < 2 ^ 63 = omega (arith, ints) in
    ap negative_of (plain_value-decimal 9223372036854775808 (suc n) (omega arith) (omega arith))
