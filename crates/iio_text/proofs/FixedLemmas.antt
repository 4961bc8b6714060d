-- Lemmas on the texts of values.
use Rattle.std.proofs.Common.{◌≡◌, ℕ, zero, suc, ◌+◌, ◌-◌, ◌*◌, ◌/◌, ◌%◌, ◌^◌, ◌<◌, ◌≤◌, Bool, true, false, cond, not, ◌&&◌, eqb, leb, List, [], ◌∷◌, ◌++◌, length, get_or, take, drop, replicate, decimal, Result, Ok, refl, arith, ap, ◌∙◌, sym, subst, inl, inr, length-append, append-nil, one-add}
use Rattle.std.specs.List.{list_all, position_or_len, before_first, after_first}
use Rattle.std.specs.Char.{digit_value, is_ascii_digit}
use Rattle.std.specs.Str.Parse.{digits_value}
use Rattle.std.proofs.Math.Nat.{pow-le-pow_right, pow-suc, mul_assoc, mul_comm, div-add-mod, mod-lt, mod-eq_of_lt, mul-add-mod_self_left}
use Rattle.std.proofs.Math.ListN.{get_or-append}
use Rattle.std.proofs.Math.Seq.{get_or-append_right, take-append_seam, drop-append-add}
use Rattle.std.proofs.lemmas.Bool.{cases_lt}
use Rattle.std.proofs.lemmas.Bool.Decides.{nat_tests, eqb_tells}
use Rattle.std.proofs.lemmas.Fmt.{decimal_is_IsNumeral, decimal_digit, decimal_step}
use Rattle.std.proofs.lemmas.Grind.{common_steps}
use Rattle.std.proofs.lemmas.Int.Digits.{digits_value_more, digits_value_push}
use Rattle.std.proofs.lemmas.List.{get_or-replicate, length_push}
use Rattle.std.proofs.lemmas.List.Folds.{list_all-append}
use Rattle.std.proofs.lemmas.List.Sums.{AllPass-from_list_all}
use Rattle.std.specs.Bool.{if◌then◌else◌}
use Rattle.iio_text.specs.declared.errors.Errno.{Errno}
use Rattle.iio_text.specs.declared.values.Form.{Form}
use Rattle.iio_text.specs.declared.values.Form.TheVariants.{Int, Micro, Nano}
use Rattle.iio_text.specs.declared.values.Fixed.{Fixed}
use Rattle.iio_text.proofs.NumberLemmas.{are_digits}
use Rattle.iio_text.specs.Fixed.{places_of, IsFixed, without_last, body_of, is_minus, unsigned_of, is_point, whole_digits, part_digits, part_value, signed_fixed, fixed_by, fixed_of, last_digits, part_text, printed_fixed}

-- a power below 10^9
pub small_power : (i : ℕ) → i < 9 → 10 ^ i ≤ 100000000
small_power i h = pow-le-pow_right {n = 10} (omega arith) {i = i} {j = 8} (omega arith)

padded_digit : (ds : List ℕ) (places i d : ℕ) → i < places → (i < length ds → d ≡ digit_value (get_or ds i 0)) → (length ds ≤ i → d ≡ 0)
    → digit_value (get_or (ds ++ replicate places 48) i 0) ≡ d
padded_digit ds places i d h here past =
    elim (cases_lt i (length ds)) [
      | inl lt ↦ ap digit_value (get_or-append ds (replicate places 48) 0 i lt) ∙ sym (here lt)
      | inr ge ↦ ap digit_value (get_or-append_right ds (replicate places 48) i 0 ge ∙ get_or-replicate places (i - length ds) 48 0 (omega arith))
          ∙ sym (past ge)
    ]

-- another digit after the point
pub part_more : (ds : List ℕ) (places i d : ℕ) → i < places → (i < length ds → d ≡ digit_value (get_or ds i 0)) → (length ds ≤ i → d ≡ 0)
    → digits_value 10 (take (i + 1) (ds ++ replicate places 48)) ≡ digits_value 10 (take i (ds ++ replicate places 48)) * 10 + d
part_more ds places i d h here past =
    let room : i < length (ds ++ replicate places 48) = grind (arith, common_steps) in
    digits_value_more 10 (ds ++ replicate places 48) i room
    ∙ ap (λ n. digits_value 10 (take i (ds ++ replicate places 48)) * 10 + n) (padded_digit ds places i d h here past)

no_digit : (c b : ℕ) → is_ascii_digit c ≡ true → is_ascii_digit b ≡ false → eqb c b ≡ false
no_digit c b h g = elim (eqb_tells c b) [ inl e ↦ absurd (cc (ap is_ascii_digit e.1)) | inr n ↦ n.0 ]

digit_at : (ds : List ℕ) (i : ℕ) → list_all is_ascii_digit ds ≡ true → i < length ds → is_ascii_digit (get_or ds i 0) ≡ true
digit_at ds i h here = AllPass-from_list_all is_ascii_digit ds h i 0 here

-- the last digits of a number
length-last_digits : (k n : ℕ) → length (last_digits k n) ≡ k
length-last_digits zero n = refl
length-last_digits (suc k) n = length_push (last_digits k (n / 10)) (48 + n % 10) ∙ ap (λ m. m + 1) (length-last_digits k (n / 10)) ∙ omega arith

are_digits-last_digits : (k n : ℕ) → list_all is_ascii_digit (last_digits k n) ≡ true
are_digits-last_digits zero n = refl
are_digits-last_digits (suc k) n =
    let last : is_ascii_digit (48 + n % 10) ≡ true = grind (arith, nat_tests) in
    list_all-append is_ascii_digit (last_digits k (n / 10)) ((48 + n % 10) ∷ []) ∙ rw (are_digits-last_digits k (n / 10), last) refl

digits_value-last_digits : (k n : ℕ) → n < 10 ^ k → digits_value 10 (last_digits k n) ≡ n
digits_value-last_digits zero n h = omega arith
digits_value-last_digits (suc k) n h =
    let front = digits_value-last_digits k (n / 10) (grind (arith, common_steps)) in
    let last : digit_value (48 + n % 10) ≡ n % 10 = grind (arith, nat_tests) in
    digits_value_push 10 (last_digits k (n / 10)) (48 + n % 10) ∙ omega (arith, front, last)

-- a text whose last byte is a digit
abbrev EndsWithDigit : List ℕ → Type 0
EndsWithDigit text = is_ascii_digit (get_or text (length text - 1) 0) ≡ true

ends_with_digit : (xs ys : List ℕ) → 0 < length ys → EndsWithDigit ys → EndsWithDigit (xs ++ ys)
ends_with_digit xs ys some h =
    let e : length (xs ++ ys) - 1 - length xs ≡ length ys - 1 = omega (arith, length-append xs ys) in
    let at = get_or-append_right xs ys (length (xs ++ ys) - 1) 0 (omega (arith, length-append xs ys)) ∙ ap (λ i. get_or ys i 0) e in
    ap is_ascii_digit at ∙ h

digits_end : (ds : List ℕ) → list_all is_ascii_digit ds ≡ true → 0 < length ds → EndsWithDigit ds
digits_end ds h some = digit_at ds (length ds - 1) h (omega arith)

keeps_last : (b : ℕ) (text : List ℕ) (v : Bool) → eqb (get_or text (length text - 1) 0) b ≡ false
    → cond (v && eqb (get_or text (length text - 1) 0) b) (take (length text - 1) text) text ≡ text
keeps_last b text true h = rw h refl
keeps_last b text false h = refl

body_is : (text : List ℕ) → EndsWithDigit text → body_of text ≡ text
body_is text h =
    let zero_kept : without_last 0 text ≡ text = keeps_last 0 text _ (no_digit _ 0 h refl) in
    let lf_kept : without_last 10 text ≡ text = keeps_last 10 text _ (no_digit _ 10 h refl) in
    ap (without_last 10) zero_kept ∙ lf_kept

-- what a printed value consists of
and_right : (x y : Bool) → (x && y) ≡ true → y ≡ true
and_right true y h = h
and_right false y h = absurd cc

point_at : (ds es : List ℕ) → list_all is_ascii_digit ds ≡ true → position_or_len is_point (ds ++ 46 ∷ es) ≡ length ds
point_at [] es h = refl
point_at (d ∷ ds) es h =
    let point = no_digit d 46 (digit_at (d ∷ ds) 0 h (omega arith)) refl in
    rw (point, one-add) (ap suc (point_at ds es (and_right (is_ascii_digit d) (list_all is_ascii_digit ds) h)))

before_point : (ds es : List ℕ) → list_all is_ascii_digit ds ≡ true → before_first is_point (ds ++ 46 ∷ es) ≡ ds
before_point ds es h = ap (λ n. take n (ds ++ 46 ∷ es)) (point_at ds es h) ∙ take-append_seam ds (46 ∷ es)

after_point : (ds es : List ℕ) → list_all is_ascii_digit ds ≡ true → after_first is_point (ds ++ 46 ∷ es) ≡ es
after_point ds es h = ap (λ n. drop (n + 1) (ds ++ 46 ∷ es)) (point_at ds es h) ∙ drop-append-add ds (46 ∷ es) 1

whole_is : (form : Form) (ds : List ℕ) (part : ℕ) → list_all is_ascii_digit ds ≡ true → whole_digits form (ds ++ part_text form part) ≡ ds
whole_is Int ds part h = append-nil ds
whole_is Micro ds part h = before_point ds (last_digits 6 part) h
whole_is Nano ds part h = before_point ds (last_digits 9 part) h

part_is : (form : Form) (ds : List ℕ) (part : ℕ) → list_all is_ascii_digit ds ≡ true
    → part_digits form (ds ++ part_text form part) ≡ last_digits (places_of form) part
part_is Int ds part h = refl
part_is Micro ds part h = after_point ds (last_digits 6 part) h
part_is Nano ds part h = after_point ds (last_digits 9 part) h

fraction_end : (k : ℕ) (ds : List ℕ) (part : ℕ) → 0 < k → EndsWithDigit (ds ++ 46 ∷ last_digits k part)
fraction_end k ds part some =
    let long : 0 < length (last_digits k part) = omega (arith, length-last_digits k part) in
    let end = digits_end (last_digits k part) (are_digits-last_digits k part) long in
    ends_with_digit ds (46 ∷ last_digits k part) (omega arith) (ends_with_digit (46 ∷ []) (last_digits k part) long end)

number_end : (form : Form) (ds : List ℕ) (part : ℕ) → list_all is_ascii_digit ds ≡ true → 0 < length ds → EndsWithDigit (ds ++ part_text form part)
number_end Int ds part h some = subst EndsWithDigit (sym (append-nil ds)) (digits_end ds h some)
number_end Micro ds part h some = fraction_end 6 ds part (omega arith)
number_end Nano ds part h some = fraction_end 9 ds part (omega arith)

-- the value of valid digits
by_digits : (form : Form) (minus : Bool) (ds es : List ℕ) (whole part : ℕ) → list_all is_ascii_digit ds ≡ true → list_all is_ascii_digit es ≡ true
    → 0 < length ds → digits_value 10 ds ≡ whole → whole ≤ 2147483647 → part_value (places_of form) es ≡ part
    → fixed_by form minus ds es ≡ Ok (signed_fixed form minus whole part)
by_digits form minus ds es whole part h g some w within p =
    let counted : leb 1 (length ds + length es) ≡ true = grind (arith, nat_tests) in
    let small : leb whole 2147483647 ≡ true = grind (arith, nat_tests) in
    rw (counted, h, g, w, small, p) refl

part_value-last_digits : (k part : ℕ) → part < 10 ^ k → part_value k (last_digits k part) ≡ part
part_value-last_digits k part h =
    ap (λ n. digits_value 10 (take n (last_digits k part ++ replicate k 48))) (sym (length-last_digits k part))
    ∙ ap (digits_value 10) (take-append_seam (last_digits k part) (replicate k 48))
    ∙ digits_value-last_digits k part h

-- a text is read by its parts
by_parts : (form : Form) (text rest ds es : List ℕ) (minus : Bool) (r : Result Fixed Errno) → body_of text ≡ text → is_minus text ≡ minus
    → unsigned_of text ≡ rest → whole_digits form rest ≡ ds → part_digits form rest ≡ es → fixed_by form minus ds es ≡ r → fixed_of form text ≡ r
by_parts form text rest ds es minus r b m u w p done =
    ap (λ t. fixed_by form (is_minus t) (whole_digits form (unsigned_of t)) (part_digits form (unsigned_of t))) b
    ∙ ap (λ v. fixed_by form v (whole_digits form (unsigned_of text)) (part_digits form (unsigned_of text))) m
    ∙ ap (λ t. fixed_by form minus (whole_digits form t) (part_digits form t)) u
    ∙ ap (λ t. fixed_by form minus t (part_digits form rest)) w
    ∙ ap (fixed_by form minus ds) p
    ∙ done

-- a text that begins with a digit has no sign
no_sign : (text : List ℕ) → is_ascii_digit (get_or text 0 0) ≡ true → unsigned_of text ≡ text
no_sign text h = rw (no_digit (get_or text 0 0) 43 h refl, no_digit (get_or text 0 0) 45 h refl) refl

begins_with_digit : (ds es : List ℕ) → list_all is_ascii_digit ds ≡ true → 0 < length ds → is_ascii_digit (get_or (ds ++ es) 0 0) ≡ true
begins_with_digit ds es h some = ap is_ascii_digit (get_or-append ds es 0 0 some) ∙ digit_at ds 0 h some

sign_kept : (form : Form) (minus : Bool) (whole part : ℕ) → (minus ≡ true → 0 < whole + part)
    → signed_fixed form minus whole part ≡ record { negative = minus; whole = whole; part = part; form = form }
sign_kept form false whole part h = refl
sign_kept form true whole part h =
    let some = h refl in
    let kept : not (eqb whole 0 && eqb part 0) ≡ true = grind (arith, nat_tests) in
    rw kept refl

abbrev sign_text : Bool → List ℕ
sign_text negative = if negative then 45 ∷ [] else []

-- a sign, digits, and the digits after the point
read_text : (form : Form) (negative : Bool) (ds : List ℕ) (whole part : ℕ) → list_all is_ascii_digit ds ≡ true → 0 < length ds → digits_value 10 ds ≡ whole
    → (negative ≡ true → 0 < whole + part) → whole ≤ 2147483647 → part < 10 ^ places_of form
    → fixed_of form (sign_text negative ++ ds ++ part_text form part) ≡ Ok (record { negative = negative; whole = whole; part = part; form = form })
read_text form true ds whole part digits some value s w p =
    by_parts form (45 ∷ (ds ++ part_text form part)) (ds ++ part_text form part) ds (last_digits (places_of form) part) true _
    (body_is (45 ∷ (ds ++ part_text form part))
    (ends_with_digit (45 ∷ []) (ds ++ part_text form part) (omega (arith, length-append ds (part_text form part))) (number_end form ds part digits some)))
    refl refl (whole_is form ds part digits) (part_is form ds part digits)
    (by_digits form true ds (last_digits (places_of form) part) whole part digits (are_digits-last_digits (places_of form) part) some value w
    (part_value-last_digits (places_of form) part p) ∙ ap Ok (sign_kept form true whole part s))
read_text form false ds whole part digits some value s w p =
    let begin = begins_with_digit ds (part_text form part) digits some in
    by_parts form (ds ++ part_text form part) (ds ++ part_text form part) ds (last_digits (places_of form) part) false _
    (body_is (ds ++ part_text form part) (number_end form ds part digits some))
    (no_digit _ 45 begin refl) (no_sign (ds ++ part_text form part) begin) (whole_is form ds part digits) (part_is form ds part digits)
    (by_digits form false ds (last_digits (places_of form) part) whole part digits (are_digits-last_digits (places_of form) part) some value w
    (part_value-last_digits (places_of form) part p) ∙ ap Ok (sign_kept form false whole part s))

-- a printed value is read back
pub fixed_of-printed_fixed : (v : Fixed) → IsFixed v → fixed_of v.form (printed_fixed v) ≡ Ok v
fixed_of-printed_fixed v h =
    let numeral = decimal_is_IsNumeral v.whole (omega (arith, h.whole)) in
    read_text v.form v.negative (decimal v.whole) v.whole v.part (are_digits (decimal v.whole) numeral.0.1) numeral.0.0 numeral.1 h.sign h.whole h.part

-- ---- the digits after a leading 1
led_step : (x q : ℕ) → ((x * 10 + q) / 10 ≡ x + q / 10) × ((x * 10 + q) % 10 ≡ q % 10)
led_step x q = (omega arith, omega arith)

led_digits : (k q : ℕ) → k ≤ 9 → q < 10 ^ k → decimal (10 ^ k + q) ≡ 49 ∷ last_digits k q
led_digits zero zero few h = decimal_digit 1 (omega arith)
led_digits zero (suc q) few h = absurd (omega arith)
led_digits (suc k) q few h =
    let x = 10 ^ k in
    let e : 10 ^ suc k ≡ x * 10 = pow-suc 10 k in
    let some : 1 ≤ x = pow-le-pow_right {n = 10} (omega arith) {i = 0} {j = k} (omega arith) in
    let most : x ≤ 100000000 = small_power k (omega arith) in
    let step = decimal_step (x * 10 + q) (omega arith) (omega (arith, h, e)) in
    let rest = led_digits k (q / 10) (omega arith) (omega (arith, h, e)) in
    ap (λ y. decimal (y + q)) e ∙ step
    ∙ ap (λ n. decimal n ++ (48 + (x * 10 + q) % 10) ∷ []) (led_step x q).0
    ∙ ap (λ n. decimal (x + q / 10) ++ (48 + n) ∷ []) (led_step x q).1
    ∙ ap (λ ds. ds ++ (48 + q % 10) ∷ []) rest

-- the digits of the remainder by a power of ten
kept_digit : (x p : ℕ) → 0 < x → (p % (x * 10) / 10 ≡ p / 10 % x) × (p % (x * 10) % 10 ≡ p % 10)
kept_digit x p some =
    let c = p / (x * 10) in
    let r = p % (x * 10) in
    let parts : x * 10 * c + r ≡ p = div-add-mod p (x * 10) in
    let whole : x * 10 * c ≡ x * c * 10 = mul_assoc x 10 c ∙ ap (λ n. x * n) (mul_comm 10 c) ∙ sym (mul_assoc x c 10) in
    let small : r < x * 10 = mod-lt p (omega (arith, some)) in
    let tenth : p / 10 ≡ x * c + r / 10 = omega (arith, parts, whole) in
    let last : p % 10 ≡ r % 10 = omega (arith, parts, whole) in
    (sym (ap (λ n. n % x) tenth ∙ mul-add-mod_self_left x c (r / 10) ∙ mod-eq_of_lt (omega (arith, small))), sym last)

kept_digits : (k p : ℕ) → last_digits k (p % 10 ^ k) ≡ last_digits k p
kept_digits zero p = refl
kept_digits (suc k) p =
    let some : 0 < 10 ^ k = pow-le-pow_right {n = 10} (omega arith) {i = 0} {j = k} (omega arith) in
    let kept = kept_digit (10 ^ k) p some in
    ap (λ n. last_digits (suc k) (p % n)) (pow-suc 10 k)
    ∙ ap (λ n. last_digits k n ++ (48 + p % (10 ^ k * 10) % 10) ∷ []) kept.0
    ∙ ap (λ n. last_digits k (p / 10 % 10 ^ k) ++ (48 + n) ∷ []) kept.1
    ∙ ap (λ ds. ds ++ (48 + p % 10) ∷ []) (kept_digits k (p / 10))

behind_first : (k p : ℕ) → k ≤ 9 → 0 < 10 ^ k → drop 1 (decimal (10 ^ k + p % 10 ^ k)) ≡ last_digits k p
behind_first k p few some = ap (drop 1) (led_digits k (p % 10 ^ k) few (mod-lt p some)) ∙ kept_digits k p

pub micro_digits : (p : ℕ) → drop 1 (decimal (1000000 + p % 1000000)) ≡ last_digits 6 p
micro_digits p = behind_first 6 p (omega arith) (omega arith)

pub nano_digits : (p : ℕ) → drop 1 (decimal (1000000000 + p % 1000000000)) ≡ last_digits 9 p
nano_digits p = behind_first 9 p (omega arith) (omega arith)
