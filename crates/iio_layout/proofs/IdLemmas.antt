-- IDs of channels: the numbers in them, and their text both ways.
use Rattle.std.proofs.Common.{◌≡◌, ◌⊎◌, ℕ, ◌+◌, ◌-◌, ◌*◌, ◌<◌, ◌≤◌, ◌&&◌, nat_lt, true, false, List, [], ◌∷◌, ◌++◌, length, get_or, drop, Option, Some, None, IfSome, option_map, refl, sym, ap, ◌∙◌, inl, inr, arith, rules}
use Rattle.std.proofs.lemmas.Grind.{common_steps}
use Rattle.std.specs.Char.{is_ascii_digit, digit_value}
use Rattle.std.specs.Fmt.{decimal}
use Rattle.std.specs.Str.{all_ascii_digits}
use Rattle.std.specs.Str.Parse.{digits_value, digits_value_after}
use Rattle.std.proofs.lemmas.Bool.{cases_eq, and_left, and_right, eq-eqb, ne_eqb}
use Rattle.std.proofs.lemmas.Fmt.{decimal-digits_value, digits_decimal, digits_value-decimal, decimal_nonempty, first_decimal, decimal_digit}
use Rattle.std.proofs.lemmas.List.{at_drop_more}
use Rattle.std.proofs.lemmas.Str.Parse.{IsNumeralModel, numerals_by_value, tells_all_ascii_digits}
use Rattle.iio_layout.specs.declared.channel.Kind.{Kind}
use Rattle.iio_layout.specs.declared.channel.Suffix.{Suffix}
use Rattle.iio_layout.specs.declared.channel.Suffix.TheVariants.{Bare, Number, X, Y, Z}
use Rattle.iio_layout.specs.Id.{FitsSuffix, axis_of, first_some, id_among, id_of, id_text, kind_text, kinds, number_of, starts_number, suffix_after, suffix_of, suffix_text}

-- another digit
pub value_more : (text : List ℕ) (i value : ℕ) → i < length text → is_ascii_digit (get_or text i 0) ≡ true
    → digits_value_after 10 value (drop i text) ≡ digits_value_after 10 (value * 10 + (get_or text i 0 - 48)) (drop (i + 1) text)
value_more text i value within digit = grind (arith, common_steps)

pub digits_more : (text : List ℕ) (i : ℕ) → i < length text → is_ascii_digit (get_or text i 0) ≡ true
    → all_ascii_digits (drop i text) ≡ all_ascii_digits (drop (i + 1) text)
digits_more text i within digit = at_drop_more all_ascii_digits text i 0 within ∙ rw digit refl

-- a byte that is no digit
pub digits_other : (text : List ℕ) (i : ℕ) → i < length text → is_ascii_digit (get_or text i 0) ≡ false → all_ascii_digits (drop i text) ≡ false
digits_other text i within other = at_drop_more all_ascii_digits text i 0 within ∙ rw other refl

-- digits that follow make no number smaller
pub value_grows : (value : ℕ) (text : List ℕ) → value ≤ digits_value_after 10 value text
value_grows value [] = omega arith
value_grows value (c ∷ cs) = let more = value_grows (value * 10 + digit_value c) cs in omega (arith, more)

-- ---- when a text is a number

pub number_refused : (text : List ℕ) → (starts_number text && (all_ascii_digits text && nat_lt (digits_value 10 text) 65536)) ≡ false → None ≡ number_of text
number_refused text h = rw h refl

pub number_over : (text : List ℕ) → 65536 ≤ digits_value 10 text → None ≡ number_of text
number_over text over = search rules

pub number_other : (text : List ℕ) → all_ascii_digits text ≡ false → None ≡ number_of text
number_other text other = number_refused text (and_right (starts_number text) _ (and_left (all_ascii_digits text) _ other))

pub number_headless : (text : List ℕ) → starts_number text ≡ false → None ≡ number_of text
number_headless text none = number_refused text (and_left (starts_number text) _ none)

pub number_there : (text : List ℕ) (value : ℕ) → starts_number text ≡ true → all_ascii_digits text ≡ true → value ≡ digits_value 10 text → value < 65536
    → Some value ≡ number_of text
number_there text value starts digits is small = search rules

-- a digit too many for 16 bits
pub number_overflows : (text : List ℕ) (i value : ℕ) → i < length text → is_ascii_digit (get_or text i 0) ≡ true
    → digits_value_after 10 value (drop i text) ≡ digits_value 10 text → 65536 ≤ value * 10 + (get_or text i 0 - 48) → None ≡ number_of text
number_overflows text i value within digit so_far over = search (rules, value_more, value_grows, number_over)

-- ---- an ID's text both ways

own : IsNumeralModel (λ ds. all_ascii_digits ds ≡ true) (digits_value 10)
own = numerals_by_value (λ ds. all_ascii_digits ds ≡ true) tells_all_ascii_digits

starts_facts : (text : List ℕ) → starts_number text ≡ true → (0 < length text) × (get_or text 0 0 ≡ 48 → length text ≡ 1)
starts_facts text h = search rules

starts_from : (text : List ℕ) → 0 < length text → (get_or text 0 0 ≡ 48 → length text ≡ 1) → starts_number text ≡ true
starts_from text some alone = search rules

number_tests : (text : List ℕ) (n : ℕ) → number_of text ≡ Some n
    → (starts_number text ≡ true) × (all_ascii_digits text ≡ true) × (digits_value 10 text < 65536) × (digits_value 10 text ≡ n)
number_tests text n h = search rules

pub number_of-spelled : (text : List ℕ) (n : ℕ) → number_of text ≡ Some n → text ≡ decimal n
number_of-spelled text n h =
    let t = number_tests text n h in
    let first = starts_facts text t.0 in
    let small = t.2 in
    sym (decimal-digits_value own text t.1 first.0 first.1 (omega arith)) ∙ ap decimal t.3

starts_decimal : (n : ℕ) → n < 65536 → starts_number (decimal n) ≡ true
starts_decimal n small = search (rules, decimal_digit, first_decimal, starts_from, decimal_nonempty)

pub number_of-decimal : (n : ℕ) → n < 65536 → number_of (decimal n) ≡ Some n
number_of-decimal n small =
    let value = digits_value-decimal own n (omega arith) in
    sym (number_there (decimal n) n (starts_decimal n small) (digits_decimal own n (omega arith)) (sym value) small)

-- ---- what stands after a kind

axis_of-spelled : (text : List ℕ) (suffix : Suffix) → axis_of text ≡ Some suffix → 95 ∷ text ≡ suffix_text suffix
axis_of-spelled text suffix h = search rules

mapped_some : {A B : Type 0} (o : Option A) (f : A → B) (y : B) → option_map f o ≡ Some y → (x : A) × (o ≡ Some x) × (f x ≡ y)
mapped_some o f y h = search rules

pub suffix_of-spelled : (text : List ℕ) (suffix : Suffix) → suffix_of text ≡ Some suffix → text ≡ suffix_text suffix
suffix_of-spelled [] suffix h = cc
suffix_of-spelled (c ∷ cs) suffix h =
    elim (cases_eq c 95) [
      | inl axis ↦
          let is = eq-eqb c 95 axis in
          ap (λ d. d ∷ cs) axis ∙ axis_of-spelled cs suffix (rw is at h)
      | inr number ↦
          let is = ne_eqb c 95 number in
          let n = mapped_some (number_of (c ∷ cs)) (λ n. Number n) suffix (rw is at h) in
          number_of-spelled (c ∷ cs) n.0 n.1 ∙ ap suffix_text n.2
    ]

suffix_of-number : (text : List ℕ) (n : ℕ) → number_of text ≡ Some n → suffix_of text ≡ Some (Number n)
suffix_of-number text n h = search rules

pub suffix_of-text : (suffix : Suffix) → FitsSuffix suffix → suffix_of (suffix_text suffix) ≡ Some suffix
suffix_of-text Bare fits = refl
suffix_of-text (Number n) fits = suffix_of-number (decimal n) n (number_of-decimal n fits)
suffix_of-text X fits = refl
suffix_of-text Y fits = refl
suffix_of-text Z fits = refl

-- ---- the whole ID

suffix_after-spelled : (kind : Kind) (text : List ℕ) (suffix : Suffix) → suffix_after kind text ≡ Some suffix → text ≡ id_text kind suffix
suffix_after-spelled kind text suffix h = search (rules, suffix_of-spelled)

first_some-either : {A : Type 0} (o p : Option A) (y : A) → first_some o p ≡ Some y → (o ≡ Some y) ⊎ (p ≡ Some y)
first_some-either o p y h = search rules

id_among-spelled : (among : List Kind) (text : List ℕ) (id : Kind × Suffix) → id_among among text ≡ Some id → text ≡ id_text id.0 id.1
id_among-spelled [] text id h = cc h
id_among-spelled (kind ∷ others) text id h =
    elim (first_some-either (option_map (λ suffix. (kind, suffix)) (suffix_after kind text)) (id_among others text) id h) [
      | inl here ↦
          let found = mapped_some (suffix_after kind text) (λ suffix. (kind, suffix)) id here in
          suffix_after-spelled kind text found.0 found.1 ∙ ap (λ (i : Kind × Suffix). id_text i.0 i.1) found.2
      | inr later ↦ id_among-spelled others text id later
    ]

-- a kind whose word doesn't lead to an ID
pub id_among-next : (among : List Kind) (text : List ℕ) (i : ℕ) (kind : Kind) → i < length among → suffix_after (get_or among i kind) text ≡ None
    → id_among (drop i among) text ≡ id_of text → id_among (drop (i + 1) among) text ≡ id_of text
id_among-next among text i kind within none so_far = grind (arith, common_steps)

id_of-kind : (kind : Kind) (rest : List ℕ) (suffix : Suffix) → suffix_of rest ≡ Some suffix → id_of (kind_text kind ++ rest) ≡ Some (kind, suffix)
id_of-kind kind rest suffix h = search rules

-- what is read is the text of the ID
pub id_of-spelled : (text : List ℕ) (o : Option (Kind × Suffix)) → o ≡ id_of text → IfSome o (λ id. text ≡ id_text id.0 id.1)
id_of-spelled text (Some id) h = id_among-spelled kinds text id (sym h)
id_of-spelled text None h = tt

-- the text of an ID is read as the ID
pub id_of-text : (text : List ℕ) (kind : Kind) (suffix : Suffix) → FitsSuffix suffix → text ≡ id_text kind suffix → id_of text ≡ Some (kind, suffix)
id_of-text text kind suffix fits is = search (rules, id_of-kind, suffix_of-text)
