-- A description with the names of another reads the same steps.
use Rattle.std.proofs.Common.{◌≡◌, ℕ, ◌+◌, Bool, not, nat_lt, cond, List, [], ◌∷◌, ◌++◌, length, map, Some, None, Result, refl, sym, ap, ◌∙◌, arith, rules}
use Rattle.std.proofs.lemmas.Grind.{common_steps}
use Rattle.std.specs.Prelude.{position}
use Rattle.std.specs.List.{position_or_len, prefix_len}
use Rattle.std.specs.Str.{bytes_eq}
use Rattle.std.proofs.lemmas.List.{length-map}
use Rattle.iio_base.specs.Refusals.{◌>>=◌}
use Rattle.iio_text.specs.declared.refusals.Why.{Why}
use Rattle.iio_text.specs.declared.refusals.Why.TheVariants as why
use Rattle.iio_text.specs.Lines.{words_of_line}
use Rattle.iio_desc.specs.Description.{AverageRecord, Description, DeviceHead, DeviceRecord, OutputRecord, heads_of, trigger_number}
use Rattle.iio_history.specs.Script.{step_of, step_of_words, step_words}
use Rattle.iio_history.specs.Transcript.{Step}
use Rattle.iio_script.specs.Outline.{FindsSame}

-- ---- what follows a reading

same_after : {A B E : Type 0} (read : Result A E) (f g : A → Result B E) → ((x : A) → f x ≡ g x) → (read >>= f) ≡ (read >>= g)
same_after read f g each = search rules

-- ---- the entries of a table

-- a fact of each entry
abbrev pub Each : {A : Type 0} → (A → Type 0) → List (List ℕ × A) → Type 0
Each P [] = Unit {0}
Each P (e ∷ es) = P e.1 × Each P es

-- ---- the forms of steps

abbrev Form : Type 0
Form = Description → List (List ℕ) → Result Step Why

abbrev SameForm : Description → Description → Form → Type 0
SameForm one other form = (words : List (List ℕ)) → form one words ≡ form other words

same_forms : (one other : Description) → FindsSame one other → Each (SameForm one other) step_words
same_forms one other same = grind (arith, common_steps)

-- ---- the step of a line

same_of_words : (one other : Description) (line : List ℕ) (words : List (List ℕ)) → FindsSame one other
    → step_of_words one line words ≡ step_of_words other line words
same_of_words one other line words same = search (rules, same_forms)

pub same_step : (one other : Description) (line : List ℕ) → FindsSame one other → step_of one line ≡ step_of other line
same_step one other line same = same_after (words_of_line line) _ _ (λ words. same_of_words one other line words same)

-- ---- a description of the same triggers and of devices of the same names

before_mapped : {A : Type 0} (f : A → List ℕ) (t : List ℕ → Bool) (xs : List A) → prefix_len t (map f xs) ≡ prefix_len (λ x. t (f x)) xs
before_mapped f t [] = refl
before_mapped f t (x ∷ xs) = ap (λ n. cond (t (f x)) (1 + n) 0) (before_mapped f t xs)

same_length : {A : Type 0} (f : A → List ℕ) (xs ys : List A) → map f xs ≡ map f ys → length xs ≡ length ys
same_length f xs ys same = sym (length-map xs f) ∙ ap length same ∙ length-map ys f

same_position : {A : Type 0} (f : A → List ℕ) (xs ys : List A) (name : List ℕ) → map f xs ≡ map f ys
    → position (λ x. bytes_eq (f x) name) xs ≡ position (λ x. bytes_eq (f x) name) ys
same_position f xs ys name same =
    let first : position_or_len (λ x. bytes_eq (f x) name) xs ≡ position_or_len (λ x. bytes_eq (f x) name) ys =
    sym (before_mapped f (λ n. not (bytes_eq n name)) xs) ∙ ap (prefix_len (λ n. not (bytes_eq n name))) same
    ∙ before_mapped f (λ n. not (bytes_eq n name)) ys in
    ap (λ (n : ℕ). cond (nat_lt n (length xs)) (Some n) None) first
    ∙ ap (λ (len : ℕ). cond (nat_lt (position_or_len (λ x. bytes_eq (f x) name) ys) len) (Some (position_or_len (λ x. bytes_eq (f x) name) ys)) None)
    (same_length f xs ys same)

-- .. of the names of heads
names_both : (xs ys : List DeviceHead)
    → map (λ (h : DeviceHead). h.name) (xs ++ ys) ≡ map (λ (h : DeviceHead). h.name) xs ++ map (λ (h : DeviceHead). h.name) ys
names_both [] ys = refl
names_both (x ∷ xs) ys = ap (λ (ns : List (List ℕ)). x.name ∷ ns) (names_both xs ys)

names_through : {A : Type 0} (head : A → DeviceHead) (xs : List A) → map (λ (h : DeviceHead). h.name) (map head xs) ≡ map (λ x. (head x).name) xs
names_through head [] = refl
names_through head (x ∷ xs) = ap (λ (ns : List (List ℕ)). (head x).name ∷ ns) (names_through head xs)

abbrev names_by_kind : Description → List (List ℕ)
names_by_kind desc =
    map (λ (d : DeviceRecord). d.name) desc.devices ++ (map (λ (d : OutputRecord). d.name) desc.outputs ++ map (λ (d : AverageRecord). d.name) desc.averages)

head_names : (desc : Description) → map (λ (h : DeviceHead). h.name) (heads_of desc) ≡ names_by_kind desc
head_names desc = simp (names_both, names_through)

same_names : (one other : Description) → map (λ (d : DeviceRecord). d.name) one.devices ≡ map (λ (d : DeviceRecord). d.name) other.devices
    → map (λ (d : OutputRecord). d.name) one.outputs ≡ map (λ (d : OutputRecord). d.name) other.outputs
    → map (λ (d : AverageRecord). d.name) one.averages ≡ map (λ (d : AverageRecord). d.name) other.averages
    → map (λ (h : DeviceHead). h.name) (heads_of one) ≡ map (λ (h : DeviceHead). h.name) (heads_of other)
same_names one other devices outputs averages = search (rules, head_names)

pub finds_same : (one other : Description) → one.triggers ≡ other.triggers
    → map (λ (d : DeviceRecord). d.name) one.devices ≡ map (λ (d : DeviceRecord). d.name) other.devices
    → map (λ (d : OutputRecord). d.name) one.outputs ≡ map (λ (d : OutputRecord). d.name) other.outputs
    → map (λ (d : AverageRecord). d.name) one.averages ≡ map (λ (d : AverageRecord). d.name) other.averages
    → FindsSame one other
finds_same one other triggers devices outputs averages = record {
  triggers = λ name. ap (λ ts. trigger_number ts name) triggers;
  devices = λ name. same_position (λ (h : DeviceHead). h.name) (heads_of one) (heads_of other) name (same_names one other devices outputs averages);
  trigger_count = ap length triggers;
  device_count = same_length (λ (h : DeviceHead). h.name) (heads_of one) (heads_of other) (same_names one other devices outputs averages);
}
