-- What the reading of a row's numbers gives.
use Rattle.std.proofs.Common.{◌≡◌, ℕ, suc, ◌+◌, ◌-◌, ◌*◌, ◌<◌, true, ℤ, inl, inr, subst, get_or, option_map, add-one, length-append, ◌<ℤ◌, List, [], ◌∷◌, ◌++◌, length, Option, Some, None, Ok, Err, refl, sym, ap, ◌∙◌, arith, ◌==◌, eq-eqb, eqb-true}
use Rattle.std.proofs.Math.Nat.{suc-mul}
use Rattle.std.proofs.Math.Seq.{get_or-append_seam}
use Rattle.std.proofs.lemmas.Bool.{cases_lt, ne_eqb}
use Rattle.std.proofs.lemmas.Int.{ints}
use Rattle.std.proofs.lemmas.List.{get_or_append_left}
use Rattle.std.proofs.lemmas.Option.{slice_get-get_or}
use Rattle.std.specs.Int.Signed.{lt_z}
use Rattle.std.specs.Option.{ok_or}
use Rattle.std.specs.Prelude.{Bool, false, drop, Result}
use Rattle.std.proofs.Math.Seq.{drop-append_seam}
use Rattle.iio_base.specs.Refusals.{ensure, ◌>>=◌, ◌>>◌}
use Rattle.iio_text.specs.declared.refusals.Why.{Why}
use Rattle.iio_text.specs.declared.refusals.Why.TheVariants.{Count, Number, Moment}
use Rattle.iio_text.specs.Numbers.{int_of}
use Rattle.iio_layout.specs.Rows.{Rises}
use Rattle.iio_desc.specs.DeviceLines.{before, counted_row, ints_of, rises, row_of}

-- numbers that were read after others are a list of them
appended : (old new : List ℤ) (o : Option (List ℤ)) → option_map (λ (vs : List ℤ). old ++ vs) o ≡ Some new → (vs : List ℤ) × (o ≡ Some vs) × (new ≡ old ++ vs)
appended old new None h = cc
appended old new (Some vs) h = let same : old ++ vs ≡ new = cc in (vs, refl, sym same)

-- a moment above the last one is above all
above_last : (moments : List ℤ) (m : ℤ) → Rises moments → rises moments m ≡ true → (i : ℕ) (d : ℤ) → i < length moments → get_or moments i d <ℤ m
above_last moments m risen above i d within =
    let last : ℕ = length moments - 1 in
    let here : last < length moments = omega arith in
    let test : lt_z (get_or moments last d) m ≡ true = rw (slice_get-get_or moments last d here, rises) at above in
    let top : get_or moments last d <ℤ m = grind (arith, ints) in
    elim (cases_lt i last) [
      | inl below ↦ let under = risen i last d below here in omega (arith, ints)
      | inr over ↦ let same : i ≡ last = omega arith in subst (λ (k : ℕ). get_or moments k d <ℤ m) (sym same) top
    ]

-- moments rise with another one above the last
pub rises_push : (moments : List ℤ) (m : ℤ) → Rises moments → rises moments m ≡ true → Rises (moments ++ m ∷ [])
rises_push moments m risen above i j d order within =
    let size = length-append moments (m ∷ []) in
    let before : i < length moments = omega (arith, size) in
    elim (cases_lt j (length moments)) [
      | inl below ↦ rw (get_or_append_left moments (m ∷ []) d i before, get_or_append_left moments (m ∷ []) d j below) (risen i j d order below)
      | inr over ↦ let same : j ≡ length moments = omega (arith, size) in
          rw (same, get_or-append_seam moments m [] d, get_or_append_left moments (m ∷ []) d i before) (above_last moments m risen above i d before)
    ]

-- with another row there are a row's numbers more
pub whole_push : (values vs : List ℤ) (moments : List ℤ) (m : ℤ) (width : ℕ) → length values ≡ length moments * width → length vs ≡ width
    → length (values ++ vs) ≡ length (moments ++ m ∷ []) * width
whole_push values vs moments m width whole row =
    length-append values vs ∙ sym
    (ap (λ n. n * width) (length-append moments (m ∷ []) ∙ add-one (length moments)) ∙ suc-mul (length moments) width ∙ omega (arith, whole, row))

-- there are as many integers as words
more_ints : (v : Option ℤ) (rest : Option (List ℤ)) (vs : List ℤ) → before v rest ≡ Some vs
    → (x : ℤ) × (xs : List ℤ) × (rest ≡ Some xs) × (vs ≡ x ∷ xs)
more_ints None rest vs h = cc
more_ints (Some x) None vs h = cc
more_ints (Some x) (Some xs) vs h = let same : x ∷ xs ≡ vs = cc in (x, xs, refl, sym same)

length_read : (words : List (List ℕ)) (vs : List ℤ) → ints_of words ≡ Some vs → length vs ≡ length words
length_read [] vs h = let same : [] ≡ vs = cc in ap length (sym same)
length_read (w ∷ ws) vs h =
    let more = more_ints (int_of w) (ints_of ws) vs h in
    ap length more.3 ∙ ap suc (length_read ws more.1 more.2)

-- as many numbers as words are appended to the others
pub length-ints_of : (words : List (List ℕ)) (old new : List ℤ) → option_map (λ (vs : List ℤ). old ++ vs) (ints_of words) ≡ Some new
    → (vs : List ℤ) × (length vs ≡ length words) × (new ≡ old ++ vs)
length-ints_of words old new h =
    let read = appended old new (ints_of words) h in
    (read.0, length_read words read.0 read.1, read.2)

-- what follows the words of a row's values
abbrev with_values : ℤ → Option (List ℤ) → Result (ℤ × List ℤ) Why
with_values moment o = do
  values ← ok_or o Number
  Ok (moment, values)

abbrev with_moment : List ℤ → Option (List ℤ) → ℤ → Result (ℤ × List ℤ) Why
with_moment moments o moment = do
  ensure (rises moments moment) Moment
  with_values moment o

row_of-values : (moments : List ℤ) (words : List (List ℕ)) (t : List ℕ) (ts : List (List ℕ)) (m : ℤ) (vs : List ℤ) → words ≡ t ∷ ts → int_of t ≡ Some m
    → rises moments m ≡ true → ints_of ts ≡ Some vs → row_of moments words ≡ Ok (m, vs)
row_of-values moments words t ts m vs parted told risen read = rw (parted, told, risen, read) refl

-- a row whose parts were read
pub row_of-read : (moments : List ℤ) (words : List (List ℕ)) (t : List ℕ) (ts : List (List ℕ)) (m : ℤ) (old new : List ℤ) → words ≡ t ∷ ts → int_of t ≡ Some m
    → rises moments m ≡ true → option_map (λ (vs : List ℤ). old ++ vs) (ints_of ts) ≡ Some new → row_of moments words ≡ Ok (m, drop (length old) new)
row_of-read moments words t ts m old new parted told risen read =
    let vs = appended old new (ints_of ts) read in
    let rest : drop (length old) new ≡ vs.0 = ap (drop (length old)) vs.2 ∙ drop-append_seam old vs.0 in
    rw rest (row_of-values moments words t ts m vs.0 parted told risen vs.1)

-- such a row rises, and has a word for its moment and one for each value
pub record ReadsRow (moments : List ℤ) (words : List (List ℕ)) (m : ℤ) (vs : List ℤ) : Type 0 where
  pub risen : rises moments m ≡ true
  pub size : length words ≡ length vs + 1

row_pair : (n m : ℤ) (ws vs : List ℤ) → (let r : Result (ℤ × List ℤ) Why = Ok (n, ws) in r) ≡ Ok (m, vs) → (n ≡ m) × (ws ≡ vs)
row_pair n m ws vs e = let got = ap moment_values e in (ap (λ (p : ℤ × List ℤ). p.0) got, ap (λ (p : ℤ × List ℤ). p.1) got)
  where
    moment_values : Result (ℤ × List ℤ) Why → ℤ × List ℤ
    moment_values (Ok row) = row
    moment_values (Err why) = (n, ws)

by_values : (moments : List ℤ) (t : List ℕ) (ts : List (List ℕ)) (m : ℤ) (vs : List ℤ) (n : ℤ) (o : Option (List ℤ)) → ints_of ts ≡ o → rises moments n ≡ true
    → with_values n o ≡ Ok (m, vs) → ReadsRow moments (t ∷ ts) m vs
by_values moments t ts m vs n None read risen e = cc
by_values moments t ts m vs n (Some ws) read risen e =
    let both = row_pair n m ws vs e in
    let moment : n ≡ m = both.0 in
    let values : ws ≡ vs = both.1 in
    record {
      risen = subst (λ (k : ℤ). rises moments k ≡ true) moment risen;
      size = ap suc (sym (length_read ts vs (read ∙ ap (λ (xs : List ℤ). Some xs) values))) ∙ sym (add-one (length vs));
    }

by_risen : (moments : List ℤ) (t : List ℕ) (ts : List (List ℕ)) (m : ℤ) (vs : List ℤ) (n : ℤ) (b : Bool) → rises moments n ≡ b
    → with_moment moments (ints_of ts) n ≡ Ok (m, vs) → ReadsRow moments (t ∷ ts) m vs
by_risen moments t ts m vs n true is e = by_values moments t ts m vs n (ints_of ts) refl is (rw is at e)
by_risen moments t ts m vs n false is e = let wrong : Err Moment ≡ Ok (m, vs) = rw is at e in cc

by_moment : (moments : List ℤ) (t : List ℕ) (ts : List (List ℕ)) (m : ℤ) (vs : List ℤ) (o : Option ℤ)
    → ok_or o Number >>= (λ n. with_moment moments (ints_of ts) n) ≡ Ok (m, vs) → ReadsRow moments (t ∷ ts) m vs
by_moment moments t ts m vs None e = cc
by_moment moments t ts m vs (Some n) e = by_risen moments t ts m vs n (rises moments n) refl e

pub reads_row : (moments : List ℤ) (words : List (List ℕ)) (m : ℤ) (vs : List ℤ) → row_of moments words ≡ Ok (m, vs) → ReadsRow moments words m vs
reads_row moments [] m vs h = cc
reads_row moments (t ∷ ts) m vs h = by_moment moments t ts m vs (int_of t) h

-- a row with the required number of values, or with another number
pub counted_row-right : (width : ℕ) (moments : List ℤ) (words : List (List ℕ)) → length words ≡ width + 1
    → counted_row width moments words ≡ row_of moments words
counted_row-right width moments words h = rw (eq-eqb _ _ h) refl

pub counted_row-wrong : (width : ℕ) (moments : List ℤ) (words : List (List ℕ)) → ¬ (length words ≡ width + 1) → counted_row width moments words ≡ Err Count
counted_row-wrong width moments words h = rw (ne_eqb _ _ h) refl

-- a row that was read with that many values
pub record ReadsCounted (width : ℕ) (moments : List ℤ) (m : ℤ) (vs : List ℤ) : Type 0 where
  pub risen : rises moments m ≡ true
  pub size : length vs ≡ width

by_count : (width : ℕ) (moments : List ℤ) (words : List (List ℕ)) (m : ℤ) (vs : List ℤ) (b : Bool) → (length words == width + 1) ≡ b
    → counted_row width moments words ≡ Ok (m, vs) → ReadsCounted width moments m vs
by_count width moments words m vs true is e =
    let row = reads_row moments words m vs (rw is at e) in
    record { risen = row.risen; size = omega (arith, row.size, eqb-true _ _ is) }
by_count width moments words m vs false is e = let wrong : Err Count ≡ Ok (m, vs) = rw is at e in cc

pub reads_counted : (width : ℕ) (moments : List ℤ) (words : List (List ℕ)) (m : ℤ) (vs : List ℤ) → counted_row width moments words ≡ Ok (m, vs)
    → ReadsCounted width moments m vs
reads_counted width moments words m vs e = by_count width moments words m vs (length words == width + 1) refl e
