-- What a writer's bytes make of its scans.
use Rattle.std.proofs.Common.{◌≡◌, ℕ, ◌+◌, ◌-◌, ◌*◌, ◌/◌, ◌%◌, ◌≤◌, ◌==◌, ◌||◌, not, if◌then◌else◌, is_some, unwrap_or, nat_lt, min, Bool, true, false, List, [], ◌∷◌, ◌++◌, Option, None, length, take, drop, length-append, length-drop, sym, ap, ◌∙◌, arith, rules}
use Rattle.std.proofs.lemmas.Grind.{common_steps}
use Rattle.std.proofs.lemmas.Bool.Decides.{nat_tests}
use Rattle.std.proofs.lemmas.List.{length-take-le, take_all}
use Rattle.std.proofs.Math.Nat.{mul_comm, min-le_left, min-le_right}
use Rattle.iio_base.specs.Refusals.{first_refusal}
use Rattle.iio_output.specs.declared.writer.Wrote.{Wrote}
use Rattle.iio_output.specs.declared.writer.Wrote.TheVariants.{Bytes, BadSize, Standing, Full}
use Rattle.iio_output.specs.declared.writer.Next.TheVariants.{Given}
use Rattle.iio_output.specs.Out.{WriterRecord, accepted_of, after_next, after_write, next_answer, room_after, taken_by, write_answer, write_faults}
use Rattle.iio_output.specs.View.{AreWhole}
use Rattle.iio_output.specs.Written.{after_given, is_bad_size, is_full, is_standing, room_of, scans_of}
use Rattle.iio_output.proofs.Scans.{counts_of, first_scan, is_whole, length-scans_of, none_below, one_scan, scans_of-append, take-scans_of, turned, whole_is}

-- a writer with these bytes
abbrev pub writer_of : (mask size capacity : ℕ) → Bool → List ℕ → WriterRecord
writer_of mask size capacity cyclic bytes = record { mask = mask; size = size; capacity = capacity; cyclic = cyclic; scans = scans_of size bytes }

-- ---- refusals

-- a queue of bytes is full exactly if it holds as many scans as the capacity
pub full_is : (size capacity room : ℕ) (bytes : List ℕ) → AreWhole size capacity room bytes
    → (length bytes == room) ≡ not (nat_lt (length (scans_of size bytes)) capacity)
full_is size capacity room bytes whole = grind (arith, common_steps, length-scans_of, whole_is)

-- a payload with a scan is one that a full queue has no room for
pub full_for : (size capacity room : ℕ) (bytes payload : List ℕ) → AreWhole size capacity room bytes → size ≤ length payload
    → (length bytes == room) ≡ is_full false capacity (scans_of size bytes) (scans_of size payload)
full_for size capacity room bytes payload whole long = search (rules, full_is, none_below)

-- ---- writing

-- if the first refusal that applies is none, no refusal applies
pub none_applies : (a b c : Bool) (x y z : Wrote) → first_refusal ((a, x) ∷ (b, y) ∷ (c, z) ∷ []) ≡ None → (a ≡ false) × (b ≡ false) × (c ≡ false)
none_applies a b c x y z h = search rules

pub or_false : (a b : Bool) → (a || b) ≡ false → (a ≡ false) × (b ≡ false)
or_false a b h = search rules

-- the room that is left, in bytes
room_left : (size capacity room : ℕ) (bytes : List ℕ) → AreWhole size capacity room bytes
    → room - length bytes ≡ (capacity - length (scans_of size bytes)) * size
room_left size capacity room bytes whole = search (rules, whole_is, turned, length-scans_of)

-- the room that is left, in bytes, at a writer that doesn't refuse the payload
room_is : (size capacity room : ℕ) (cyclic : Bool) (bytes payload : List ℕ) → AreWhole size capacity room bytes
    → is_standing cyclic (scans_of size bytes) ≡ false
    → room - length bytes ≡ room_of cyclic capacity (scans_of size bytes) * size
room_is size capacity room cyclic bytes payload whole standing = grind (arith, common_steps, room_left)

-- a payload that isn't refused is written: what was taken of it, and the bytes afterwards
pub record Written (mask size capacity room : ℕ) (cyclic : Bool) (bytes payload : List ℕ) (taken : ℕ) : Type 0 where
  pub answer : Bytes taken ≡ write_answer (writer_of mask size capacity cyclic bytes) payload
  pub writer : writer_of mask size capacity cyclic (bytes ++ take taken payload) ≡ after_write (writer_of mask size capacity cyclic bytes) payload
  pub whole : AreWhole size capacity room (bytes ++ take taken payload)

pub written : (mask size capacity room : ℕ) (cyclic : Bool) (bytes payload : List ℕ) (taken : ℕ) → AreWhole size capacity room bytes
    → first_refusal (write_faults (writer_of mask size capacity cyclic bytes) payload) ≡ None → taken ≡ min (length payload) (room - length bytes)
    → Written mask size capacity room cyclic bytes payload taken
written mask size capacity room cyclic bytes payload taken whole unrefused is = record {
  answer = ap Bytes number ∙ sym (ap (λ (o : Option Wrote). unwrap_or o (Bytes (size * length (taken_by w payload)))) unrefused);
  writer = ap (λ (xs : List (List ℕ)). record w { scans = xs })
      (scans_of-append size bytes (take taken payload) whole.sized whole.whole part ∙ ap (λ (xs : List (List ℕ)). w.scans ++ xs) (sym accepted));
  whole = record {
    sized = whole.sized;
    some = whole.some;
    fits = whole.fits;
    roomy = whole.roomy;
    whole = is_whole size (length (bytes ++ take taken payload)) (length bytes / size + length (taken_by w payload))
        (omega (
          arith,
          length-append bytes (take taken payload),
          whole_is size (length bytes) whole.whole,
          here,
          number,
          mul_comm size
              (length (taken_by w payload)),
        ));
    within = omega (arith, length-append bytes (take taken payload), here, is, whole.within, min-le_right (length payload) (room - length bytes));
  };
}
  where
    w : WriterRecord
    w = writer_of mask size capacity cyclic bytes

    none : (is_bad_size cyclic capacity size (length payload) ≡ false) × (is_standing cyclic (scans_of size bytes) ≡ false)
        × (is_full cyclic capacity (scans_of size bytes) (scans_of size payload) ≡ false)
    none = none_applies _ _ _ BadSize Standing Full unrefused

    payload_whole : length payload % size ≡ 0
    payload_whole = let f = (or_false (not (length payload % size == 0)) _ none.0).0 in grind (arith, nat_tests)

    most : ℕ
    most = room_of cyclic capacity (scans_of size bytes)

    is' : taken ≡ min (length payload) (most * size)
    is' = is ∙ ap (λ n. min (length payload) n) (room_is size capacity room cyclic bytes payload whole none.1)

    scans : taken_by w payload ≡ scans_of size (take taken payload)
    scans = take-scans_of most size payload whole.sized payload_whole ∙ ap (λ n. scans_of size (take n payload)) (sym is')

    here : length (take taken payload) ≡ taken
    here = length-take-le taken payload (omega (arith, is, min-le_left (length payload) (room - length bytes)))

    count : ℕ
    count = min (length payload / size) most

    times : (a b k : ℕ) → min (a * k) (b * k) ≡ min a b * k
    times a b k = search rules

    counted : taken ≡ count * size
    counted = is' ∙ ap (λ n. min n (most * size)) (whole_is size (length payload) payload_whole) ∙ times (length payload / size) most size

    part : length (take taken payload) % size ≡ 0
    part = is_whole size (length (take taken payload)) count (here ∙ counted)

    number : taken ≡ size * length (taken_by w payload)
    number = counted ∙ mul_comm count size
        ∙ ap (λ n. size * n) (sym
        (ap length scans ∙ length-scans_of size (take taken payload) ∙ counts_of size (length (take taken payload)) count whole.sized (here ∙ counted)))

    accepted : accepted_of w payload ≡ scans_of size (take taken payload)
    accepted = ap (λ (o : Option Wrote). if is_some o then [] else taken_by w payload) unrefused ∙ scans

-- ---- giving

-- what a writer with bytes gives: the first scan, which is its first bytes; and the bytes that are left of a cyclic writer and
-- of another one
pub record Gave (mask size capacity room : ℕ) (bytes : List ℕ) : Type 0 where
  pub answer : Given ≡ next_answer (scans_of size bytes)
  pub scan : (out : List ℕ) → take size bytes ≡ room_after (scans_of size bytes) out
  pub once : writer_of mask size capacity false (drop size bytes) ≡ after_next (writer_of mask size capacity false bytes)
  pub again : writer_of mask size capacity true (drop size bytes ++ take size bytes) ≡ after_next (writer_of mask size capacity true bytes)
  pub whole : AreWhole size capacity room (drop size bytes)
  pub whole_again : AreWhole size capacity room (drop size bytes ++ take size bytes)
  pub read : (count : ℕ) (out : List ℕ) → length out ≡ size → count ≡ min (length out) (length bytes) → (count ≡ size)
      × (take count bytes ++ drop count out ≡ take size bytes)
  pub filled : (count : ℕ) → count ≡ min (length (take size bytes)) (room - length (drop size bytes)) → take count (take size bytes) ≡ take size bytes

pub gave : (mask size capacity room : ℕ) (bytes : List ℕ) → AreWhole size capacity room bytes → (length bytes == 0) ≡ false → Gave mask size capacity room bytes
gave mask size capacity room bytes whole any = record {
  answer = ap next_answer (sym first.0);
  scan = λ out. ap (λ (xs : List (List ℕ)). room_after xs out) (sym first.0);
  once = ap (λ (xs : List (List ℕ)). with_scans false (after_given false xs)) (sym first.0);
  again = ap (λ (xs : List (List ℕ)). with_scans true xs) behind ∙ ap (λ (xs : List (List ℕ)). with_scans true (after_given true xs)) (sym first.0);
  whole = grind (arith, common_steps);
  whole_again = record {
    sized = whole.sized;
    some = whole.some;
    fits = whole.fits;
    roomy = whole.roomy;
    whole = ap (λ n. n % size) (omega (arith, length-append (drop size bytes) (take size bytes), less, sized, first.1)) ∙ whole.whole;
    within = omega (arith, length-append (drop size bytes) (take size bytes), less, sized, first.1, whole.within);
  };
  read = grind (arith, common_steps);
  filled = λ count n. take_all count (take size bytes) (omega (arith, n, less, sized, first.1, whole.within));
}
  where
    first : (scans_of size bytes ≡ take size bytes ∷ scans_of size (drop size bytes)) × (size ≤ length bytes) × (length (drop size bytes) % size ≡ 0)
    first = first_scan size bytes whole.sized whole.whole any

    with_scans : Bool → List (List ℕ) → WriterRecord
    with_scans cyclic xs = record { mask = mask; size = size; capacity = capacity; cyclic = cyclic; scans = xs }

    less : length (drop size bytes) ≡ length bytes - size
    less = length-drop size bytes

    sized : length (take size bytes) ≡ size
    sized = length-take-le size bytes first.1

    behind : scans_of size (drop size bytes ++ take size bytes) ≡ scans_of size (drop size bytes) ++ take size bytes ∷ []
    behind = scans_of-append size (drop size bytes) (take size bytes) whole.sized first.2 (is_whole size (length (take size bytes)) 1 (omega (arith, sized)))
        ∙ ap (λ (xs : List (List ℕ)). scans_of size (drop size bytes) ++ xs) (one_scan size (take size bytes) whole.sized sized)
