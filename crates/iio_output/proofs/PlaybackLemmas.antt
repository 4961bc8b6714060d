-- What a writer has waiting, and its count of underruns, follow the list of what was written and how many scans were given.
use Rattle.std.proofs.Common.{◌≡◌, ℕ, zero, suc, ◌+◌, ◌-◌, ◌^◌, ◌<◌, ◌≤◌, ◌==◌, ◌%◌, min, Bool, true, false, List, [], ◌∷◌, ◌++◌, take, drop, length, Option, Some, None, IfSome, slice_get, refl, sym, ap, ◌∙◌, arith, rules}
use Rattle.std.proofs.lemmas.Grind.{common_steps}
use Rattle.std.proofs.lemmas.List.{append-nil, length-append, length-drop, length-take-le}
use Rattle.std.proofs.Math.Seq.{drop-length, take-length}
use Rattle.std.proofs.Math.Nat.{suc-mod, mod-eq_of_lt, mod_self}
use Rattle.std.proofs.lemmas.Bool.Decides.{nat_tests}
use Rattle.std.proofs.lemmas.Nat.{mod_below}
use Rattle.iio_output.specs.declared.writer.Next.{Next}
use Rattle.iio_output.specs.Out.{OutRecord, WriterRecord, after_giving, after_write, next_answer, room_after, underruns_with, with_given}
use Rattle.iio_output.specs.Written.{after_given, taken_of, underruns_after}
use Rattle.iio_output.specs.Playback.{GivesAt, IsPlaying, IsWritten, Plays, after_payload, Outgoing, after_entry, given_at, scans_to_give, taken_at, waiting_of}
use Rattle.iio_output.proofs.Scans.{length-scans_of}
use Rattle.iio_output.proofs.WriterLemmas.{none_applies, or_false}

-- the scans that wait, and the count of underruns
pub record Queue : Type 0 where
  pub scans : List (List ℕ)
  pub lost : ℕ

-- ---- lists

dropped : (xs : List (List ℕ)) (i : ℕ) (x : List ℕ) (rest : List (List ℕ)) → drop i xs ≡ x ∷ rest → (slice_get xs i ≡ Some x) × (drop (suc i) xs ≡ rest)
    × (take (suc i) xs ≡ take i xs ++ x ∷ [])
dropped [] i x rest h = grind (arith, common_steps)
dropped (y ∷ xs) zero x rest h = let e : y ≡ x = cc in let f : xs ≡ rest = cc in (ap Some e, f, ap (λ (z : List ℕ). z ∷ []) e)
dropped (y ∷ xs) (suc i) x rest h = let p = dropped xs i x rest h in (p.0, p.1, ap (λ (zs : List (List ℕ)). y ∷ zs) p.2)

dropped_none : (xs : List (List ℕ)) (i : ℕ) → drop i xs ≡ [] → slice_get xs i ≡ None
dropped_none [] i h = refl
dropped_none (x ∷ xs) zero h = cc
dropped_none (x ∷ xs) (suc i) h = dropped_none xs i h

some_dropped : (xs : List (List ℕ)) (i : ℕ) (x : List ℕ) (rest : List (List ℕ)) → drop i xs ≡ x ∷ rest → i < length xs
some_dropped xs i x rest h = let n : length xs - i ≡ suc (length rest) = sym (length-drop i xs) ∙ ap length h in omega (arith, n)

-- ---- what waits

abbrev turned : ℕ → List (List ℕ) → List (List ℕ)
turned i xs = drop i xs ++ take i xs

abbrev most : ℕ
most = 2 ^ 64 - 1

abbrev pub queue_by : Bool → Outgoing → Queue
queue_by cyclic w = record { scans = scans_to_give cyclic w; lost = min w.underruns most }

abbrev pub Goes : Bool → Queue → Outgoing → Type 0
Goes cyclic q w = (q ≡ queue_by cyclic w) × IsWritten cyclic w

abbrev pub wrote : Bool → ℕ → List (List ℕ) → Queue → Queue
wrote cyclic capacity scans q = record q { scans = q.scans ++ taken_of cyclic capacity q.scans scans }

pub wrote_goes : (cyclic : Bool) (capacity : ℕ) (scans : List (List ℕ)) (w : Outgoing) → (cyclic ≡ true → length scans ≤ capacity) → IsWritten cyclic w
    → Goes cyclic (wrote cyclic capacity scans (queue_by cyclic w)) (record w { written = w.written ++ taken_at cyclic capacity w scans })
wrote_goes cyclic capacity scans w whole fine = grind (arith, common_steps)

-- ---- one is given

abbrev pub gave : Bool → List (List ℕ) → ℕ → Queue
gave cyclic xs n = record { scans = after_given cyclic xs; lost = underruns_after xs n }

counted : (n top : ℕ) → min (min n top + 1) top ≡ min (n + 1) top
counted n top = search rules

gave_false : (w : Outgoing) (ws : List (List ℕ)) → drop w.given w.written ≡ ws → IsWritten false w
    → Goes false (gave false ws (min w.underruns most)) (after_entry (slice_get w.written w.given) w)
gave_false w ws is fine = grind (arith, common_steps, dropped_none, counted, dropped, some_dropped)

-- the next place of a circle
next_place : (g n i : ℕ) → g % n ≡ i → i < n → suc i < n → suc g % n ≡ suc i
next_place g n i is less more = suc-mod g n ∙ ap (λ (k : ℕ). suc k % n) is ∙ mod-eq_of_lt more

last_place : (g n i : ℕ) → g % n ≡ i → suc i ≡ n → suc g % n ≡ 0
last_place g n i is end = suc-mod g n ∙ ap (λ (k : ℕ). suc k % n) is ∙ ap (λ (k : ℕ). k % n) end ∙ mod_self n

-- a cycle turned by another scan
turn : (xs : List (List ℕ)) (g i : ℕ) (x : List ℕ) (rest : List (List ℕ)) → g % length xs ≡ i → i < length xs → drop i xs ≡ x ∷ rest
    → (rest ++ take i xs) ++ x ∷ [] ≡ turned (suc g % length xs) xs
turn xs g i x rest is less here =
    let got = dropped xs i x rest here in
    let one : (rest ++ take i xs) ++ x ∷ [] ≡ turned (suc i) xs = grind (arith, common_steps) in
    one ∙ by_end (suc i == length xs) refl
  where
    by_end : (b : Bool) → (suc i == length xs) ≡ b → turned (suc i) xs ≡ turned (suc g % length xs) xs
    by_end true end =
        let e : suc i ≡ length xs = grind (arith, nat_tests) in
        ap (λ (n : ℕ). turned n xs) e ∙ ap (λ (ys : List (List ℕ)). ys ++ take (length xs) xs) (drop-length xs) ∙ take-length xs
        ∙ sym (append-nil xs) ∙ ap (λ (n : ℕ). turned n xs) (sym (last_place g (length xs) i is e))
    by_end false going = search (rules, next_place)

gave_true : (xs : List (List ℕ)) (g u : ℕ) → (xs ≡ [] → g ≡ 0)
    → Goes true (gave true (turned (g % length xs) xs) (min u most))
    (after_entry (slice_get xs (g % length xs)) (record { written = xs; given = g; underruns = u }))
gave_true [] g u none = search rules
gave_true (y ∷ ys) g u none = by_first (drop (g % suc (length ys)) (y ∷ ys)) refl
  where
    less : g % suc (length ys) < suc (length ys)
    less = mod_below g (suc (length ys)) (omega arith)

    some_not : y ∷ ys ≡ [] → ⊥
    some_not e = cc

    by_first : (ds : List (List ℕ)) → drop (g % suc (length ys)) (y ∷ ys) ≡ ds
        → Goes true (gave true (drop (g % suc (length ys)) (y ∷ ys) ++ take (g % suc (length ys)) (y ∷ ys)) (min u most))
        (after_entry (slice_get (y ∷ ys) (g % suc (length ys))) (record { written = y ∷ ys; given = g; underruns = u }))
    by_first [] is =
        let n : length (y ∷ ys) - g % suc (length ys) ≡ 0 = sym (length-drop (g % suc (length ys)) (y ∷ ys)) ∙ ap length is in absurd (omega (arith, n, less))
    by_first (x ∷ ds) is = search (rules, dropped, turn)

pub gave_goes : (cyclic : Bool) (w : Outgoing) → IsWritten cyclic w
    → Goes cyclic (gave cyclic (scans_to_give cyclic w) (min w.underruns most)) (after_entry (given_at cyclic w) w)
gave_goes true w fine = gave_true w.written w.given w.underruns fine
gave_goes false w fine = gave_false w (drop w.given w.written) refl fine

-- ---- what the queue shows

pub first_given : (cyclic : Bool) (w : Outgoing) → (slice_get (scans_to_give cyclic w) 0 ≡ given_at cyclic w)
    × (length (scans_to_give cyclic w) ≡ waiting_of cyclic w)
first_given false w = (by_first (drop w.given w.written) refl, length-drop w.given w.written)
  where
    by_first : (ds : List (List ℕ)) → drop w.given w.written ≡ ds → slice_get (drop w.given w.written) 0 ≡ slice_get w.written w.given
    by_first [] is = ap (λ (zs : List (List ℕ)). slice_get zs 0) is ∙ sym (dropped_none w.written w.given is)
    by_first (x ∷ ds) is = ap (λ (zs : List (List ℕ)). slice_get zs 0) is ∙ sym (dropped w.written w.given x ds is).0
first_given true w = by_scans w.written
  where
    by_scans : (xs : List (List ℕ)) → (slice_get (turned (w.given % length xs) xs) 0 ≡ slice_get xs (w.given % length xs))
        × (length (turned (w.given % length xs) xs) ≡ length xs)
    by_scans [] = grind (arith, common_steps)
    by_scans (y ∷ ys) =
        let i : ℕ = w.given % suc (length ys) in
        let less : i < suc (length ys) = mod_below w.given (suc (length ys)) (omega arith) in
        let a : length (take i (y ∷ ys)) ≡ i = length-take-le i (y ∷ ys) (omega (arith, less)) in
        let b : length (drop i (y ∷ ys)) ≡ suc (length ys) - i = length-drop i (y ∷ ys) in
        let c : length (turned i (y ∷ ys)) ≡ length (drop i (y ∷ ys)) + length (take i (y ∷ ys)) = length-append (drop i (y ∷ ys)) (take i (y ∷ ys)) in
        (by_first i less (drop i (y ∷ ys)) refl, omega (arith, a, b, c, less))
      where
        by_first : (i : ℕ) → i < suc (length ys) → (ds : List (List ℕ)) → drop i (y ∷ ys) ≡ ds
            → slice_get (drop i (y ∷ ys) ++ take i (y ∷ ys)) 0 ≡ slice_get (y ∷ ys) i
        by_first i less [] is = let n : length (y ∷ ys) - i ≡ 0 = sym (length-drop i (y ∷ ys)) ∙ ap length is in absurd (omega (arith, n, less))
        by_first i less (x ∷ ds) is = ap (λ (zs : List (List ℕ)). slice_get (zs ++ take i (y ∷ ys)) 0) is ∙ sym (dropped (y ∷ ys) i x ds is).0

-- ---- a writer that plays

-- the writer of a device with the membership x takes of a payload what that membership says
pub plays_written : (w : WriterRecord) (underruns : ℕ) (bytes : List ℕ) (x : Outgoing) → IsPlaying w underruns x
    → IsPlaying (after_write w bytes) underruns (after_payload (Some w) bytes x)
plays_written w underruns bytes x plays = grind (arith, common_steps, none_applies, or_false, length-scans_of, counted, wrote_goes)

-- what is given is the first scan, if there is one
gives_first : (xs : List (List ℕ)) (o : Option (List ℕ)) (room : List ℕ) → slice_get xs 0 ≡ o → GivesAt o (next_answer xs) room (room_after xs room)
gives_first xs o room is = search rules

-- an entry gives what the membership says
pub plays_given : (w : WriterRecord) (o : OutRecord) (room : List ℕ) (x : Outgoing) → IsPlaying w o.underruns x
    → GivesAt (given_at w.cyclic x) (next_answer w.scans) room (room_after w.scans room) × Plays (after_entry (given_at w.cyclic x) x) (with_given w o)
plays_given w o room x plays = search (rules, gave_goes, first_given, gives_first, counted)

-- the same for the device: it is given what waits, and then the entry is counted
pub plays_next : (o mid after : OutRecord) (answer : Next) (room room' : List ℕ) → IfSome o.writer (λ w. answer ≡ next_answer w.scans)
    → IfSome o.writer (λ w. room' ≡ room_after w.scans room) → IfSome o.writer (λ w. mid ≡ after_giving w o)
    → after ≡ record mid { underruns = underruns_with answer mid.underruns }
    → (x : Outgoing) → Plays x o → IfSome o.writer (λ w. GivesAt (given_at w.cyclic x) answer room room' × Plays (after_entry (given_at w.cyclic x) x) after)
plays_next o mid after answer room room' = by o.writer refl
  where
    both : (xs : List (List ℕ)) (n : ℕ) → underruns_with (next_answer xs) n ≡ underruns_after xs n
    both xs n = search rules

    by : (writer : Option WriterRecord) → o.writer ≡ writer → IfSome writer (λ w. answer ≡ next_answer w.scans)
        → IfSome writer (λ w. room' ≡ room_after w.scans room) → IfSome writer (λ w. mid ≡ after_giving w o)
        → after ≡ record mid { underruns = underruns_with answer mid.underruns }
        → (x : Outgoing) → IfSome writer (λ w. IsPlaying w o.underruns x)
        → IfSome writer (λ w. GivesAt (given_at w.cyclic x) answer room room' × Plays (after_entry (given_at w.cyclic x) x) after)
    by None is answered moved given counted x plays = tt
    by (Some w) is answered moved given counted x plays =
        let it = plays_given w o room x plays in
        let whole : after ≡ with_given w o = search rules in
        rw (answered, moved, whole) it
