-- The bytes that a feed takes, as the scanner of items sees them.
use Rattle.std.proofs.Common.{◌≡◌, ℕ, zero, suc, ◌+◌, ◌-◌, ◌<◌, ◌≤◌, ◌==◌, Bool, true, false, List, [], ◌∷◌, ◌++◌, length, take, reverse, not, Option, Some, None, refl, sym, ap, subst, ◌∙◌, inl, inr, arith, length-append, append_assoc, append-nil}
use Rattle.std.specs.List.{position_or_len}
use Rattle.std.proofs.lemmas.Bool.{cases_Bool, cases_lt, lt-ltb, le-ltb, ne_eqb, eq-eqb}
use Rattle.std.proofs.lemmas.List.{length-take, reverse-reverse}
use Rattle.std.proofs.lemmas.List.Sums.{prefix_len-le-length}
use Rattle.iio_text.specs.Words.{words_of, is_blank}
use Rattle.std.specs.Bool.{if◌then◌else◌}
use Rattle.iiod_grammar.specs.declared.lines.Ready.{Ready}
use Rattle.iiod_grammar.specs.declared.lines.Ready.TheVariants.{TooLong}
use Rattle.iio_text.specs.declared.errors.Errno.TheVariants.{E2BIG}
use Rattle.iiod_grammar.specs.Command.{drop_returns, without_returns, command_of_words}
use Rattle.iiod_grammar.specs.Lines.{is_lf, cut, Cut, NotYet, WholeLine, WholePayload, Overlong, LinesRecord, Fed, feed_of, feed_of_cut, is_begun}
use Rattle.iiod_grammar.specs.Stream.{Pending, with_payload, Scanner, InLine, InPayload, AtEnd, Scanned, no_item, one_item, ended_by, payload_after, after_line, after_said, after_byte}
use Rattle.iiod_grammar.specs.Scans.{scan_on, ScansBy, Scans, EndsPiece}
use Rattle.iiod_grammar.proofs.CutLemmas.{payload_begun, payload_whole, line_overlong, line_not_yet, line_whole, line_begun}

further_nil : (x : Scanned) → scan_on x [] ≡ x
further_nil x = ap (λ items. record x { items = items }) (append-nil x.items)

abbrev scan : Scanner → List ℕ → Scanned
scan s bytes = scan_on (no_item s) bytes

-- ---- lines

-- a byte that isn't LF
step : (begun : List ℕ) (b : ℕ) → (b == 10) ≡ false → length begun < 1024 → after_byte (InLine begun) b ≡ no_item (InLine (begun ++ b ∷ []))
step begun b other few = rw (other, lt-ltb (length begun) 1024 few) refl

-- the first byte is the LF, or it isn't and the LF stands among the others
ends_here : (b : ℕ) (bs : List ℕ) → zero ≡ position_or_len is_lf (b ∷ bs) → (b == 10) ≡ true
ends_here b bs is = elim (cases_Bool (b == 10)) [ inl lf ↦ lf | inr other ↦ let more = rw other at is in absurd (omega (arith, more)) ]

ends_later : (b : ℕ) (bs : List ℕ) (n : ℕ) → suc n ≡ position_or_len is_lf (b ∷ bs) → ((b == 10) ≡ false) × (n ≡ position_or_len is_lf bs)
ends_later b bs n is = elim (cases_Bool (b == 10)) [
  | inl lf ↦ let none = rw lf at is in absurd (omega (arith, none))
  | inr other ↦ let more = rw other at is in (other, omega (arith, more))
]

-- a line with its LF
scan_whole : (bytes begun : List ℕ) (n : ℕ) → n ≡ position_or_len is_lf bytes → n < length bytes → length begun + n ≤ 1024
    → scan (InLine begun) (take (suc n) bytes) ≡ after_line (begun ++ take n bytes)
scan_whole [] begun n is some few = absurd (omega (arith, some))
scan_whole (b ∷ bs) begun zero is some few =
    let lf = ends_here b bs is in
    further_nil (after_byte (InLine begun) b) ∙ rw lf (ap after_line (sym (append-nil begun)))
scan_whole (b ∷ bs) begun (suc n) is some few =
    let later = ends_later b bs n is in
    ap (λ x. scan_on x (take (suc n) bs)) (step begun b later.0 (omega (arith, few)))
    ∙ scan_whole bs (begun ++ b ∷ []) n later.1 (omega (arith, some)) (omega (arith, few, length-append begun (b ∷ [])))
    ∙ ap after_line (append_assoc begun (b ∷ []) (take n bs))

-- a line that isn't ended
scan_more : (bytes begun : List ℕ) → length bytes ≡ position_or_len is_lf bytes → length begun + length bytes ≤ 1024
    → scan (InLine begun) bytes ≡ no_item (InLine (begun ++ bytes))
scan_more [] begun is few = ap (λ bs. no_item (InLine bs)) (sym (append-nil begun))
scan_more (b ∷ bs) begun is few =
    let later = ends_later b bs (length bs) is in
    ap (λ x. scan_on x bs) (step begun b later.0 (omega (arith, few)))
    ∙ scan_more bs (begun ++ b ∷ []) later.1 (omega (arith, few, length-append begun (b ∷ [])))
    ∙ ap (λ xs. no_item (InLine xs)) (append_assoc begun (b ∷ []) bs)

at_end : (bytes : List ℕ) → scan AtEnd bytes ≡ no_item AtEnd
at_end [] = refl
at_end (b ∷ bs) = at_end bs

-- a line that is too long
scan_overlong : (bytes begun : List ℕ) (n : ℕ) → n ≡ position_or_len is_lf bytes → length begun ≤ 1024 → 1024 < length begun + n
    → scan (InLine begun) bytes ≡ ended_by (Some E2BIG)
scan_overlong [] begun n is few over = absurd (omega (arith, is, few, over))
scan_overlong (b ∷ bs) begun zero is few over = absurd (omega (arith, few, over))
scan_overlong (b ∷ bs) begun (suc n) is few over =
    let later = ends_later b bs n is in
    elim (cases_lt (length begun) 1024) [
      | inl room ↦
          ap (λ x. scan_on x bs) (step begun b later.0 room)
          ∙ scan_overlong bs (begun ++ b ∷ []) n later.1 (omega (arith, room, length-append begun (b ∷ []))) (omega (arith, over, length-append begun (b ∷ [])))
      | inr full ↦
          let ended : after_byte (InLine begun) b ≡ ended_by (Some E2BIG) = rw (later.0, le-ltb (length begun) 1024 full) refl in
          ap (λ x. scan_on x bs) ended ∙ ap (λ (x : Scanned). record x { items = (ended_by (Some E2BIG)).items ++ x.items }) (at_end bs)
    ]

-- the CRs at the end of a line mean nothing for what it says
drop_returns_twice : (bs : List ℕ) → drop_returns (drop_returns bs) ≡ drop_returns bs
drop_returns_twice [] = refl
drop_returns_twice (b ∷ bs) = elim (cases_Bool (b == 13)) [ inl cr ↦ rw cr (drop_returns_twice bs) | inr other ↦ rw (other, other) refl ]

without_returns_twice : (line : List ℕ) → without_returns (without_returns line) ≡ without_returns line
without_returns_twice line = rw (reverse-reverse (drop_returns (reverse line))) (ap reverse (drop_returns_twice (reverse line)))

without_returns-after_line : (line : List ℕ) → after_line (without_returns line) ≡ after_line line
without_returns-after_line line = ap (λ l. after_said (command_of_words (words_of is_blank l))) (without_returns_twice line)

-- ---- payloads

scan_payload : (bytes begun : List ℕ) (pending : Pending) (count : ℕ) → length begun + length bytes ≤ count
    → scan_on (payload_after pending count begun) bytes ≡ payload_after pending count (begun ++ bytes)
scan_payload [] begun pending count few =
    further_nil (payload_after pending count begun) ∙ ap (payload_after pending count) (sym (append-nil begun))
scan_payload (b ∷ bs) begun pending count few =
    let part : (length begun == count) ≡ false = ne_eqb (length begun) count (λ e. omega (arith, e, few)) in
    let here : payload_after pending count begun ≡ no_item (InPayload pending count begun) = rw part refl in
    ap (λ x. scan_on x (b ∷ bs)) here
    ∙ scan_payload bs (begun ++ b ∷ []) pending count (omega (arith, few, length-append begun (b ∷ [])))
    ∙ ap (payload_after pending count) (append_assoc begun (b ∷ []) bs)

-- ---- feeding

abbrev FeedScans : Pending → LinesRecord → List ℕ → Fed → Type 0
FeedScans pending x bytes f = ScansBy pending x bytes f.taken f.ready f.lines

fed_line : (pending : Pending) (begun piece bytes : List ℕ) → is_begun None begun ≡ true
    → let x : LinesRecord = record { begun = begun; wanted = None; piece = piece; overlong = false } in FeedScans pending x bytes (feed_of x bytes)
fed_line pending begun piece bytes h =
    let x : LinesRecord = record { begun = begun; wanted = None; piece = piece; overlong = false } in
    let P : Cut → Type 0 = λ k. FeedScans pending x bytes (feed_of_cut x bytes k) in
    let n = position_or_len is_lf bytes in
    elim (cases_lt 1024 (length begun + n)) [
      | inl over ↦ subst P (sym (line_overlong begun bytes h over)) (λ going. scan_overlong bytes begun n refl (line_begun begun h) over)
      | inr few ↦ elim (cases_lt n (length bytes)) [
        | inl some ↦
            let taken : length begun + (n + 1) - length begun ≡ suc n = omega arith in
            subst P (sym (line_whole begun bytes n h refl few some))
            (ap (λ k. scan (InLine begun) (take k bytes)) taken ∙ scan_whole bytes begun n refl some few
            ∙ sym (without_returns-after_line (begun ++ take n bytes)))
        | inr none ↦
            let all : length bytes ≡ n = omega (arith, none, prefix_len-le-length (λ b. not (is_lf b)) bytes) in
            let within : length begun + length bytes ≤ 1024 = omega (arith, all, few) in
            subst P (sym (line_not_yet begun bytes h within (sym all)).0) (scan_more bytes begun all within)
      ]
    ]

fed_payload : (pending : Pending) (begun piece bytes : List ℕ) (count : ℕ) → is_begun (Some count) begun ≡ true
    → let x : LinesRecord = record { begun = begun; wanted = Some count; piece = piece; overlong = false } in FeedScans pending x bytes (feed_of x bytes)
fed_payload pending begun piece bytes count h =
    let x : LinesRecord = record { begun = begun; wanted = Some count; piece = piece; overlong = false } in
    let P : Cut → Type 0 = λ k. FeedScans pending x bytes (feed_of_cut x bytes k) in
    let within = payload_begun count begun h in
    let m = count - length begun in
    elim (cases_lt (length (begun ++ bytes)) count) [
      | inl few ↦
          let part : cut (Some count) (begun ++ bytes) ≡ NotYet = rw (lt-ltb (length (begun ++ bytes)) count few) refl in
          subst P (sym part) (scan_payload bytes begun pending count (omega (arith, few, length-append begun bytes)))
      | inr enough ↦
          let room : m ≤ length bytes = omega (arith, enough, length-append begun bytes) in
          let size : length (begun ++ take m bytes) ≡ count = omega (arith, within, room, length-append begun (take m bytes), length-take m bytes) in
          let taken : length (begun ++ take m bytes) - length begun ≡ m = omega (arith, size) in
          let whole : payload_after pending count (begun ++ take m bytes) ≡ one_item (with_payload pending (begun ++ take m bytes)) =
          rw (eq-eqb (length (begun ++ take m bytes)) count size) refl in
          subst P (sym (payload_whole count begun bytes h room))
          (ap (λ k. scan_on (payload_after pending count begun) (take k bytes)) taken
          ∙ scan_payload (take m bytes) begun pending count (omega (arith, within, room, length-take m bytes)) ∙ whole)
    ]

fed_scans : (pending : Pending) (begun : List ℕ) (wanted : Option ℕ) (piece bytes : List ℕ) (over : Bool) → is_begun wanted begun ≡ true
    → let x : LinesRecord = record { begun = begun; wanted = wanted; piece = piece; overlong = over } in FeedScans pending x bytes (feed_of x bytes)
fed_scans pending begun wanted piece bytes true h = λ going. absurd cc
fed_scans pending begun None piece bytes false h = fed_line pending begun piece bytes h
fed_scans pending begun (Some count) piece bytes false h = fed_payload pending begun piece bytes count h

-- a feed, by what it answers
pub feed_scans : (x : LinesRecord) (bytes : List ℕ) (taken : ℕ) (ready : Ready) (new : LinesRecord) → is_begun x.wanted x.begun ≡ true
    → taken ≡ (feed_of x bytes).taken → ready ≡ (feed_of x bytes).ready → new ≡ (feed_of x bytes).lines → Scans x bytes taken ready new
feed_scans x bytes taken ready new h t r n = λ pending.
    rw (t, r, n) (fed_scans pending x.begun x.wanted x.piece bytes x.overlong h)

ends_piece : (x : LinesRecord) (bytes : List ℕ) (k : Cut) → EndsPiece (feed_of_cut x bytes k).ready (feed_of_cut x bytes k).lines
ends_piece x bytes NotYet = tt
ends_piece x bytes (WholeLine line size) = refl
ends_piece x bytes (WholePayload payload) = refl
ends_piece x bytes Overlong = tt

fed_ends : (x : LinesRecord) (bytes : List ℕ) (over : Bool) → let f : Fed =
    if over then record { taken = 0; ready = TooLong; lines = x } else feed_of_cut x bytes (cut x.wanted (x.begun ++ bytes)) in EndsPiece f.ready f.lines
fed_ends x bytes true = tt
fed_ends x bytes false = ends_piece x bytes (cut x.wanted (x.begun ++ bytes))

pub feed_ends : (x : LinesRecord) (bytes : List ℕ) (ready : Ready) (new : LinesRecord) → ready ≡ (feed_of x bytes).ready → new ≡ (feed_of x bytes).lines
    → EndsPiece ready new
feed_ends x bytes ready new r n = rw (r, n) (fed_ends x bytes x.overlong)
