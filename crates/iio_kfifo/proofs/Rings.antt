-- What another scan and the taking of some scans make of a ring of slots.
use Rattle.std.proofs.Common.{◌≡◌, ℕ, zero, suc, ◌+◌, ◌-◌, ◌*◌, ◌≤◌, ◌<◌, min, List, [], ◌∷◌, ◌++◌, length, take, drop, refl, sym, ap, subst, ◌∙◌, inl, inr, arith, add-one, mul-le-mul_right}
use Rattle.std.proofs.lemmas.Bool.{cases_lt}
use Rattle.std.proofs.lemmas.Bool.Decides.{nat_tests}
use Rattle.std.specs.List.{flat_map}
use Rattle.std.proofs.Math.Seq.{drop-append-add, take-append-add}
use Rattle.std.proofs.lemmas.List.{append-nil, append_assoc, drop-drop, drop-append-le, length-append, length-drop, length-take-le, take_all, take-append-drop, take-append-le}
use Rattle.std.proofs.lemmas.Slice.{drop-append-drop}
use Rattle.iio_kfifo.specs.Queue.{scans_in}
use Rattle.iio_kfifo.specs.Ring.{IsRing, bytes_from, first_after, slot_after}
use Rattle.iio_kfifo.proofs.Scans.{drop_most, length-scans_in, scans_in-append, scans_in-bytes, scans_in-front, scans_in-split, take_most}

-- ---- slots

pub goes_on : (slot count slots : ℕ) → slot + count < slots → slot_after slot count slots ≡ slot + count
goes_on slot count slots less = grind (arith, nat_tests)

pub goes_round : (slot count slots : ℕ) → slots ≤ slot + count → slot_after slot count slots ≡ slot + count - slots
goes_round slot count slots more = grind (arith, nat_tests)

pub slot_within : (slot count slots : ℕ) → slot < slots → count ≤ slots → slot_after slot count slots < slots
slot_within slot count slots less most =
    elim (cases_lt (slot + count) slots) [
      | inl on ↦ omega (arith, on, goes_on slot count slots on)
      | inr round ↦ omega (arith, less, most, goes_round slot count slots round)
    ]

-- ---- scans less

module _ (first waiting size slots len room : ℕ) (ring : IsRing first waiting size slots len room) where
  -- `count` slots from the ring's start on were written
  pub slots_written : (count : ℕ) → count ≤ min (first + waiting) slots → count * size ≤ len
  slots_written count few = omega (arith, mul-le-mul_right size few, ring.written)

  -- all slots were written if scans wait up to the ring's end
  all_written : slots ≤ first + waiting → len ≡ slots * size
  all_written round = omega (arith, slots_written slots (omega (arith, round)), ring.within)

module _ (first count size slots room : ℕ) (bytes : List ℕ) where
  abbrev run : List ℕ
  run = drop (first * size) bytes

  -- the scans that are left stand from their first slot on
  left_on : (left : ℕ) → IsRing first (count + left) size slots (length bytes) room
      → scans_in size left (drop (count * size) (run ++ bytes)) ≡ scans_in size left (bytes_from (first_after first count left slots * size) bytes)
  left_on zero ring = refl
  left_on (suc left) ring =
      let next = slot_after first count slots in
      let h = ring.begins in
      let m = ring.most in
      let long = length-drop (first * size) bytes in
      elim (cases_lt (first + count) slots) [
        | inl on ↦
            let some : (first + count) * size ≤ length bytes =
            slots_written first (count + suc left) size slots (length bytes) room ring (first + count) (omega (arith, on)) in
            let same : first * size + count * size ≡ next * size = rw (goes_on first count slots on) (omega arith) in
            ap (λ xs. scans_in size (suc left) xs)
            (drop-append-le (count * size) run bytes (omega (arith, long, some)) ∙ ap (λ xs. xs ++ bytes) (drop-drop (count * size) (first * size) bytes)
            ∙ ap (λ n. drop n bytes ++ bytes) same)
        | inr round ↦
            let all = all_written first (count + suc left) size slots (length bytes) room ring (omega (arith, round)) in
            let is : next + slots ≡ first + count = omega (arith, round, goes_round first count slots round) in
            let times : (next + slots) * size ≡ (first + count) * size = ap (λ n. n * size) is in
            let low : first ≤ slots = omega (arith, h) in
            let past : count * size ≡ length run + next * size = omega (arith, long, times, all, mul-le-mul_right size low) in
            let fits : suc left + next ≤ slots = omega (arith, is, h, m) in
            ap (λ n. scans_in size (suc left) (drop n (run ++ bytes))) past
            ∙ ap (λ xs. scans_in size (suc left) xs) (drop-append-add run bytes (next * size))
            ∙ sym (scans_in-front size (suc left) (drop (next * size) bytes) bytes
            (omega (arith, length-drop (next * size) bytes, all, mul-le-mul_right size fits)))
      ]

  left_ring : (left len : ℕ) → IsRing first (count + left) size slots len room → IsRing (first_after first count left slots) left size slots len room
  left_ring zero len ring =
      let h = ring.begins in
      let none : min (0 + 0) slots ≡ 0 = omega arith in record {
        begins = omega (arith, h);
        most = omega arith;
        written = rw none (omega arith);
        within = ring.within;
        enough = ring.enough;
      }
  left_ring (suc left) len ring =
      let h = ring.begins in
      let most = ring.most in
      let fewer : min (slot_after first count slots + suc left) slots ≤ min (first + (count + suc left)) slots
      = elim (cases_lt (first + count) slots) [
        | inl on ↦ omega (arith, goes_on first count slots on)
        | inr round ↦ omega (arith, h, round, goes_round first count slots round)
      ] in record {
        begins = slot_within first count slots h (omega (arith, most));
        most = omega (arith, most);
        written = slots_written first (count + suc left) size slots len room ring _ fewer;
        within = ring.within;
        enough = ring.enough;
      }

-- the first scans of a ring, and those that are left once they were taken
module _ (first waiting count size slots room : ℕ) (bytes : List ℕ) (ring : IsRing first waiting size slots (length bytes) room) (there : count ≤ waiting) where
  parts : waiting ≡ count + (waiting - count)
  parts = omega (arith, there)

  ring' : IsRing first (count + (waiting - count)) size slots (length bytes) room
  ring' = subst (λ n. IsRing first n size slots (length bytes) room) parts ring

  pub ring_less : scans_in size waiting (bytes_from (first * size) bytes)
      ≡ scans_in size count (bytes_from (first * size) bytes)
      ++ scans_in size (waiting - count) (bytes_from (first_after first count (waiting - count) slots * size) bytes)
  ring_less =
      ap (λ n. scans_in size n (bytes_from (first * size) bytes)) parts
      ∙ scans_in-split size count (waiting - count) (bytes_from (first * size) bytes)
      ∙ ap (λ xs. scans_in size count (bytes_from (first * size) bytes) ++ xs) (left_on first count size slots room bytes (waiting - count) ring')

  pub less_ring : IsRing (first_after first count (waiting - count) slots) (waiting - count) size slots (length bytes) room
  less_ring = left_ring first count size slots room bytes (waiting - count) (length bytes) ring'

  -- the bytes of the first scans: those that stand up to the ring's end, and then those from its start
  pub first_bytes : take (count * size) (bytes_from (first * size) bytes)
      ≡ take (min count (slots - first) * size) (drop (first * size) bytes) ++ take ((count - min count (slots - first)) * size) bytes
  first_bytes =
      let run = drop (first * size) bytes in
      let h = ring.begins in
      let long = length-drop (first * size) bytes in
      elim (cases_lt slots (first + count)) [
        | inl round ↦
            let is : min count (slots - first) ≡ slots - first = omega (arith, h, round) in
            let all = all_written first waiting size slots (length bytes) room ring (omega (arith, there, round)) in
            let whole : first + (slots - first) ≡ slots = omega (arith, h) in
            let times : (first + (slots - first)) * size ≡ slots * size = ap (λ n. n * size) whole in
            let has : length run ≡ (slots - first) * size = omega (arith, long, times, all) in
            let rest : count ≡ (slots - first) + (count - (slots - first)) = omega (arith, round) in
            let past : count * size ≡ length run + (count - (slots - first)) * size = omega (arith, has, ap (λ n. n * size) rest) in
            rw is (ap (λ n. take n (run ++ bytes)) past ∙ take-append-add run bytes ((count - (slots - first)) * size)
            ∙ ap (λ xs. xs ++ take ((count - (slots - first)) * size) bytes) (sym (take_all ((slots - first) * size) run (omega (arith, has)))))
        | inr on ↦
            let is : min count (slots - first) ≡ count = omega (arith, h, on) in
            let less : count - count ≡ 0 = omega arith in
            let none : (count - count) * size ≡ 0 = rw less (omega arith) in
            let some : (first + count) * size ≤ length bytes =
            slots_written first waiting size slots (length bytes) room ring (first + count) (omega (arith, there, on)) in
            rw (is, none) (take-append-le (count * size) run bytes (omega (arith, long, some)) ∙ sym (append-nil (take (count * size) run)))
      ]

  pub run_fits : first * size + min count (slots - first) * size ≤ length bytes
  run_fits =
      let h = ring.begins in
      omega (arith, slots_written first waiting size slots (length bytes) room ring (first + min count (slots - first)) (omega (arith, there, h)))

-- the scans that a take of at most `most` gives, their bytes, and those that are left
module _ (first waiting most count size slots room : ℕ) (bytes : List ℕ) (ring : IsRing first waiting size slots (length bytes) room)
    (is : count ≡ min waiting most) where
  less : scans_in size waiting (bytes_from (first * size) bytes)
      ≡ scans_in size count (bytes_from (first * size) bytes)
      ++ scans_in size (waiting - count) (bytes_from (first_after first count (waiting - count) slots * size) bytes)
  less = ring_less first waiting count size slots room bytes ring (omega (arith, is))

  long : length (scans_in size count (bytes_from (first * size) bytes)) ≡ min most (length (scans_in size waiting (bytes_from (first * size) bytes)))
  long = omega (arith, is, length-scans_in size count (bytes_from (first * size) bytes), length-scans_in size waiting (bytes_from (first * size) bytes))

  pub given_bytes : flat_map (λ scan. scan) (take most (scans_in size waiting (bytes_from (first * size) bytes)))
      ≡ take (count * size) (bytes_from (first * size) bytes)
  given_bytes =
      ap (λ xs. flat_map (λ scan. scan) xs) (take_most most _ _ _ less long) ∙ scans_in-bytes size count (bytes_from (first * size) bytes)

  pub length-given : length (flat_map (λ scan. scan) (take most (scans_in size waiting (bytes_from (first * size) bytes)))) ≡ count * size
  length-given =
      let h = ring.begins in
      let m = ring.most in
      let there = slots_written first waiting size slots (length bytes) room ring count (omega (arith, is, h, m)) in
      ap length given_bytes ∙ length-take-le (count * size) (bytes_from (first * size) bytes)
      (omega (arith, length-append (drop (first * size) bytes) bytes, there))

  pub scans_left : drop most (scans_in size waiting (bytes_from (first * size) bytes))
      ≡ scans_in size (waiting - count) (bytes_from (first_after first count (waiting - count) slots * size) bytes)
  scans_left = drop_most most _ _ _ less long

-- the first scan's bytes are there
pub first_fits : (first waiting size slots len room : ℕ) → IsRing first waiting size slots len room → 0 < waiting → first * size + size ≤ len
first_fits first waiting size slots len room ring some =
    let h = ring.begins in
    omega (arith, slots_written first waiting size slots len room ring (suc first) (omega (arith, h, some)))

-- ---- another scan

-- another scan after those that stand in some bytes, whatever follows
one_more : (size count : ℕ) (bytes scan rest rest' : List ℕ) → length bytes ≡ count * size → length scan ≡ size
    → scans_in size (suc count) (bytes ++ scan ++ rest') ≡ scans_in size count (bytes ++ rest) ++ scan ∷ []
one_more size count bytes scan rest rest' all one =
    let long : suc count * size ≤ length (bytes ++ scan) = omega (arith, length-append bytes scan, all, one) in
    scans_in-front size (suc count) (bytes ++ scan) rest' long ∙ scans_in-append size count bytes scan all one
    ∙ ap (λ xs. xs ++ scan ∷ []) (sym (scans_in-front size count bytes rest (omega (arith, all))))

-- bytes with a scan written over them
abbrev pub overwritten : ℕ → (scan bytes : List ℕ) → List ℕ
overwritten start scan bytes = take start bytes ++ scan ++ drop (start + length scan) bytes

-- a scan written after the last one
offer_on : (size waiting from start : ℕ) (bytes scan : List ℕ) → start ≡ from + waiting * size → start ≤ length bytes → length scan ≡ size
    → scans_in size (suc waiting) (bytes_from from (overwritten start scan bytes)) ≡ scans_in size waiting (bytes_from from bytes) ++ scan ∷ []
offer_on size waiting from start bytes scan is within one =
    let before = take start bytes in
    let after = drop start bytes in
    let later = drop (start + length scan) bytes in
    let long = length-take-le start bytes within in
    let run = drop from before in
    let all : length run ≡ waiting * size = omega (arith, length-drop from before, long, is) in
    let new = overwritten start scan bytes in
    let low : from ≤ length before = omega (arith, long, is) in
    let low' : from ≤ length (before ++ scan) = omega (arith, length-append before scan, low) in
    let new_run : bytes_from from new ≡ run ++ scan ++ (later ++ new)
    = ap (λ xs. xs ++ new) (drop-append-le from (before ++ scan) later low' ∙ ap (λ xs. xs ++ later) (drop-append-le from before scan low))
    ∙ append_assoc (run ++ scan) later new in
    let old_run : run ++ (after ++ bytes) ≡ bytes_from from bytes
    =
    sym (append_assoc run after bytes)
    ∙ ap (λ xs. xs ++ bytes) (sym (drop-append-le from before after low) ∙ ap (λ xs. drop from xs) (take-append-drop start bytes)) in
    ap (λ xs. scans_in size (suc waiting) xs) new_run
    ∙ one_more size waiting run scan (after ++ bytes) (later ++ new) all one
    ∙ ap (λ xs. scans_in size waiting xs ++ scan ∷ []) old_run

-- a scan written before the first one, if the ring's last bytes are in use
offer_round : (size waiting from start : ℕ) (bytes scan : List ℕ) → length bytes + start ≡ from + waiting * size → start + size ≤ from → from ≤ length bytes
    → length scan ≡ size
    → scans_in size (suc waiting) (bytes_from from (overwritten start scan bytes)) ≡ scans_in size waiting (bytes_from from bytes) ++ scan ∷ []
offer_round size waiting from start bytes scan is below within one =
    let before = take start bytes in
    let after = drop start bytes in
    let later = drop (start + length scan) bytes in
    let last = drop from bytes in
    let long : length before ≡ start = length-take-le start bytes (omega (arith, below, within)) in
    let both : length (before ++ scan) ≡ start + length scan = omega (arith, length-append before scan, long) in
    let run = last ++ before in
    let all : length run ≡ waiting * size = omega (arith, length-append last before, length-drop from bytes, long, is, within) in
    let new = overwritten start scan bytes in
    let same : drop from new ≡ last = drop-append-drop (start + length scan) bytes (before ++ scan) from (omega (arith, below, one)) both in
    let new_run : bytes_from from new ≡ run ++ scan ++ later
    = ap (λ xs. xs ++ new) same ∙ sym (append_assoc last (before ++ scan) later) ∙ ap (λ xs. xs ++ later) (sym (append_assoc last before scan)) in
    let old_run : run ++ after ≡ bytes_from from bytes = append_assoc last before after ∙ ap (λ xs. last ++ xs) (take-append-drop start bytes) in
    ap (λ xs. scans_in size (suc waiting) xs) new_run
    ∙ one_more size waiting run scan after later all one
    ∙ ap (λ xs. scans_in size waiting xs ++ scan ∷ []) old_run

module _ (first waiting size slots room : ℕ) (bytes : List ℕ) (ring : IsRing first waiting size slots (length bytes) room) (fewer : waiting < slots) where
  -- the bytes up to the free slot were written, and there is memory for the slot
  pub free_within : slot_after first waiting slots * size ≤ length bytes
  free_within =
      elim (cases_lt (first + waiting) slots) [
        | inl on ↦
            let all : min (first + waiting) slots ≡ slot_after first waiting slots = omega (arith, on, goes_on first waiting slots on) in
            rw all at ring.written
        | inr round ↦
            let h = ring.begins in
            let less : slot_after first waiting slots ≤ min (first + waiting) slots = omega (arith, h, fewer, round, goes_round first waiting slots round) in
            omega (arith, mul-le-mul_right size less, ring.written)
      ]

  pub free_fits : slot_after first waiting slots * size + size ≤ slots * size
  free_fits =
      let less : suc (slot_after first waiting slots) ≤ slots = slot_within first waiting slots ring.begins ring.most in
      omega (arith, mul-le-mul_right size less)

  module _ (scan : List ℕ) (one : length scan ≡ size) where
    pub ring_offer : scans_in size (waiting + 1) (bytes_from (first * size) (overwritten (slot_after first waiting slots * size) scan bytes))
        ≡ scans_in size waiting (bytes_from (first * size) bytes) ++ scan ∷ []
    ring_offer =
        rw add-one (elim (cases_lt (first + waiting) slots) [
          | inl on ↦ offer_on size waiting (first * size) (slot_after first waiting slots * size) bytes scan (rw (goes_on first waiting slots on) (omega arith))
              free_within one
          | inr round ↦
              let h = ring.begins in
              let all : min (first + waiting) slots ≡ slots = omega (arith, round) in
              let whole = rw all at ring.written in
              let same : slot_after first waiting slots + slots ≡ first + waiting = omega (arith, round, goes_round first waiting slots round) in
              let times : (slot_after first waiting slots + slots) * size ≡ (first + waiting) * size = ap (λ n. n * size) same in
              let below : suc (slot_after first waiting slots) ≤ first = omega (arith, same, fewer) in
              let less : first ≤ slots = omega (arith, h) in
              offer_round size waiting (first * size) (slot_after first waiting slots * size) bytes scan
              (omega (arith, times, whole, ring.within)) (omega (arith, mul-le-mul_right size below)) (omega (arith, mul-le-mul_right size less, whole)) one
        ])

    long_after : length (overwritten (slot_after first waiting slots * size) scan bytes) ≡ slot_after first waiting slots * size + size
        + (length bytes - (slot_after first waiting slots * size + size))
    long_after =
        let start = slot_after first waiting slots * size in
        omega (
          arith,
          length-append (take start bytes ++ scan) (drop (start + length scan) bytes),
          length-append (take start bytes) scan,
          length-take-le start bytes free_within,
          length-drop (start + length scan) bytes,
          one,
        )

    pub offer_ring : (room' : ℕ) → room ≤ room'
        → IsRing first (waiting + 1) size slots (length (overwritten (slot_after first waiting slots * size) scan bytes)) room'
    offer_ring room' more = record {
      begins = ring.begins;
      most = omega (arith, fewer);
      written =
          elim (cases_lt (first + waiting) slots) [
            | inl on ↦
                let all : min (first + (waiting + 1)) slots ≡ suc (slot_after first waiting slots) = omega (arith, on, goes_on first waiting slots on) in
                rw all (omega (arith, long_after))
            | inr round ↦
                let all : min (first + waiting) slots ≡ slots = omega (arith, round) in
                let all' : min (first + (waiting + 1)) slots ≡ slots = omega (arith, round) in
                rw all' (omega (arith, rw all at ring.written, long_after))
          ];
      within = omega (arith, long_after, ring.within, free_fits);
      enough = omega (arith, ring.enough, more);
    }
