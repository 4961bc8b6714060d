-- A new ring, its two ends, and both ends in one thread again.
use Rattle.std.proofs.Common.{◌≡◌, ℕ, zero, suc, ◌<◌, List, [], ◌∷◌, ◌++◌, map, length, take, drop, set, slice_index, inl, inr, refl, sym, ap, ◌∙◌, arith}
use Rattle.std.specs.Prelude.{All}
use Rattle.std.proofs.lemmas.List.{length-append, length-map, take-append-drop, take-take}
use mathlib.Core.Option.{Option, some}
use Rattle.atomic_table.specs.Table.{keeps, Allows, Splits, Joins, opening}
use Rattle.atomic_table.proofs.Lists.{set_again}
use Rattle.iio_kfifo.specs.declared.cell.Cell.{Cell}
use Rattle.iio_kfifo.specs.declared.view.Key.{Key}
use Rattle.iio_kfifo.specs.declared.view.Part.TheVariants.{Fresh, Writes, Reads, Joined}
use Rattle.iio_kfifo.specs.declared.view.Sent.{Sent}
use Rattle.iio_kfifo.specs.declared.view.Writing.{Writing}
use Rattle.iio_kfifo.specs.declared.view.Reading.{Reading}
use Rattle.iio_kfifo.specs.declared.view.View.{View}
use Rattle.iio_kfifo.specs.Offers.{accepted}
use Rattle.iio_kfifo.specs.Rule.{far, Words, IsHome, Rings, Apart, HoldsOf, holds, new_view, writer_part, reader_part, joined, spent}
use Rattle.iio_kfifo.specs.Steps.{Settles}
use Rattle.iio_kfifo.proofs.Slots.{truths, load_keeps}
use Rattle.iio_kfifo.proofs.Views.{split_fresh, both_ends, as_joined}

-- ---- a new ring

there : (k : Key) (cells : List Cell) (j : ℕ) → j < length cells → All (λ (c : Cell). length c.bytes.items ≡ k.size) cells → IsHome k (map some cells) j
there k [] j less all = absurd (omega arith)
there k (c ∷ cs) zero less all = (c, refl, all 0 c (omega arith))
there k (c ∷ cs) (suc j) less all = there k cs j (omega arith) (λ i d l. all (suc i) d (omega arith))

pub opens : (k : Key) (cells : List Cell) (words : List ℕ) → Words words 0 0 0 → 0 < k.slots → length cells ≡ k.slots
    → All (λ (c : Cell). length c.bytes.items ≡ k.size) cells
    → holds k (opening words cells (new_view Fresh k.size))
opens k cells words start room count all = record {
  is = refl;
  size = refl;
  rings = record {
    room = room;
    counted = start;
    within = (omega arith, omega arith);
    saw = (omega arith, omega arith, omega arith);
    prefix = refl;
    turn = λ t. absurd (truths (sym t));
    count = length-map cells some ∙ count;
    home = λ j below off. there k cells j (omega (arith, below, count)) all;
    full = λ i low high. absurd (omega (arith, high));
    sums = λ i high. absurd (omega (arith, high));
    told = λ t. absurd (t refl);
  };
}

-- ---- the reader's seat is split off

pub splits : (k : Key) (id : ℕ) (v : View) → v ≡ new_view Fresh k.size → Splits (holds k) id v (writer_part v) (reader_part v)
splits k id v new s h at =
    let f = split_fresh k s.words s.homes s.views id v h at (ap (λ (x : View). x.part) new) in
    cut s.views id f.0 f.1 (f.2.size, f.2.rings)
  where
    cut : (views : List View) (id : ℕ) → views ≡ v ∷ [] → id ≡ 0 → (v.size ≡ k.size) × Rings k s.words s.homes (accepted v.writing.offers) v.writing v.reading
        → HoldsOf k s.words s.homes (set views id (writer_part v) ++ reader_part v ∷ [])
    cut views id e d q = rw (e, d) (inl (record { writes = refl; reads = refl; size = (q.0, q.0); rings = q.1 }))

-- ---- and joined again

pub joins : (k : Key) (id other : ℕ) (v w : View) → v.part ≡ Writes → w.part ≡ Reads → Joins (holds k) id v other w (joined v w) spent
joins k id other v w writes reads s h at off at' =
    let b = both_ends k s.words s.homes s.views id other v w (joined v w) h at writes off at' reads in
    one s.views id other b.0 b.1 b.2 b.3
  where
    one : (views : List View) (id other : ℕ) → views ≡ v ∷ w ∷ [] → id ≡ 0 → other ≡ 1 → Apart k s.words s.homes v w
        → HoldsOf k s.words s.homes (set (set views id (joined v w)) other spent)
    one views id other e d c q = rw (e, d, c) (inr (record { is = refl; size = q.size.0; rings = q.rings }, refl))

settled : (k : Key) (words : List ℕ) (homes : List (Option Cell)) (w : Writing) (r : Reading) → Rings k words homes (accepted w.offers) w r → (left : List Sent)
    × (accepted w.offers ≡ r.received ++ left)
settled k words homes w r h =
    let xs = accepted w.offers in
    let out = length r.received in
    let first : r.received ≡ take out xs
    = sym (take_whole r.received r.hand) ∙ ap (λ (ys : List Sent). take out ys) h.prefix ∙ take-take out (far r) xs (omega arith) in
    (drop out xs, sym (take-append-drop out xs) ∙ ap (λ (ys : List Sent). ys ++ drop out xs) (sym first))
  where
    take_whole : (a b : List Sent) → take (length a) (a ++ b) ≡ a
    take_whole [] b = refl
    take_whole (x ∷ a) b = ap (λ (ys : List Sent). x ∷ ys) (take_whole a b)

pub settle_at : (k : Key) (id slots : ℕ) (v : View) (held : List (ℕ × Cell)) → v.part ≡ Joined
    → Allows (holds k) slots id (v, held) 0 (λ n. n) (λ n b. Settles (v, held) n b)
settle_at k id slots v held both s h count at fits =
    let j = as_joined k s.words s.homes s.views id v h at both in
    let parts = settled k s.words s.homes v.writing v.reading j.rings in (
      v,
      keeps,
      tt,
      same (set s.words 0 (slice_index s.words 0)) (set s.views id v) (load_keeps s.words 0) (set_again s.views id v at) h,
      record {
        left = parts.0;
        parts = parts.1;
        found = j.rings.counted.ins ∙ ap (λ (xs : List Sent). length xs) parts.1 ∙ length-append v.reading.received parts.0;
        told = λ t. (j.rings.told t).2;
        after = refl;
      },
    )
  where
    same : (words : List ℕ) (views : List View) → words ≡ s.words → views ≡ s.views → HoldsOf k s.words s.homes s.views → HoldsOf k words s.homes views
    same words views e d q = rw (e, d) q
