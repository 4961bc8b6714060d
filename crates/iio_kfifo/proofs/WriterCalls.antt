-- What the writer's calls require of their steps, and what they keep.
use Rattle.std.proofs.Common.{◌≡◌, ℕ, ◌+◌, ◌-◌, ◌%◌, ◌^◌, ◌<◌, true, false, List, [], ◌∷◌, ◌++◌, length, refl, sym, ap, ◌∙◌, arith}
use Rattle.std.proofs.lemmas.List.{length-append}
use mathlib.Core.Option.{none}
use Rattle.atomic_table.specs.Table.{Me, step, rest}
use Rattle.iio_kfifo.specs.declared.tail.Offered.TheVariants.{Taken, Lost}
use Rattle.iio_kfifo.specs.declared.cell.Cell.{Cell}
use Rattle.iio_kfifo.specs.declared.view.Key.{Key}
use Rattle.iio_kfifo.specs.declared.view.Part.TheVariants.{Writes}
use Rattle.iio_kfifo.specs.declared.view.Sent.{Sent}
use Rattle.iio_kfifo.specs.declared.view.Writing.{Writing}
use Rattle.iio_kfifo.specs.declared.view.View.{View}
use Rattle.iio_kfifo.specs.Offers.{accepted, lost_in}
use Rattle.iio_kfifo.specs.Steps.{with_writing, LookedOut, Begins, Loses}
use Rattle.iio_kfifo.specs.Ends.{Answers, WriterCounts}
use Rattle.iio_kfifo.proofs.OffersLaws.{accepted-accept, accepted-refuse, lost-accept, lost-refuse}
use Rattle.iio_kfifo.proofs.WriterLaws.{MayAccept}

-- what the load showed, if there is room
pub record Begun (slots n : ℕ) (a : View) (b : Me Cell View) : Type 0 where
  pub cell : Cell
  pub size : length cell.bytes.items ≡ a.size
  pub view : b.0 ≡ with_writing a (record a.writing { turn = true; seen = n; looks = a.writing.looks + 1 })
  pub held : b.1 ≡ (length (accepted a.writing.offers) % slots, cell) ∷ []

pub begun : (slots n : ℕ) (a b : Me Cell View) → LookedOut (step slots 16 0 0 none) a n b → length (accepted a.0.writing.offers) < n + slots
    → Begun slots n a.0 b
begun slots n a b (Begins c size low less e) room =
    record { cell = c; size = size; view = ap (λ (x : Me Cell View). x.0) e; held = ap (λ (x : Me Cell View). x.1) e }
begun slots n a b (Loses full e) room = absurd (omega (arith, full, room))

-- the slot in hand
pub in_hand_is : (held : List (ℕ × Cell)) (i j : ℕ) (c : Cell) → i ≡ j → held ≡ (i, c) ∷ [] → held ≡ (j, c) ∷ rest held
in_hand_is held i j c d e =
    let r : rest held ≡ [] = ap (λ (l : List (ℕ × Cell)). rest l) e in
    rw (r, ← d) e

pub may_accept : (k : Key) (z slots n count lost : ℕ) (a : View) (b : Me Cell View) (c : Cell) → a.part ≡ Writes → a.writing.closed ≡ false
    → count ≡ length (accepted a.writing.offers)
    → lost ≡ lost_in a.writing.offers → count + lost < 2 ^ 64 - 1 → k.slots ≡ slots → length c.bytes.items ≡ k.size → c.lost ≡ lost → Begun z n a b
    → MayAccept k b.0 (count % slots) c (count + 1)
may_accept k z slots n count lost a b c writes still counted lost' fewer same size with_lost g = rw g.view (record {
  writes = writes;
  busy = refl;
  still = still;
  place = ap (λ (m : ℕ). m % slots) counted ∙ ap (λ (m : ℕ). length (accepted a.writing.offers) % m) (sym same);
  size = size;
  lost = with_lost ∙ lost';
  sum = omega (arith, counted, lost', fewer);
  next = ap (λ (m : ℕ). m + 1) counted;
})

module _ (capacity : ℕ) (w w' : Writing) (scan : List ℕ) where
  taken_counts : Answers capacity w scan Taken w' → (accepted w'.offers ≡ accepted w.offers ++ record { scan = scan; lost = lost_in w.offers } ∷ [])
      × (lost_in w'.offers ≡ lost_in w.offers)
  taken_counts a = rw a.1 (accepted-accept w.offers scan, lost-accept w.offers scan)

  lost_counts : Answers capacity w scan Lost w' → (accepted w'.offers ≡ accepted w.offers) × (lost_in w'.offers ≡ lost_in w.offers + 1)
  lost_counts a = rw a.1 (accepted-refuse w.offers, lost-refuse w.offers)

  pub one_taken : Answers capacity w scan Taken w' → (length (accepted w'.offers) ≡ length (accepted w.offers) + 1) × (lost_in w'.offers ≡ lost_in w.offers)
  one_taken a =
      let t = taken_counts a in
      (ap (λ (xs : List Sent). length xs) t.0 ∙ length-append (accepted w.offers) _, t.1)

  pub one_lost : Answers capacity w scan Lost w' → (length (accepted w'.offers) ≡ length (accepted w.offers)) × (lost_in w'.offers ≡ lost_in w.offers + 1)
  one_lost a = let t = lost_counts a in (ap (λ (xs : List Sent). length xs) t.0, t.1)

  pub counts_taken : (k : Key) (count lost slots size : ℕ) → WriterCounts k w count lost slots size → Answers capacity w scan Taken w'
      → WriterCounts k w' (count + 1) lost slots size
  counts_taken k count lost slots size h a = let t = one_taken a in record {
    slots_is = h.slots_is;
    size_is = h.size_is;
    counted = ap (λ (n : ℕ). n + 1) h.counted ∙ sym t.0;
    lost_is = h.lost_is ∙ sym t.1;
    fits = h.fits;
  }

  pub counts_lost : (k : Key) (count lost slots size : ℕ) → WriterCounts k w count lost slots size → 0 < capacity → count + lost < 2 ^ 64 - 1
      → Answers capacity w scan Lost w' → WriterCounts k w' count (lost + 1) slots size
  counts_lost k count lost slots size h room fewer a = let t = one_lost a in record {
    slots_is = h.slots_is;
    size_is = h.size_is;
    counted = h.counted ∙ sym t.0;
    lost_is = ap (λ (n : ℕ). n + 1) h.lost_is ∙ sym t.1;
    fits = omega (arith, fewer, a.0, room, h.counted);
  }
