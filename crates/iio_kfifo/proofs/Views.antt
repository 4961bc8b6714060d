-- Which view of a ring belongs to which end.
use Rattle.std.proofs.Common.{◌≡◌, ℕ, zero, suc, List, [], ◌∷◌, set, inl, inr, refl, sym, ap, ◌∙◌}
use mathlib.Core.Option.{Option, some}
use lib.ListN.{get_elem?}
use Rattle.iio_kfifo.specs.declared.cell.Cell.{Cell}
use Rattle.iio_kfifo.specs.declared.view.Key.{Key}
use Rattle.iio_kfifo.specs.declared.view.Part.{Part}
use Rattle.iio_kfifo.specs.declared.view.Part.TheVariants.{Fresh, Writes, Reads, Joined, Spent}
use Rattle.iio_kfifo.specs.declared.view.View.{View}
use Rattle.iio_kfifo.specs.Offers.{accepted}
use Rattle.iio_kfifo.specs.Rule.{Rings, Apart, Whole, HoldsOf}

fresh_writes : Fresh ≡ Writes → ⊥
fresh_writes e = cc

fresh_reads : Fresh ≡ Reads → ⊥
fresh_reads e = cc

fresh_joined : Fresh ≡ Joined → ⊥
fresh_joined e = cc

writes_fresh : Writes ≡ Fresh → ⊥
writes_fresh e = cc

writes_reads : Writes ≡ Reads → ⊥
writes_reads e = cc

writes_joined : Writes ≡ Joined → ⊥
writes_joined e = cc

reads_writes : Reads ≡ Writes → ⊥
reads_writes e = cc

reads_fresh : Reads ≡ Fresh → ⊥
reads_fresh e = cc

reads_joined : Reads ≡ Joined → ⊥
reads_joined e = cc

joined_writes : Joined ≡ Writes → ⊥
joined_writes e = cc

joined_reads : Joined ≡ Reads → ⊥
joined_reads e = cc

joined_fresh : Joined ≡ Fresh → ⊥
joined_fresh e = cc

spent_writes : Spent ≡ Writes → ⊥
spent_writes e = cc

spent_reads : Spent ≡ Reads → ⊥
spent_reads e = cc

spent_fresh : Spent ≡ Fresh → ⊥
spent_fresh e = cc

spent_joined : Spent ≡ Joined → ⊥
spent_joined e = cc

part_of : {v x : View} → {p q : Part} → some x ≡ some v → v.part ≡ p → x.part ≡ q → q ≡ p
part_of {v} {x} e vp xp = let same : x ≡ v = cc in sym xp ∙ (ap (λ (z : View). z.part) same ∙ vp)

-- the writer's view stands first, and a view put in its place keeps the rule with the same reader
pub record AtWriter (k : Key) (words : List ℕ) (homes : List (Option Cell)) (views : List View) (id : ℕ) (v : View) : Type 0 where
  pub other : View
  pub size : v.size ≡ k.size
  pub rings : Rings k words homes (accepted v.writing.offers) v.writing other.reading
  pub put : (words' : List ℕ) (homes' : List (Option Cell)) (x : View) → x.part ≡ Writes → x.size ≡ k.size
      → Rings k words' homes' (accepted x.writing.offers) x.writing other.reading
      → HoldsOf k words' homes' (set views id x)

pub as_writer : (k : Key) (words : List ℕ) (homes : List (Option Cell)) (views : List View) (id : ℕ) (v : View) → HoldsOf k words homes views
    → get_elem? views id ≡ some v → v.part ≡ Writes
    → AtWriter k words homes views id v
as_writer k words homes [] id v h e p = absurd h
as_writer k words homes (x ∷ []) zero v h e p = absurd (fresh_writes (part_of e p h.is))
as_writer k words homes (x ∷ []) (suc n) v h e p = absurd (cc)
as_writer k words homes (x ∷ y ∷ []) zero v (inl h) e p =
    let same : v ≡ x = cc in record {
      other = y;
      size = rw same h.size.0;
      rings = rw same h.rings;
      put = λ ws hs z is size q. inl (record { writes = is; reads = h.reads; size = (size, h.size.1); rings = q });
    }
as_writer k words homes (x ∷ y ∷ []) zero v (inr h) e p = absurd (joined_writes (part_of e p h.0.is))
as_writer k words homes (x ∷ y ∷ []) (suc zero) v (inl h) e p = absurd (reads_writes (part_of e p h.reads))
as_writer k words homes (x ∷ y ∷ []) (suc zero) v (inr h) e p = absurd (spent_writes (part_of e p h.1))
as_writer k words homes (x ∷ y ∷ []) (suc (suc n)) v h e p = absurd (cc)
as_writer k words homes (x ∷ y ∷ z ∷ zs) id v h e p = absurd h

-- the reader's view stands second, and a view put in its place keeps the rule with the same writer
pub record AtReader (k : Key) (words : List ℕ) (homes : List (Option Cell)) (views : List View) (id : ℕ) (v : View) : Type 0 where
  pub other : View
  pub size : v.size ≡ k.size
  pub rings : Rings k words homes (accepted other.writing.offers) other.writing v.reading
  pub put : (words' : List ℕ) (homes' : List (Option Cell)) (x : View) → x.part ≡ Reads → x.size ≡ k.size
      → Rings k words' homes' (accepted other.writing.offers) other.writing x.reading
      → HoldsOf k words' homes' (set views id x)

pub as_reader : (k : Key) (words : List ℕ) (homes : List (Option Cell)) (views : List View) (id : ℕ) (v : View) → HoldsOf k words homes views
    → get_elem? views id ≡ some v → v.part ≡ Reads
    → AtReader k words homes views id v
as_reader k words homes [] id v h e p = absurd h
as_reader k words homes (x ∷ []) zero v h e p = absurd (fresh_reads (part_of e p h.is))
as_reader k words homes (x ∷ []) (suc n) v h e p = absurd (cc)
as_reader k words homes (x ∷ y ∷ []) zero v (inl h) e p = absurd (writes_reads (part_of e p h.writes))
as_reader k words homes (x ∷ y ∷ []) zero v (inr h) e p = absurd (joined_reads (part_of e p h.0.is))
as_reader k words homes (x ∷ y ∷ []) (suc zero) v (inl h) e p =
    let same : v ≡ y = cc in record {
      other = x;
      size = rw same h.size.1;
      rings = rw same h.rings;
      put = λ ws hs z is size q. inl (record { writes = h.writes; reads = is; size = (h.size.0, size); rings = q });
    }
as_reader k words homes (x ∷ y ∷ []) (suc zero) v (inr h) e p = absurd (spent_reads (part_of e p h.1))
as_reader k words homes (x ∷ y ∷ []) (suc (suc n)) v h e p = absurd (cc)
as_reader k words homes (x ∷ y ∷ z ∷ zs) id v h e p = absurd h

-- a new ring's one view is split
pub split_fresh : (k : Key) (words : List ℕ) (homes : List (Option Cell)) (views : List View) (id : ℕ) (v : View) → HoldsOf k words homes views
    → get_elem? views id ≡ some v → v.part ≡ Fresh
    → (views ≡ v ∷ []) × (id ≡ 0) × Whole Fresh k words homes v
split_fresh k words homes [] id v h e p = absurd h
split_fresh k words homes (x ∷ []) zero v h e p = let same : v ≡ x = cc in (ap (λ (z : View). z ∷ []) (sym same), refl, rw same h)
split_fresh k words homes (x ∷ []) (suc n) v h e p = absurd (cc)
split_fresh k words homes (x ∷ y ∷ []) zero v (inl h) e p = absurd (writes_fresh (part_of e p h.writes))
split_fresh k words homes (x ∷ y ∷ []) zero v (inr h) e p = absurd (joined_fresh (part_of e p h.0.is))
split_fresh k words homes (x ∷ y ∷ []) (suc zero) v (inl h) e p = absurd (reads_fresh (part_of e p h.reads))
split_fresh k words homes (x ∷ y ∷ []) (suc zero) v (inr h) e p = absurd (spent_fresh (part_of e p h.1))
split_fresh k words homes (x ∷ y ∷ []) (suc (suc n)) v h e p = absurd (cc)
split_fresh k words homes (x ∷ y ∷ z ∷ zs) id v h e p = absurd h

-- both ends in one view
pub as_joined : (k : Key) (words : List ℕ) (homes : List (Option Cell)) (views : List View) (id : ℕ) (v : View) → HoldsOf k words homes views
    → get_elem? views id ≡ some v → v.part ≡ Joined
    → Whole Joined k words homes v
as_joined k words homes [] id v h e p = absurd h
as_joined k words homes (x ∷ []) zero v h e p = absurd (fresh_joined (part_of e p h.is))
as_joined k words homes (x ∷ []) (suc n) v h e p = absurd (cc)
as_joined k words homes (x ∷ y ∷ []) zero v (inl h) e p = absurd (writes_joined (part_of e p h.writes))
as_joined k words homes (x ∷ y ∷ []) zero v (inr h) e p = let same : v ≡ x = cc in rw same h.0
as_joined k words homes (x ∷ y ∷ []) (suc zero) v (inl h) e p = absurd (reads_joined (part_of e p h.reads))
as_joined k words homes (x ∷ y ∷ []) (suc zero) v (inr h) e p = absurd (spent_joined (part_of e p h.1))
as_joined k words homes (x ∷ y ∷ []) (suc (suc n)) v h e p = absurd (cc)
as_joined k words homes (x ∷ y ∷ z ∷ zs) id v h e p = absurd h

-- the two ends of a ring, one of them the writer's and the other the reader's
pub both_ends : (k : Key) (words : List ℕ) (homes : List (Option Cell)) (views : List View) (id other : ℕ) (v w both : View) → HoldsOf k words homes views
    → get_elem? views id ≡ some v → v.part ≡ Writes
    → ¬ (other ≡ id) → get_elem? (set views id both) other ≡ some w → w.part ≡ Reads
    → (views ≡ v ∷ w ∷ []) × (id ≡ 0) × (other ≡ 1) × Apart k words homes v w
both_ends k words homes [] id other v w both h e p off f q = absurd h
both_ends k words homes (x ∷ []) zero other v w both h e p off f q = absurd (fresh_writes (part_of e p h.is))
both_ends k words homes (x ∷ []) (suc n) other v w both h e p off f q = absurd (cc)
both_ends k words homes (x ∷ y ∷ []) zero zero v w both h e p off f q = absurd (off refl)
both_ends k words homes (x ∷ y ∷ []) zero (suc zero) v w both (inl h) e p off f q =
    let same : v ≡ x = cc in
    let same' : w ≡ y = cc in
    (λ i. sym same i ∷ sym same' i ∷ [], refl, refl, rw (same, same') h)
both_ends k words homes (x ∷ y ∷ []) zero (suc zero) v w both (inr h) e p off f q = absurd (joined_writes (part_of e p h.0.is))
both_ends k words homes (x ∷ y ∷ []) zero (suc (suc m)) v w both h e p off f q = absurd (cc)
both_ends k words homes (x ∷ y ∷ []) (suc zero) other v w both (inl h) e p off f q = absurd (reads_writes (part_of e p h.reads))
both_ends k words homes (x ∷ y ∷ []) (suc zero) other v w both (inr h) e p off f q = absurd (spent_writes (part_of e p h.1))
both_ends k words homes (x ∷ y ∷ []) (suc (suc n)) other v w both h e p off f q = absurd (cc)
both_ends k words homes (x ∷ y ∷ z ∷ zs) id other v w both h e p off f q = absurd h
