-- What a trigger's calls make of its rows, by where the device's row is.
use Rattle.std.proofs.Common.{◌≡◌, ℕ, ◌<◌, true, false, cond, eqb, List, length, get_or, Some, None, refl, sym, ap, ◌∙◌, subst, arith}
use Rattle.std.proofs.lemmas.Grind.{common_steps}
use Rattle.std.specs.List.{Contains, insert, remove, refill}
use Rattle.std.proofs.Math.ListN.{set}
use Rattle.std.proofs.lemmas.Bool.{eq-eqb, ne_eqb}
use Rattle.iio_trigger.specs.Rank.{rank, IsOther, AllOther, StandsAt, WouldStandAt}
use Rattle.iio_trigger.specs.Trigger.{InOrder, place_dev, entry_dev, Handed, holds_place, with_place, without_place, is_waiting, due_of, with_in_hand, without_entry}
use Rattle.iio_trigger.specs.declared.rows.Place.{Place}
use Rattle.iio_trigger.specs.declared.rows.Entry.{Entry}
use Rattle.iio_trigger.proofs.Ranks.{InOrder-with_place, InOrder-set, map-others, filter-others, any-others, find-others, any-at, map-at, filter-at, find-at, with_place-at, with_place-new, IsOther-get_or, at_rank}

-- one row is written through a loan of all
pub refill-set : {X : Type 0} (xs ys : List X) (i : ℕ) (y : X) → ys ≡ xs → refill (length xs) xs (set ys i y) ≡ set xs i y
refill-set xs ys i y e = grind (arith, common_steps)

-- a row for reads past the end
abbrev no_place : Place
no_place = record { dev = 0; attachment = 0 }

module _ (dev i : ℕ) (ps : List Place) where
  module _ (s : StandsAt place_dev dev ps i) where
    abbrev within : rank place_dev dev ps < length ps
    within = rw s.ranked s.within

    abbrev same : (get_or ps (rank place_dev dev ps) no_place).dev ≡ dev
    same = rw s.ranked (s.same no_place)

    pub holds_place-at : holds_place dev ps ≡ true
    holds_place-at = any-at place_dev dev ps no_place within same

    pub with_place-set : (n : ℕ) → with_place dev n ps ≡ set ps i (record { dev = dev; attachment = n })
    with_place-set n = with_place-at dev n ps no_place within same ∙ ap (λ k. set ps k (record { dev = dev; attachment = n })) s.ranked

    pub without_place-remove : InOrder place_dev 0 ps → without_place dev ps ≡ remove ps i
    without_place-remove o = filter-at place_dev dev 0 ps no_place o within same ∙ ap (λ k. remove ps k) s.ranked

    pub InOrder-set_place : (n : ℕ) → InOrder place_dev 0 ps → InOrder place_dev 0 (set ps i (record { dev = dev; attachment = n }))
    InOrder-set_place n o = InOrder-set place_dev 0 i ps (record { dev = dev; attachment = n }) no_place o (sym (s.same no_place))

  module _ (w : WouldStandAt place_dev dev ps i) where
    pub holds_place-none : holds_place dev ps ≡ false
    holds_place-none = any-others place_dev dev ps w.others

    pub with_place-insert : (n : ℕ) → with_place dev n ps ≡ insert ps i (record { dev = dev; attachment = n })
    with_place-insert n =
        with_place-new dev n ps no_place (λ h. IsOther-get_or place_dev dev ps (rank place_dev dev ps) no_place w.others h)
        ∙ ap (λ k. insert ps k (record { dev = dev; attachment = n })) w.ranked

    pub without_place-none : without_place dev ps ≡ ps
    without_place-none = filter-others place_dev dev ps w.others

    pub InOrder-insert_place : (n : ℕ) → InOrder place_dev 0 ps → InOrder place_dev 0 (insert ps i (record { dev = dev; attachment = n }))
    InOrder-insert_place n o =
        let P : List Place → Type 0 = λ xs. InOrder place_dev 0 xs in
        subst P (with_place-insert n) (InOrder-with_place 0 dev n ps (omega arith) o)

-- the test and the change of an entry say nothing of other devices
is_waiting-other : (dev : ℕ) (e : Entry) → IsOther entry_dev dev e → is_waiting dev e ≡ false
is_waiting-other dev e other = rw (ne_eqb e.dev dev other)

abbrev taken_up : ℕ → Entry → Entry
taken_up dev e = cond (eqb e.dev dev) (record e { in_hand = true }) e

taken_up-other : (dev : ℕ) (e : Entry) → IsOther entry_dev dev e → taken_up dev e ≡ e
taken_up-other dev e other = rw (ne_eqb e.dev dev other)

abbrev handed_out : Entry → Handed
handed_out e = record { dev = e.dev; attachment = e.attachment; t = e.t }

module _ (dev : ℕ) (es : List Entry) where
  module _ (others : AllOther entry_dev dev es) where
    pub due_of-none : due_of dev es ≡ None
    due_of-none = rw (find-others entry_dev dev (is_waiting dev) es others (is_waiting-other dev))

    pub with_in_hand-none : with_in_hand dev es ≡ es
    with_in_hand-none = map-others entry_dev dev (taken_up dev) es others (taken_up-other dev)

    pub Contains-none : (e : Entry) → e.dev ≡ dev → Contains es e → ⊥
    Contains-none e same at = IsOther-get_or entry_dev dev es at.0 e others at.1 (ap entry_dev at.2 ∙ same)

  module _ (i : ℕ) (s : StandsAt entry_dev dev es i) (d : Entry) where
    abbrev ranked_within : rank entry_dev dev es < length es
    ranked_within = rw s.ranked s.within

    abbrev ranked_same : (get_or es (rank entry_dev dev es) d).dev ≡ dev
    ranked_same = rw s.ranked (s.same d)

    module _ (o : InOrder entry_dev 0 es) where
      pub due_of-at : (get_or es i d).in_hand ≡ false → due_of dev es ≡ Some (handed_out (get_or es i d))
      due_of-at idle =
          rw (
            find-at entry_dev dev (is_waiting dev) 0 es d o ranked_within ranked_same (is_waiting-other dev),
            s.ranked,
            eq-eqb (get_or es i d).dev dev
                (s.same d),
            idle,
          )

      pub due_of-in_hand : (get_or es i d).in_hand ≡ true → due_of dev es ≡ None
      due_of-in_hand busy =
          rw (
            find-at entry_dev dev (is_waiting dev) 0 es d o ranked_within ranked_same (is_waiting-other dev),
            s.ranked,
            eq-eqb (get_or es i d).dev dev
                (s.same d),
            busy,
          )

      pub with_in_hand-set : with_in_hand dev es ≡ set es i (record (get_or es i d) { in_hand = true })
      with_in_hand-set =
          rw (map-at entry_dev dev (taken_up dev) 0 es d o ranked_within ranked_same (taken_up-other dev), s.ranked, eq-eqb (get_or es i d).dev dev (s.same d))

      pub with_in_hand-same : (get_or es i d).in_hand ≡ true → with_in_hand dev es ≡ es
      with_in_hand-same busy = grind (arith, common_steps, with_in_hand-set)

      pub without_entry-remove : without_entry dev es ≡ remove es i
      without_entry-remove = filter-at entry_dev dev 0 es d o ranked_within ranked_same ∙ ap (λ k. remove es k) s.ranked

      pub InOrder-set_entry : InOrder entry_dev 0 (set es i (record (get_or es i d) { in_hand = true }))
      InOrder-set_entry = InOrder-set entry_dev 0 i es (record (get_or es i d) { in_hand = true }) d o refl

      -- the only entry of the device is the one that is there
      pub Contains-at : (e : Entry) → e.dev ≡ dev → Contains es e → get_or es i d ≡ e
      Contains-at e is at = grind (arith, common_steps, at_rank)
