-- What the exchange of a member's mask keeps.
use Rattle.std.proofs.Common.{◌≡◌, ◌==◌, ◌||◌, ℕ, ◌+◌, ◌^◌, ◌<◌, Bool, true, false, not, zero, suc, List, [], ◌∷◌, ◌++◌, length, map, filter, take, drop, get_or, slice_set, slice_index_or, Option, Some, None, IfSome, IfNone, subst, refl, sym, ap, ◌∙◌, arith}
use Rattle.std.specs.List.{All, IsDistinct}
use Rattle.std.proofs.lemmas.List.{length-append, map-append, take_more}
use Rattle.std.proofs.lemmas.List.Elements.{All-cons, All-head, All-tail, All-map, All-push, All-weaker, All-filter, filter-append, filter_passes}
use Rattle.std.proofs.lemmas.List.Folds.{list_any-append}
use Rattle.iio_mask.specs.Mask.{is_within, union_of, union_of_all}
use Rattle.iio_mask.specs.declared.Mask.{Mask}
use Rattle.iio_mask.proofs.UnionLemmas.{union_of_all-more}
use Rattle.iio_layout.specs.Active.{active_of, has_data}
use Rattle.iio_layout.specs.Layout.{scan_size}
use Rattle.iio_layout.specs.Shape.{ShapeRecord, count_of}
use Rattle.iio_kfifo.specs.declared.tail.Tail.{Ghosts}
use Rattle.iio_device.specs.declared.membership.Membership.{Membership}
use Rattle.iio_device.specs.Groups.{GroupRecord, IsGroup, has_group, remade}
use Rattle.iio_device.specs.Members.{is_wanted, mask_of, masks_of, without}
use Rattle.iio_device.specs.Remasking.{begun_anew, remasked}
use Rattle.iio_device.specs.Roster.{with_group}
use Rattle.iio_device.specs.Sound.{AreGroups, IsMember, IsSound, bits_of}
use Rattle.iio_device.proofs.ApartLemmas.{AreDistinct, changed_is, distinct_filter, distinct_map, distinct_push, eq_same, kept_key, none_fewer, removed_is}
use Rattle.iio_device.proofs.MaskLemmas.{union_push}
use Rattle.iio_device.proofs.SoundLemmas.{asked_of, kept_wanted, kept_within, nil_map, nil_other, remade_group, split_at, wanted_at}
use Rattle.iio_device.proofs.TakeLemmas.{set_split}

or_true : (b : Bool) → (b || true) ≡ true
or_true true = refl
or_true false = refl

-- one element is replaced by another one
all_instead : {A : Type 0} (P : A → Type 0) (before after : List A) (x y : A) → All P (before ++ x ∷ after) → P y → All P (before ++ y ∷ after)
all_instead P [] after x y all new = All-cons P y after new (All-tail P x after all)
all_instead P (z ∷ zs) after x y all new =
    All-cons P z (zs ++ y ∷ after) (All-head P z (zs ++ x ∷ after) all) (all_instead P zs after x y (All-tail P z (zs ++ x ∷ after) all) new)

-- ---- unions

module _ {Q : Type 0} where
  -- the members of other numbers, with another member
  without_more : (members : List (Membership Q)) (number k : ℕ) (m : Membership Q) → k < length members → m ≡ get_or members k m
      → without number (take (k + 1) members) ≡ without number (take k members) ++ without number (m ∷ [])
  without_more members number k m within at =
      ap (without number) (take_more members k m within ∙ ap (λ x. take k members ++ x ∷ []) (sym at))
      ∙ filter-append (λ (x : Membership Q). not (x.number == number)) (take k members) (m ∷ [])

  pub others_more : (members : List (Membership Q)) (number k : ℕ) (m : Membership Q) → k < length members → m ≡ get_or members k m
      → (m.number == number) ≡ false
      → union_of_all (masks_of (without number (take (k + 1) members))) ≡ union_of m.mask.bits (union_of_all (masks_of (without number (take k members))))
  others_more members number k m within at other =
      let alone : without number (m ∷ []) ≡ m ∷ [] = rw other refl in
      ap (λ ms. union_of_all (masks_of ms)) (without_more members number k m within at ∙ ap (λ ms. without number (take k members) ++ ms) alone)
      ∙ ap union_of_all (map-append mask_of (without number (take k members)) (m ∷ []))
      ∙ union_push (masks_of (without number (take k members))) m.mask.bits

  pub others_same : (members : List (Membership Q)) (number k : ℕ) (m : Membership Q) → k < length members → m ≡ get_or members k m
      → (m.number == number) ≡ true
      → union_of_all (masks_of (without number (take (k + 1) members))) ≡ union_of_all (masks_of (without number (take k members)))
  others_same members number k m within at own =
      let none : without number (m ∷ []) ≡ [] = rw own refl in
      ap (λ ms. union_of_all (masks_of ms)) (without_more members number k m within at ∙ ap (λ ms. without number (take k members) ++ ms) none)
      ∙ ap union_of_all (map-append mask_of (without number (take k members)) [])
      ∙ ap union_of_all (append_none (masks_of (without number (take k members))))
    where
      append_none : (xs : List ℕ) → xs ++ [] ≡ xs
      append_none [] = refl
      append_none (x ∷ xs) = ap (λ ys. x ∷ ys) (append_none xs)

  -- one member is replaced by another one
  pub union_instead : (before after : List (Membership Q)) (y : Membership Q)
      → union_of_all (masks_of (before ++ y ∷ after)) ≡ union_of y.mask.bits (union_of_all (masks_of (before ++ after)))
  union_instead before after y =
      ap union_of_all (map-append mask_of before (y ∷ after))
      ∙ union_of_all-more (masks_of before) (masks_of after) y.mask.bits
      ∙ ap (λ ms. union_of y.mask.bits (union_of_all ms)) (sym (map-append mask_of before after))

  others_at : (members : List (Membership Q)) (k : ℕ) (x : Membership Q) → IsDistinct (λ a b. a == b) (map (λ (m : Membership Q). m.number) members)
      → k < length members → x ≡ get_or members k x
      → take k members ++ drop (k + 1) members ≡ without x.number members
  others_at members k x apart within at = removed_is (λ (m : Membership Q). m.number) members k x apart within at

  pub union_at : (members new : List (Membership Q)) (k : ℕ) (x y : Membership Q) → IsDistinct (λ a b. a == b) (map (λ (m : Membership Q). m.number) members)
      → k < length members → x ≡ get_or members k x → new ≡ slice_set members k y
      → union_of_all (masks_of new) ≡ union_of y.mask.bits (union_of_all (masks_of (without x.number members)))
  union_at members new k x y apart within at is =
      ap (λ ms. union_of_all (masks_of ms)) (is ∙ set_split members k y within)
      ∙ union_instead (take k members) (drop (k + 1) members) y
      ∙ ap (λ ms. union_of y.mask.bits (union_of_all (masks_of ms))) (others_at members k x apart within at)

  wanted_in : (before after : List (Membership Q)) (y : Membership Q) → is_wanted (before ++ y ∷ after) y.mask.bits ≡ true
  wanted_in before after y =
      let own = eq_same y.mask.bits y.mask.bits refl in
      list_any-append (λ (m : Membership Q). m.mask.bits == y.mask.bits) before (y ∷ after) ∙ rw own (or_true (is_wanted before y.mask.bits))

-- ---- groups

-- a group has the mask, or the mask is that of the group that is added
has_own : (groups : List GroupRecord) (q own : ℕ) → (has_group groups q || q == own) ≡ true → has_group groups own ≡ true → has_group groups q ≡ true
has_own groups q own either there = by (has_group groups q) refl either
  where
    by : (b : Bool) → has_group groups q ≡ b → (b || q == own) ≡ true → b ≡ true
    by true e h = refl
    by false e h = let same : q ≡ own = grind (arith, h) in absurd (cc)

module _ {Q : Type 0} (ends : Ghosts Q) where
  module _ (shape : ShapeRecord) (old active : ℕ) (members new : List (Membership Q)) (groups : List GroupRecord) (own : ℕ) where
    abbrev test : GroupRecord → Bool
    test g = is_wanted new g.mask

    abbrev kept : List GroupRecord
    kept = filter test groups

    abbrev made : List GroupRecord
    made = map (remade shape active) kept

    module _ (sound : AreGroups shape old members groups) where
      made_each : All (IsGroup shape active) made
      made_each =
          All-map (IsGroup shape active) (remade shape active) kept
          (All-weaker (IsGroup shape old) (λ g. IsGroup shape active (remade shape active g)) (remade_group shape old active) kept
          (All-filter test (IsGroup shape old) groups sound.each))

      made_used : All (λ (g : GroupRecord). is_wanted new g.mask ≡ true) made
      made_used = All-map (λ (g : GroupRecord). is_wanted new g.mask ≡ true) (remade shape active) kept (filter_passes test groups)

      made_apart : AreDistinct (λ (g : GroupRecord). g.mask) made
      made_apart =
          distinct_map (λ (g : GroupRecord). g.mask) (remade shape active) (λ g. refl) kept
          (distinct_filter (λ (g : GroupRecord). g.mask) test groups sound.apart)

      made_has : (q : ℕ) → is_wanted new q ≡ true → has_group groups q ≡ true → has_group made q ≡ true
      made_has q wanted there =
          kept_key (λ (g : GroupRecord). g.mask) (remade shape active) (λ g. refl) kept q
          ∙ kept_wanted ends (λ mask. is_wanted new mask) groups q wanted there

      made_none : has_group groups own ≡ false → has_group made own ≡ false
      made_none none =
          kept_key (λ (g : GroupRecord). g.mask) (remade shape active) (λ g. refl) kept own
          ∙ none_fewer (λ (g : GroupRecord). g.mask) test groups own none

      -- a member's group, if one is added
      added_has : (g : GroupRecord) (q : ℕ) → g.mask ≡ own → is_wanted new q ≡ true → (has_group groups q || q == own) ≡ true
          → has_group (made ++ g ∷ []) q ≡ true
      added_has g q is wanted either = list_any-append (λ (x : GroupRecord). x.mask == q) made (g ∷ []) ∙ by (has_group groups q) refl either
        where
          by : (b : Bool) → has_group groups q ≡ b → (b || q == own) ≡ true → (has_group made q || has_group (g ∷ []) q) ≡ true
          by true e h = let there = made_has q wanted e in rw there refl
          by false e h =
              let same : q ≡ own = grind (arith, h) in
              let here : (g.mask == q) ≡ true = eq_same g.mask q (is ∙ sym same) in
              rw here (or_true (has_group made q))

      pub grouped_remasks : (g : Option GroupRecord) → All (λ (m : Membership Q). (has_group groups m.mask.bits || m.mask.bits == own) ≡ true) new
          → is_wanted new own ≡ true
          → IfSome g (λ x. IsGroup shape active x × (x.mask ≡ own) × (has_group groups own ≡ false)) → IfNone g (has_group groups own ≡ true)
          → AreGroups shape active new (with_group g made)
      grouped_remasks None either wanted some none = record {
        each = made_each;
        there = λ k d within.
            let q = (slice_index_or new k d).mask.bits in
            made_has q (wanted_at ends new k d within) (has_own groups q own (either k d within) none);
        used = made_used;
        apart = made_apart;
      }
      grouped_remasks (Some g) either wanted some none = record {
        each = All-push (IsGroup shape active) made g made_each some.0;
        there = λ k d within.
            let q = (slice_index_or new k d).mask.bits in
            added_has g q some.1 (wanted_at ends new k d within) (either k d within);
        used = All-push (λ (x : GroupRecord). is_wanted new x.mask ≡ true) made g made_used (ap (is_wanted new) some.1 ∙ wanted);
        apart = distinct_push (λ (x : GroupRecord). x.mask) made g made_apart (ap (has_group made) some.1 ∙ made_none some.2);
      }

  -- ---- members

  sound_remasks : (shape : ShapeRecord) (old : Option Mask) (active : Mask) (captures next : ℕ) (before : List (Membership Q)) (x y : Membership Q)
      (after : List (Membership Q)) (groups : List GroupRecord) (g : Option GroupRecord)
      → IsSound ends shape old captures next (before ++ x ∷ after) groups
      → bits_of (Some active) ≡ active_of shape (union_of y.mask.bits (union_of_all (masks_of (before ++ after))))
      → active.bits < 2 ^ count_of shape → y.number ≡ x.number → IsMember ends shape captures next y
      → IfSome g (λ z. IsGroup shape active.bits z × (z.mask ≡ y.mask.bits) × (has_group groups y.mask.bits ≡ false))
      → IfNone g (has_group groups y.mask.bits ≡ true)
      → IsSound ends shape (Some active) captures next (before ++ y ∷ after)
      (with_group g (map (remade shape active.bits) (filter (λ z. is_wanted (before ++ y ∷ after) z.mask) groups)))
  sound_remasks shape old active captures next before x y after groups g sound found low number is some none = record {
    ruled =
        found
        ∙ ap (active_of shape) (sym (union_instead before after y))
        ∙ sym (asked_of ends shape (masks_of (before ++ y ∷ after))
        (nil_map ends (before ++ y ∷ after) ∙ nil_other before after y));
    below = low;
    asked = sym (nil_other before after y);
    few =
        (let few = sound.few in
        let was = length-append before (x ∷ after) in
        let now = length-append before (y ∷ after) in
        omega (arith, few, was, now));
    numbers = subst (IsDistinct (λ a b. a == b)) numbers_same sound.numbers;
    each = all_instead (IsMember ends shape captures next) before after x y sound.each is;
    grouped =
        grouped_remasks shape _ active.bits (before ++ x ∷ after) (before ++ y ∷ after) groups y.mask.bits sound.grouped g either (wanted_in before after y)
        some none;
  }
    where
      numbers_same : map (λ (m : Membership Q). m.number) (before ++ x ∷ after) ≡ map (λ (m : Membership Q). m.number) (before ++ y ∷ after)
      numbers_same =
          map-append (λ (m : Membership Q). m.number) before (x ∷ after)
          ∙ ap (λ (n : ℕ). map (λ (m : Membership Q). m.number) before ++ n ∷ map (λ (m : Membership Q). m.number) after) (sym number)
          ∙ sym (map-append (λ (m : Membership Q). m.number) before (y ∷ after))

      either : All (λ (m : Membership Q). (has_group groups m.mask.bits || m.mask.bits == y.mask.bits) ≡ true) (before ++ y ∷ after)
      either =
          all_instead (λ (m : Membership Q). (has_group groups m.mask.bits || m.mask.bits == y.mask.bits) ≡ true) before after x y
          (All-weaker (λ (m : Membership Q). has_group groups m.mask.bits ≡ true)
          (λ (m : Membership Q). (has_group groups m.mask.bits || m.mask.bits == y.mask.bits) ≡ true) (λ m there. rw there refl) (before ++ x ∷ after)
          sound.grouped.there)
          (let own = eq_same y.mask.bits y.mask.bits refl in rw own (or_true (has_group groups y.mask.bits)))

  -- the member at a place is replaced by another one of its number
  pub sound_remasks_at : (shape : ShapeRecord) (old : Option Mask) (active : Mask) (captures next : ℕ) (members new : List (Membership Q)) (k : ℕ)
      (x y : Membership Q) (groups : List GroupRecord) (g : Option GroupRecord)
      → IsSound ends shape old captures next members groups → k < length members → x ≡ get_or members k x → new ≡ slice_set members k y
      → bits_of (Some active) ≡ active_of shape (union_of y.mask.bits (union_of_all (masks_of (without x.number members))))
      → active.bits < 2 ^ count_of shape → y.number ≡ x.number → IsMember ends shape captures next y
      → IfSome g (λ z. IsGroup shape active.bits z × (z.mask ≡ y.mask.bits) × (has_group groups y.mask.bits ≡ false))
      → IfNone g (has_group groups y.mask.bits ≡ true)
      → IsSound ends shape (Some active) captures next new
      (with_group g (map (remade shape active.bits) (filter (λ z. is_wanted new z.mask) groups)))
  sound_remasks_at shape old active captures next members new k x y groups g sound within at is found low number fits some none =
      let was = subst (λ ms. IsSound ends shape old captures next ms groups) (split_at members k x within at) sound in
      let beside =
      subst (λ ms. bits_of (Some active) ≡ active_of shape (union_of y.mask.bits (union_of_all (masks_of ms))))
      (sym (others_at members k x sound.numbers within at)) found in
      let now : new ≡ take k members ++ y ∷ drop (k + 1) members = is ∙ set_split members k y within in
      subst (λ ms. IsSound ends shape (Some active) captures next ms
      (with_group g (map (remade shape active.bits) (filter (λ z. is_wanted ms z.mask) groups)))) (sym now)
      (sound_remasks shape old active captures next (take k members) x y (drop (k + 1) members) groups g was beside low number fits some none)

-- the element at a place
pub at_itself : {A : Type 0} (xs : List A) (k : ℕ) (d : A) → k < length xs → get_or xs k d ≡ get_or xs k (get_or xs k d)
at_itself [] k d within = absurd (omega arith)
at_itself (x ∷ xs) zero d within = refl
at_itself (x ∷ xs) (suc k) d within = at_itself xs k d (omega arith)

-- the member of a number begins anew, at its place
module _ {Q : Type 0} (ends : Ghosts Q) (shape : ShapeRecord) (old : Option Mask) (captures next : ℕ) (members new : List (Membership Q)) (k number : ℕ)
    (mask : Mask) (tail : Q) (groups : List GroupRecord) (d : Membership Q)
    (sound : IsSound ends shape old captures next members groups) (within : k < length members) (at : (slice_index_or members k d).number ≡ number)
    (is : new ≡ slice_set members k (begun_anew mask captures tail (slice_index_or members k d))) where
  abbrev was : Membership Q
  was = slice_index_or members k d

  abbrev anew : Membership Q
  anew = begun_anew mask captures tail was

  union_is : union_of_all (masks_of new) ≡ union_of mask.bits (union_of_all (masks_of (without number members)))
  union_is =
      union_at members new k was anew sound.numbers within (at_itself members k d within) is
      ∙ ap (λ n. union_of mask.bits (union_of_all (masks_of (without n members)))) at

  -- the groups that are still wanted are within what contains the new union
  pub anew_within : (active : ℕ) → is_within (union_of mask.bits (union_of_all (masks_of (without number members)))) active ≡ true
      → All (λ (g : GroupRecord). is_within g.mask active ≡ true) (filter (λ (g : GroupRecord). is_wanted new g.mask) groups)
  anew_within active h = kept_within ends new groups active (subst (λ u. is_within u active ≡ true) (sym union_is) h)

  pub anew_sound : (active : Mask) (g : Option GroupRecord)
      → bits_of (Some active) ≡ active_of shape (union_of mask.bits (union_of_all (masks_of (without number members))))
      → active.bits < 2 ^ count_of shape → mask.bits < 2 ^ count_of shape → has_data shape mask.bits ≡ true → ends.size tail ≡ scan_size shape mask.bits
      → ends.taken tail + ends.lost tail ≡ 0
      → IfSome g (λ z. IsGroup shape active.bits z × (z.mask ≡ mask.bits) × (has_group groups mask.bits ≡ false)) → IfNone g (has_group groups mask.bits ≡ true)
      → IsSound ends shape (Some active) captures next new
      (with_group g (map (remade shape active.bits) (filter (λ (z : GroupRecord). is_wanted new z.mask) groups)))
  anew_sound active g found low own channel sized fresh some none =
      sound_remasks_at ends shape old active captures next members new k was anew groups g sound within (at_itself members k d within) is
      (found ∙ ap (λ n. active_of shape (union_of mask.bits (union_of_all (masks_of (without n members))))) (sym at)) low refl
      (record { numbered = (sound.each k d within).numbered; below = own; channel = channel; counted = omega (arith, fresh); sized = sized }) some none

  pub anew_members : new ≡ remasked number mask captures tail members
  anew_members =
      is ∙ changed_is (λ (m : Membership Q). m.number) (begun_anew mask captures tail) members k was sound.numbers within (at_itself members k d within)
      ∙ ap (λ n. remasked n mask captures tail members) at
