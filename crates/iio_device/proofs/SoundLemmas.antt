-- What joins, leaves and captures keep.
use Rattle.std.proofs.Common.{◌≡◌, ◌==◌, ◌||◌, ℕ, zero, suc, slice_index_or, take, drop, IsSome, option_map, ◌+◌, ◌^◌, ◌<◌, Bool, true, false, not, List, [], ◌∷◌, ◌++◌, length, map, filter, Option, Some, None, IfSome, IfNone, get_or, unwrap_or, subst, is_none, if◌then◌else◌, refl, sym, ap, ◌∙◌, arith}
use Rattle.std.proofs.lemmas.Bool.{false≢true}
use Rattle.std.specs.List.{All}
use Rattle.std.proofs.lemmas.List.{length-append, map-append}
use Rattle.std.proofs.lemmas.List.Elements.{All-nil, All-cons, All-head, All-tail, All-map, All-push, All-weaker, All-filter, filter_passes}
use Rattle.std.proofs.lemmas.List.Folds.{list_any-append}
use Rattle.iio_mask.specs.Mask.{is_within, union_of, union_of_all}
use Rattle.iio_mask.specs.declared.Mask.{Mask}
use Rattle.iio_mask.specs.Mask.{matching_mask}
use Rattle.iio_mask.proofs.UnionLemmas.{union_of_all-less}
use Rattle.iio_layout.proofs.ActiveLemmas.{active_fewer}
use Rattle.iio_layout.specs.Active.{active_of, data_part, with_stamp}
use Rattle.iio_layout.specs.Shape.{ShapeRecord, count_of}
use Rattle.iio_demux.specs.Table.{CopyTable}
use Rattle.iio_kfifo.specs.declared.tail.Tail.{Ghosts}
use Rattle.iio_device.specs.declared.membership.Membership.{Membership}
use Rattle.iio_device.specs.Groups.{GroupRecord, IsGroup, has_group, remade}
use Rattle.iio_device.specs.Active.{active_for}
use Rattle.iio_device.specs.Members.{is_live, is_wanted, mask_of, masks_of}
use Rattle.iio_device.specs.Roster.{remade_for, with_group}
use Rattle.iio_device.specs.Sound.{AreGroups, IsMember, IsSound, bits_of, is_nil}
use Rattle.iio_device.proofs.ApartLemmas.{AreDistinct, distinct_filter, distinct_map, distinct_nil, distinct_push, eq_same, kept_key, removed_is}
use Rattle.iio_device.proofs.MaskLemmas.{union_push, wanted_within, within_trans}

or_true : (b : Bool) → (b || true) ≡ true
or_true true = refl
or_true false = refl

-- ---- groups

pub remade_group : (shape : ShapeRecord) (a a' : ℕ) (g : GroupRecord) → IsGroup shape a g → IsGroup shape a' (remade shape a' g)
remade_group shape a a' g is = record { table = refl; room = is.room }

-- tables that were made for a mask are those that would be made for it again
pub same_tables : (shape : ShapeRecord) (active : ℕ) (groups : List GroupRecord) → All (IsGroup shape active) groups → map (remade shape active) groups ≡ groups
same_tables shape active [] all = refl
same_tables shape active (g ∷ gs) all =
    ap (λ (table : CopyTable). record g { table = table } ∷ map (remade shape active) gs) (sym (All-head (IsGroup shape active) g gs all).table)
    ∙ ap (λ (rest : List GroupRecord). g ∷ rest) (same_tables shape active gs (All-tail (IsGroup shape active) g gs all))

pub same_tables_for : (shape : ShapeRecord) (active : Option Mask) (groups : List GroupRecord) → All (IsGroup shape (unwrap_or (bits_of active) 0)) groups
    → groups ≡ remade_for shape active groups
same_tables_for shape None groups all = refl
same_tables_for shape (Some active) groups all = sym (same_tables shape active.bits groups all)

with_group-has : (g : Option GroupRecord) (groups : List GroupRecord) (mask : ℕ) → has_group groups mask ≡ true → has_group (with_group g groups) mask ≡ true
with_group-has None groups mask there = there
with_group-has (Some g) groups mask there = list_any-append (λ x. x.mask == mask) groups (g ∷ []) ∙ rw there refl

-- ---- another member

nil_push : {A : Type 0} (xs : List A) (x : A) → is_nil (xs ++ x ∷ []) ≡ false
nil_push [] x = refl
nil_push (y ∷ ys) x = refl

active_for-push : (shape : ShapeRecord) (masks : List ℕ) (mask : ℕ)
    → active_for shape (masks ++ mask ∷ []) ≡ active_of shape (union_of mask (union_of_all masks))
active_for-push shape masks mask = by masks ∙ ap (active_of shape) (union_push masks mask)
  where
    by : (masks : List ℕ) → active_for shape (masks ++ mask ∷ []) ≡ active_of shape (union_of_all (masks ++ mask ∷ []))
    by [] = refl
    by (m ∷ ms) = refl

-- a list as the element at a place, and those before and after it
pub split_at : {A : Type 0} (xs : List A) (k : ℕ) (x : A) → k < length xs → x ≡ get_or xs k x → xs ≡ take k xs ++ x ∷ drop (k + 1) xs
split_at [] k x within at = absurd (omega arith)
split_at (y ∷ ys) zero x within at = ap (λ z. z ∷ ys) (sym at)
split_at (y ∷ ys) (suc k) x within at =
    let more : suc k + 1 ≡ suc (k + 1) = omega arith in
    subst (λ n. y ∷ ys ≡ y ∷ take k ys ++ x ∷ drop n (y ∷ ys)) (sym more) (ap (λ zs. y ∷ zs) (split_at ys k x (omega arith) at))

pub nil_other : {A : Type 0} (before after : List A) (x : A) → is_nil (before ++ x ∷ after) ≡ false
nil_other [] after x = refl
nil_other (y ∷ ys) after x = refl

pub all_without : {A : Type 0} (P : A → Type 0) (before after : List A) (x : A) → All P (before ++ x ∷ after) → All P (before ++ after)
all_without P [] after x all = All-tail P x after all
all_without P (y ∷ ys) after x all =
    All-cons P y (ys ++ after) (All-head P y (ys ++ x ∷ after) all) (all_without P ys after x (All-tail P y (ys ++ x ∷ after) all))

module _ {Q : Type 0} (ends : Ghosts Q) where
  pub members_below : (shape : ShapeRecord) (captures next : ℕ) (members : List (Membership Q)) → All (IsMember ends shape captures next) members
      → All (λ (m : Membership Q). m.mask.bits < 2 ^ count_of shape) members
  members_below shape captures next members all =
      All-weaker (IsMember ends shape captures next) (λ (m : Membership Q). m.mask.bits < 2 ^ count_of shape) (λ m is. is.below) members all

  pub sound_empty : (shape : ShapeRecord) → IsSound ends shape None 0 0 [] []
  sound_empty shape = record {
    ruled = refl;
    below = tt;
    asked = refl;
    few = omega arith;
    numbers = distinct_nil (λ (x : Membership Q). x.number);
    each = All-nil (IsMember ends shape 0 0);
    grouped = record {
      each = All-nil (IsGroup shape 0);
      there = All-nil (λ (m : Membership Q). has_group [] m.mask.bits ≡ true);
      used = All-nil (λ (g : GroupRecord). is_wanted {Q = Q} [] g.mask ≡ true);
      apart = distinct_nil (λ (g : GroupRecord). g.mask);
    };
  }

  -- each group's mask is within what contains the union
  pub groups_within : (shape : ShapeRecord) (old active : ℕ) (members : List (Membership Q)) (groups : List GroupRecord)
      → AreGroups shape old members groups
      → is_within (union_of_all (masks_of members)) active ≡ true → All (λ (g : GroupRecord). is_within g.mask active ≡ true) groups
  groups_within shape old active members groups sound within =
      All-weaker (λ (g : GroupRecord). is_wanted members g.mask ≡ true) (λ (g : GroupRecord). is_within g.mask active ≡ true)
      (λ g used. within_trans g.mask (union_of_all (masks_of members)) active (wanted_within members g.mask used) within) groups sound.used

  wanted_push : (members : List (Membership Q)) (m : Membership Q) (mask : ℕ) → is_wanted members mask ≡ true → is_wanted (members ++ m ∷ []) mask ≡ true
  wanted_push members m mask wanted = list_any-append (λ (x : Membership Q). x.mask.bits == mask) members (m ∷ []) ∙ rw wanted refl

  wanted_last : (members : List (Membership Q)) (m : Membership Q) → is_wanted (members ++ m ∷ []) m.mask.bits ≡ true
  wanted_last members m =
      let own = eq_same m.mask.bits m.mask.bits refl in
      list_any-append (λ (x : Membership Q). x.mask.bits == m.mask.bits) members (m ∷ []) ∙ rw own (or_true (is_wanted members m.mask.bits))

  pub wanted_at : (members : List (Membership Q)) (k : ℕ) (d : Membership Q) → k < length members
      → is_wanted members (slice_index_or members k d).mask.bits ≡ true
  wanted_at [] k d within = absurd (omega arith)
  wanted_at (m ∷ ms) zero d within = let own = eq_same m.mask.bits m.mask.bits refl in rw own refl
  wanted_at (m ∷ ms) (suc k) d within = let later = wanted_at ms k d (omega arith) in rw later (or_true (m.mask.bits == (slice_index_or ms k d).mask.bits))

  later_member : (shape : ShapeRecord) (captures next : ℕ) (m : Membership Q) → IsMember ends shape captures next m
      → IsMember ends shape captures (next + 1) m
  later_member shape captures next m is =
      let low = is.numbered in record { numbered = omega (arith, low); below = is.below; channel = is.channel; counted = is.counted; sized = is.sized }

  -- no member has the next number
  next_free : (shape : ShapeRecord) (captures next : ℕ) (members : List (Membership Q)) → All (IsMember ends shape captures next) members
      → is_live next members ≡ false
  next_free shape captures next [] all = refl
  next_free shape captures next (m ∷ ms) all =
      let low = (All-head (IsMember ends shape captures next) m ms all).numbered in
      let first : (m.number == next) ≡ false = grind (arith, low) in
      let rest = next_free shape captures next ms (All-tail (IsMember ends shape captures next) m ms all) in
      rw (first, rest) refl

  grouped_joins : (shape : ShapeRecord) (old active : ℕ) (members : List (Membership Q)) (groups : List GroupRecord) (m : Membership Q) (g : Option GroupRecord)
      → AreGroups shape old members groups
      → IfSome g (λ x. IsGroup shape active x × (x.mask ≡ m.mask.bits) × (has_group groups m.mask.bits ≡ false))
      → IfNone g (has_group groups m.mask.bits ≡ true)
      → AreGroups shape active (members ++ m ∷ []) (with_group g (map (remade shape active) groups))
  grouped_joins shape old active members groups m None sound some none = record {
    each =
        All-map (IsGroup shape active) (remade shape active) groups
        (All-weaker (IsGroup shape old) (λ g. IsGroup shape active (remade shape active g)) (remade_group shape old active) groups sound.each);
    there = All-push (λ (x : Membership Q). has_group (map (remade shape active) groups) x.mask.bits ≡ true) members m
        (All-weaker (λ (x : Membership Q). has_group groups x.mask.bits ≡ true)
        (λ (x : Membership Q). has_group (map (remade shape active) groups) x.mask.bits ≡ true)
        (λ x h. kept_key (λ (g : GroupRecord). g.mask) (remade shape active) (λ g. refl) groups x.mask.bits ∙ h) members sound.there)
        (kept_key (λ (g : GroupRecord). g.mask) (remade shape active) (λ g. refl) groups m.mask.bits ∙ none);
    used = All-map (λ (x : GroupRecord). is_wanted (members ++ m ∷ []) x.mask ≡ true) (remade shape active) groups
        (All-weaker (λ (x : GroupRecord). is_wanted members x.mask ≡ true) (λ (x : GroupRecord). is_wanted (members ++ m ∷ []) x.mask ≡ true)
        (λ x h. wanted_push members m x.mask h) groups sound.used);
    apart = distinct_map (λ (g : GroupRecord). g.mask) (remade shape active) (λ g. refl) groups sound.apart;
  }
  grouped_joins shape old active members groups m (Some g) sound some none =
      let new = map (remade shape active) groups in
      let own : has_group (new ++ g ∷ []) m.mask.bits ≡ true =
      (let same = eq_same g.mask m.mask.bits some.1 in list_any-append (λ x. x.mask == m.mask.bits) new (g ∷ [])
      ∙ rw same (or_true (has_group new m.mask.bits))) in
      record {
        each = All-push (IsGroup shape active) new g
            (All-map (IsGroup shape active) (remade shape active) groups
            (All-weaker (IsGroup shape old) (λ g. IsGroup shape active (remade shape active g)) (remade_group shape old active) groups sound.each))
            some.0;
        there = All-push (λ (x : Membership Q). has_group (new ++ g ∷ []) x.mask.bits ≡ true) members m
            (All-weaker (λ (x : Membership Q). has_group groups x.mask.bits ≡ true) (λ (x : Membership Q). has_group (new ++ g ∷ []) x.mask.bits ≡ true)
            (λ x h. with_group-has (Some g) new x.mask.bits (kept_key (λ (g : GroupRecord). g.mask) (remade shape active) (λ g. refl) groups x.mask.bits ∙ h))
            members sound.there)
            own;
        used = All-push (λ (x : GroupRecord). is_wanted (members ++ m ∷ []) x.mask ≡ true) new g
            (All-map (λ (x : GroupRecord). is_wanted (members ++ m ∷ []) x.mask ≡ true) (remade shape active) groups
            (All-weaker (λ (x : GroupRecord). is_wanted members x.mask ≡ true) (λ (x : GroupRecord). is_wanted (members ++ m ∷ []) x.mask ≡ true)
            (λ x h. wanted_push members m x.mask h) groups sound.used))
            (subst (λ k. is_wanted (members ++ m ∷ []) k ≡ true) (sym some.1) (wanted_last members m));
        apart =
            distinct_push (λ (g : GroupRecord). g.mask) new g (distinct_map (λ (g : GroupRecord). g.mask) (remade shape active) (λ g. refl) groups sound.apart)
            (kept_key (λ (g : GroupRecord). g.mask) (remade shape active) (λ g. refl) groups g.mask ∙ ap (has_group groups) some.1 ∙ some.2);
      }

  pub sound_joins : (shape : ShapeRecord) (old : Option Mask) (active : Mask) (captures next : ℕ) (members : List (Membership Q)) (groups : List GroupRecord)
      (m : Membership Q) (g : Option GroupRecord)
      → IsSound ends shape old captures next members groups
      → bits_of (Some active) ≡ active_of shape (union_of m.mask.bits (union_of_all (masks_of members)))
      → active.bits < 2 ^ count_of shape → length (members ++ m ∷ []) < 2 ^ 32 → m.number ≡ next → IsMember ends shape captures (next + 1) m
      → IfSome g (λ x. IsGroup shape active.bits x × (x.mask ≡ m.mask.bits) × (has_group groups m.mask.bits ≡ false))
      → IfNone g (has_group groups m.mask.bits ≡ true)
      → IsSound ends shape (Some active) captures (next + 1) (members ++ m ∷ []) (with_group g (map (remade shape active.bits) groups))
  sound_joins shape old active captures next members groups m g sound found low few number is some none = record {
    below = low;
    few = few;
    numbers =
        distinct_push (λ (x : Membership Q). x.number) members m sound.numbers
        (ap (λ n. is_live n members) number ∙ next_free shape captures next members sound.each);
    ruled = found ∙ sym (active_for-push shape (masks_of members) m.mask.bits) ∙ ap (active_for shape) (sym (map-append mask_of members (m ∷ [])));
    asked = sym (nil_push members m);
    each = All-push (IsMember ends shape captures (next + 1)) members m
        (All-weaker (IsMember ends shape captures next) (IsMember ends shape captures (next + 1)) (later_member shape captures next)
        members sound.each) is;
    grouped = grouped_joins shape _ active.bits members groups m g sound.grouped some none;
  }

  -- ---- a member leaves

  -- a group that is wanted stays
  pub kept_wanted : (test : ℕ → Bool) (groups : List GroupRecord) (mask : ℕ) → test mask ≡ true → has_group groups mask ≡ true
      → has_group (filter (λ g. test g.mask) groups) mask ≡ true
  kept_wanted test [] mask is there = there
  kept_wanted test (g ∷ gs) mask is there = by (λ h. kept_wanted test gs mask is h) (test g.mask) refl (g.mask == mask) refl there
    where
      by : (has_group gs mask ≡ true → has_group (filter (λ x. test x.mask) gs) mask ≡ true) → (b : Bool) → test g.mask ≡ b → (e : Bool) → (g.mask == mask) ≡ e
          → (e || has_group gs mask) ≡ true
          → has_group (if b then g ∷ filter (λ x. test x.mask) gs else filter (λ x. test x.mask) gs) mask ≡ true
      by later true tb true te h = rw te refl
      by later true tb false te h = rw te (later h)
      by later false tb true te h = let same : g.mask ≡ mask = grind (arith, te) in absurd (false≢true (sym tb ∙ ap test same ∙ is))
      by later false tb false te h = later h

  grouped_leaves : (shape : ShapeRecord) (old : ℕ) (active : Option Mask) (members : List (Membership Q)) (rest : List (Membership Q))
      (groups : List GroupRecord)
      → AreGroups shape old members groups → All (λ (m : Membership Q). has_group groups m.mask.bits ≡ true) rest → is_none active ≡ is_nil rest
      → AreGroups shape (unwrap_or (bits_of active) 0) rest (remade_for shape active (filter (λ g. is_wanted rest g.mask) groups))
  grouped_leaves shape old None members [] groups sound there asked = record {
    each = subst (λ gs. All (IsGroup shape 0) gs) (sym (none_left groups)) (All-nil (IsGroup shape 0));
    there = All-nil (λ (m : Membership Q). has_group (filter (λ g. false) groups) m.mask.bits ≡ true);
    used = subst (λ gs. All (λ (g : GroupRecord). false ≡ true) gs) (sym (none_left groups)) (All-nil (λ (g : GroupRecord). false ≡ true));
    apart = subst (AreDistinct (λ (g : GroupRecord). g.mask)) (sym (none_left groups)) (distinct_nil (λ (g : GroupRecord). g.mask));
  }
    where
      none_left : (groups : List GroupRecord) → filter (λ (g : GroupRecord). false) groups ≡ []
      none_left [] = refl
      none_left (g ∷ gs) = none_left gs
  grouped_leaves shape old None members (m ∷ ms) groups sound there asked = absurd (cc)
  grouped_leaves shape old (Some active) members rest groups sound there asked =
      let test : GroupRecord → Bool = λ g. is_wanted rest g.mask in
      record {
        each = All-map (IsGroup shape active.bits) (remade shape active.bits) (filter test groups)
            (All-weaker (IsGroup shape old) (λ g. IsGroup shape active.bits (remade shape active.bits g)) (remade_group shape old active.bits)
            (filter test groups) (All-filter test (IsGroup shape old) groups sound.each));
        there = λ k d within.
            kept_key (λ (g : GroupRecord). g.mask) (remade shape active.bits) (λ g. refl) (filter test groups) (slice_index_or rest k d).mask.bits
            ∙ kept_wanted (λ mask. is_wanted rest mask) groups (slice_index_or rest k d).mask.bits (wanted_at rest k d within) (there k d within);
        used = All-map (λ (g : GroupRecord). is_wanted rest g.mask ≡ true) (remade shape active.bits) (filter test groups) (filter_passes test groups);
        apart =
            distinct_map (λ (g : GroupRecord). g.mask) (remade shape active.bits) (λ g. refl) (filter test groups)
            (distinct_filter (λ (g : GroupRecord). g.mask) test groups sound.apart);
      }

  pub sound_leaves : (shape : ShapeRecord) (old active : Option Mask) (captures next : ℕ) (before : List (Membership Q)) (m : Membership Q)
      (after : List (Membership Q)) (groups : List GroupRecord)
      → IsSound ends shape old captures next (before ++ m ∷ after) groups
      → bits_of active ≡ active_for shape (masks_of (before ++ after))
      → IfSome active (λ mask. mask.bits < 2 ^ count_of shape) → is_none active ≡ is_nil (before ++ after)
      → AreDistinct (λ (x : Membership Q). x.number) (before ++ after)
      → IsSound ends shape active captures next (before ++ after) (remade_for shape active (filter (λ g. is_wanted (before ++ after) g.mask) groups))
  sound_leaves shape old active captures next before m after groups sound ruled low asked numbers = record {
    numbers = numbers;
    below = low;
    ruled = ruled;
    asked = asked;
    few = few_left;
    each = all_without (IsMember ends shape captures next) before after m sound.each;
    grouped = grouped_leaves shape _ active (before ++ m ∷ after) (before ++ after) groups sound.grouped
        (all_without (λ (x : Membership Q). has_group groups x.mask.bits ≡ true) before after m sound.grouped.there) asked;
  }
    where
      few_left : length (before ++ after) < 2 ^ 32
      few_left =
          let few = sound.few in
          let was = length-append before (m ∷ after) in
          let is = length-append before after in
          omega (arith, few, was, is)

  -- if there was an active mask, there is one for the members that stay
  fewer_asked : (shape : ShapeRecord) (less wanted : ℕ) → is_within less wanted ≡ true → (o : Option ℕ)
      → matching_mask shape.listed (data_part shape wanted) ≡ o
      → IsSome (option_map (with_stamp shape wanted) o) → IsSome (active_of shape less)
  fewer_asked shape less wanted within None e some = absurd (cc)
  fewer_asked shape less wanted within (Some m) e some = active_fewer shape less wanted m within e

  some_bits : (a : Option Mask) → is_none a ≡ false → IsSome (bits_of a)
  some_bits None e = absurd (cc)
  some_bits (Some m) e = refl

  none_bits : (a : Option Mask) → IsSome (bits_of a) → is_none a ≡ false
  none_bits None e = absurd (cc)
  none_bits (Some m) e = refl

  empty_bits : (a : Option Mask) → bits_of a ≡ None → is_none a ≡ true
  empty_bits None e = refl
  empty_bits (Some m) e = absurd (cc)

  pub asked_of : (shape : ShapeRecord) (masks : List ℕ) → is_nil masks ≡ false → active_for shape masks ≡ active_of shape (union_of_all masks)
  asked_of shape [] e = absurd (cc)
  asked_of shape (m ∷ ms) e = refl

  pub nil_map : (members : List (Membership Q)) → is_nil (masks_of members) ≡ is_nil members
  nil_map [] = refl
  nil_map (m ∷ ms) = refl

  pub still_asked : (shape : ShapeRecord) (old active : Option Mask) (captures next : ℕ) (before : List (Membership Q)) (m : Membership Q)
      (after : List (Membership Q)) (groups : List GroupRecord)
      → IsSound ends shape old captures next (before ++ m ∷ after) groups
      → bits_of active ≡ active_for shape (masks_of (before ++ after)) → is_none active ≡ is_nil (before ++ after)
  still_asked shape old active captures next before m after groups sound ruled = by (before ++ after) refl ruled
    where
      some : IsSome (active_of shape (union_of_all (masks_of (before ++ m ∷ after))))
      some =
          subst IsSome (sound.ruled ∙ asked_of shape (masks_of (before ++ m ∷ after)) (nil_map (before ++ m ∷ after) ∙ nil_other before after m))
          (some_bits old (sound.asked ∙ nil_other before after m))

      within : is_within (union_of_all (masks_of (before ++ after))) (union_of_all (masks_of (before ++ m ∷ after))) ≡ true
      within =
          subst (λ x. is_within (union_of_all x) (union_of_all (masks_of (before ++ m ∷ after))) ≡ true) (sym (map-append mask_of before after))
          (subst (λ x. is_within (union_of_all (masks_of before ++ masks_of after)) (union_of_all x) ≡ true) (sym (map-append mask_of before (m ∷ after)))
          (union_of_all-less (masks_of before) (masks_of after) m.mask.bits))

      by : (rest : List (Membership Q)) → rest ≡ before ++ after → bits_of active ≡ active_for shape (masks_of rest) → is_none active ≡ is_nil rest
      by [] e r = empty_bits active r
      by (x ∷ xs) e r =
          none_bits active
          (subst IsSome (sym r)
          (subst (λ ms. IsSome (active_of shape (union_of_all (masks_of ms)))) (sym e)
          (fewer_asked shape (union_of_all (masks_of (before ++ after))) (union_of_all (masks_of (before ++ m ∷ after))) within _ refl some)))

  pub kept_within : (members : List (Membership Q)) (groups : List GroupRecord) (active : ℕ) → is_within (union_of_all (masks_of members)) active ≡ true
      → All (λ (g : GroupRecord). is_within g.mask active ≡ true) (filter (λ (g : GroupRecord). is_wanted members g.mask) groups)
  kept_within members groups active within =
      All-weaker (λ (g : GroupRecord). is_wanted members g.mask ≡ true) (λ (g : GroupRecord). is_within g.mask active ≡ true)
      (λ g used. within_trans g.mask (union_of_all (masks_of members)) active (wanted_within members g.mask used) within)
      (filter (λ (g : GroupRecord). is_wanted members g.mask) groups) (filter_passes (λ (g : GroupRecord). is_wanted members g.mask) groups)

  pub sound_leaves_at : (shape : ShapeRecord) (old active : Option Mask) (captures next : ℕ) (members rest : List (Membership Q)) (k : ℕ) (m : Membership Q)
      (groups : List GroupRecord)
      → IsSound ends shape old captures next members groups → k < length members → m ≡ get_or members k m
      → rest ≡ take k members ++ drop (k + 1) members
      → bits_of active ≡ active_for shape (masks_of rest) → IfSome active (λ mask. mask.bits < 2 ^ count_of shape)
      → IsSound ends shape active captures next rest (remade_for shape active (filter (λ g. is_wanted rest g.mask) groups))
  sound_leaves_at shape old active captures next members rest k m groups sound within at is ruled low =
      let was = subst (λ ms. IsSound ends shape old captures next ms groups) (split_at members k m within at) sound in
      let now = subst (λ ms. bits_of active ≡ active_for shape (masks_of ms)) is ruled in
      subst (λ ms. IsSound ends shape active captures next ms (remade_for shape active (filter (λ g. is_wanted ms g.mask) groups))) (sym is)
      (sound_leaves shape old active captures next (take k members) m (drop (k + 1) members) groups was now low
      (still_asked shape old active captures next (take k members) m (drop (k + 1) members) groups was now)
      (subst (AreDistinct (λ (x : Membership Q). x.number)) (sym (removed_is (λ (x : Membership Q). x.number) members k m sound.numbers within at))
      (distinct_filter (λ (x : Membership Q). x.number) (λ x. not (x.number == m.number)) members sound.numbers)))
