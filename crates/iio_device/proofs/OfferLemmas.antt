-- What a capture makes of members and groups.
use Rattle.std.proofs.Common.{◌≡◌, ◌==◌, ◌||◌, ℕ, ◌+◌, ◌^◌, ◌<◌, Bool, true, false, List, [], ◌∷◌, ◌++◌, length, map, take, drop, find, slice_index_or, option_map, unwrap_or, Option, Some, None, if◌then◌else◌, ℤ, subst, refl, sym, ap, ◌∙◌, inl, inr, arith}
use Rattle.std.specs.List.{All, AllZip, IsDistinct}
use Rattle.std.specs.Option.{option_map_or}
use Rattle.std.proofs.lemmas.Bool.{cases_Bool}
use Rattle.std.proofs.lemmas.List.Elements.{All-nil, All-cons, All-head, All-tail, All-map, All-weaker, length_all_zip}
use Rattle.std.proofs.Math.Seq.{take-append_seam}
use Rattle.std.proofs.lemmas.List.FromFn.{length-map-range_with_len}
use Rattle.iio_mask.specs.Mask.{is_within, union_of_all}
use Rattle.iio_mask.specs.declared.Mask.{Mask}
use Rattle.iio_mask.proofs.PlaceLemmas.{has-within}
use Rattle.iio_mask.specs.Mask.{matching_mask}
use Rattle.iio_layout.specs.Active.{active_of, data_part, has_data, with_stamp}
use Rattle.iio_layout.proofs.ActiveLemmas.{active_contains, matching_mask_contains}
use Rattle.iio_layout.specs.Layout.{scan_size}
use Rattle.iio_layout.specs.Scan.{scan_of}
use Rattle.iio_layout.specs.Shape.{ShapeRecord, count_of, width_of}
use Rattle.iio_demux.specs.Table.{byte_at, copied, table_of}
use Rattle.iio_demux.proofs.ScanLemmas.{table_scans}
use Rattle.iio_kfifo.specs.declared.tail.Tail.{Ghosts}
use Rattle.iio_device.specs.declared.membership.Membership.{Membership}
use Rattle.iio_device.specs.Groups.{GroupRecord, IsGroup, has_group, laid_out, scan_for, scan_under}
use Rattle.iio_device.specs.Active.{active_for}
use Rattle.iio_device.specs.Members.{WasOffered, is_wanted, mask_of, masks_of}
use Rattle.iio_device.proofs.ApartLemmas.{AreDistinct, distinct_map, found_at, kept_key}
use Rattle.iio_device.proofs.MaskLemmas.{wanted_within, within_trans}
use Rattle.iio_device.proofs.SoundLemmas.{wanted_at}
use Rattle.iio_device.specs.Sound.{IsMember, IsSound, bits_of, is_nil}

-- the active mask contains what is wanted
pub rule_contains : (shape : ShapeRecord) (wanted m : ℕ) → active_of shape wanted ≡ Some m → is_within wanted m ≡ true
rule_contains shape wanted m found = by (matching_mask shape.listed (data_part shape wanted)) refl found
  where
    by : (o : Option ℕ) → matching_mask shape.listed (data_part shape wanted) ≡ o → option_map (with_stamp shape wanted) o ≡ Some m → is_within wanted m ≡ true
    by None e f = absurd (cc)
    by (Some x) e f =
        let is : with_stamp shape wanted x ≡ m = cc in
        subst (λ k. is_within wanted k ≡ true) is (active_contains shape wanted x (matching_mask_contains shape.listed (data_part shape wanted) x e))

-- a group whose scan is laid out keeps its mask
pub laid_mask : (active : ℕ) (union : List ℕ) (g : GroupRecord) → (laid_out active union g).mask ≡ g.mask
laid_mask active union g = elim (cases_Bool (g.mask == active)) [ inl own ↦ rw own refl | inr other ↦ rw other refl ]

-- what the group of a mask that isn't the active one makes of a table's scan
scan_found : (shape : ShapeRecord) (active mask : ℕ) (union : List ℕ) (groups : List GroupRecord) → (mask == active) ≡ false → All (IsGroup shape active) groups
    → has_group groups mask ≡ true
    → scan_under (map (laid_out active union) groups) mask ≡ copied (table_of shape active mask).entries union (scan_size shape mask)
scan_found shape active mask union [] other each there = absurd (cc)
scan_found shape active mask union (g ∷ gs) other each there =
    rw (laid_mask active union g)
    (by (λ h. scan_found shape active mask union gs other (All-tail (IsGroup shape active) g gs each) h) (g.mask == mask) refl there)
  where
    first : IsGroup shape active g
    first = All-head (IsGroup shape active) g gs each

    laid : g.mask ≡ mask → (laid_out active union g).scan ≡ copied (table_of shape active mask).entries union (scan_size shape mask)
    laid same =
        let apart : (g.mask == active) ≡ false = rw same other in
        rw apart (ap (λ t. copied t.entries union t.buffer_size) (first.table ∙ ap (table_of shape active) same))

    by : (has_group gs mask ≡ true
        → scan_under (map (laid_out active union) gs) mask ≡ copied (table_of shape active mask).entries union (scan_size shape mask))
        → (b : Bool) → (g.mask == mask) ≡ b → (b || has_group gs mask) ≡ true
        → option_map_or (λ (x : GroupRecord). x.scan)
        (if b then Some (laid_out active union g) else find (λ (x : GroupRecord). x.mask == mask) (map (laid_out active union) gs)) []
        ≡ copied (table_of shape active mask).entries union (scan_size shape mask)
    by later true e h = let same : g.mask ≡ mask = grind (arith, e) in laid same
    by later false e h = later h

-- a scan has the mask's size, and it is that of the capture
pub scan_found-size : (shape : ShapeRecord) (active mask : ℕ) (union : List ℕ) (groups : List GroupRecord) → All (IsGroup shape active) groups
    → has_group groups mask ≡ true
    → length union ≡ scan_size shape active → length (scan_for active union (map (laid_out active union) groups) mask) ≡ scan_size shape mask
scan_found-size shape active mask union groups each there sized =
    elim (cases_Bool (mask == active)) [
      | inl same ↦ let is : mask ≡ active = grind (arith, same) in rw same (sized ∙ ap (scan_size shape) (sym is))
      | inr other ↦
          rw other (ap length (scan_found shape active mask union groups other each there)
          ∙ length-map-range_with_len (λ j. byte_at (table_of shape active mask).entries union j) 0 (scan_size shape mask))
    ]

pub scan_found-is : (shape : ShapeRecord) (active mask : ℕ) (union : List ℕ) (groups : List GroupRecord) (values : List ℤ) (t : ℤ)
    → All (IsGroup shape active) groups → has_group groups mask ≡ true
    → is_within mask active ≡ true → length values ≡ width_of shape → union ≡ scan_of shape active values t
    → scan_for active union (map (laid_out active union) groups) mask ≡ scan_of shape mask values t
scan_found-is shape active mask union groups values t each there within wide is =
    elim (cases_Bool (mask == active)) [
      | inl same ↦ let own : mask ≡ active = grind (arith, same) in rw same (is ∙ ap (λ m. scan_of shape m values t) (sym own))
      | inr other ↦
          rw other (scan_found shape active mask union groups other each there
          ∙ ap (λ u. copied (table_of shape active mask).entries u (scan_size shape mask)) is
          ∙ table_scans shape active mask values t (has-within mask active within) wide)
    ]

-- the scan of the group at a place
pub scan_at : (groups : List GroupRecord) (place : ℕ) (d : GroupRecord) → AreDistinct (λ (g : GroupRecord). g.mask) groups → place < length groups
    → scan_under groups (slice_index_or groups place d).mask ≡ (slice_index_or groups place d).scan
scan_at groups place d apart within =
    ap (λ g. option_map_or (λ (x : GroupRecord). x.scan) g []) (found_at (λ (g : GroupRecord). g.mask) groups place d apart within)

-- ---- lists that change together

pub zip_all : {A : Type 0} (R : A → A → Type 0) (P P' : A → Type 0) (xs ys : List A) → ((x y : A) → P x → R x y → P' y) → AllZip R xs ys → All P xs → All P' ys
zip_all R P P' [] [] keeps zip all = All-nil P'
zip_all R P P' [] (y ∷ ys) keeps zip all = absurd zip
zip_all R P P' (x ∷ xs) [] keeps zip all = absurd zip
zip_all R P P' (x ∷ xs) (y ∷ ys) keeps zip all =
    All-cons P' y ys (keeps x y (All-head P x xs all) zip.0) (zip_all R P P' xs ys keeps zip.1 (All-tail P x xs all))

pub zip_more : {A : Type 0} (R R' : A → A → Type 0) (P : A → Type 0) (xs ys : List A) → ((x y : A) → P x → R x y → R' x y) → AllZip R xs ys → All P xs
    → AllZip R' xs ys
zip_more R R' P [] [] keeps zip all = tt
zip_more R R' P [] (y ∷ ys) keeps zip all = absurd zip
zip_more R R' P (x ∷ xs) [] keeps zip all = absurd zip
zip_more R R' P (x ∷ xs) (y ∷ ys) keeps zip all = (keeps x y (All-head P x xs all) zip.0, zip_more R R' P xs ys keeps zip.1 (All-tail P x xs all))

pub zip_map : {A B : Type 0} (R : A → A → Type 0) (f : A → B) (xs ys : List A) → ((x y : A) → R x y → f y ≡ f x) → AllZip R xs ys → map f ys ≡ map f xs
zip_map R f [] [] keeps zip = refl
zip_map R f [] (y ∷ ys) keeps zip = absurd zip
zip_map R f (x ∷ xs) [] keeps zip = absurd zip
zip_map R f (x ∷ xs) (y ∷ ys) keeps zip = let head = keeps x y zip.0 in let tail = zip_map R f xs ys keeps zip.1 in rw (head, tail) refl

-- ---- members that keep their masks

module _ {Q : Type 0} (R : Membership Q → Membership Q → Type 0) (same_mask : (a b : Membership Q) → R a b → b.mask.bits ≡ a.mask.bits)
    (same_number : (a b : Membership Q) → R a b → b.number ≡ a.number) where
  kept_masks : (old new : List (Membership Q)) → AllZip R old new → masks_of new ≡ masks_of old
  kept_masks old new zip = zip_map R mask_of old new same_mask zip

  kept_wanted : (old new : List (Membership Q)) (mask : ℕ) → AllZip R old new → is_wanted new mask ≡ is_wanted old mask
  kept_wanted [] [] mask zip = refl
  kept_wanted [] (y ∷ ys) mask zip = absurd zip
  kept_wanted (x ∷ xs) [] mask zip = absurd zip
  kept_wanted (x ∷ xs) (y ∷ ys) mask zip = let head = same_mask x y zip.0 in let tail = kept_wanted xs ys mask zip.1 in rw (head, tail) refl

  kept_nil : (old new : List (Membership Q)) → AllZip R old new → is_nil new ≡ is_nil old
  kept_nil [] [] zip = refl
  kept_nil [] (y ∷ ys) zip = absurd zip
  kept_nil (x ∷ xs) [] zip = absurd zip
  kept_nil (x ∷ xs) (y ∷ ys) zip = refl

  -- they are sound with the same groups, if each is sound by itself
  pub sound_moves : (ends : Ghosts Q) (shape : ShapeRecord) (active : Option Mask) (captures captures' next : ℕ) (old new : List (Membership Q))
      (groups : List GroupRecord)
      → ((a b : Membership Q) → IsMember ends shape captures next a → R a b → IsMember ends shape captures' next b)
      → IsSound ends shape active captures next old groups → AllZip R old new → IsSound ends shape active captures' next new groups
  sound_moves ends shape active captures captures' next old new groups moves sound zip = record {
    below = sound.below;
    ruled = sound.ruled ∙ ap (active_for shape) (sym (kept_masks old new zip));
    asked = sound.asked ∙ sym (kept_nil old new zip);
    few = subst (λ n. n < 2 ^ 32) (length_all_zip R old new zip) sound.few;
    numbers = subst (IsDistinct (λ a b. a == b)) (sym (zip_map R (λ (m : Membership Q). m.number) old new same_number zip)) sound.numbers;
    each = zip_all R (IsMember ends shape captures next) (IsMember ends shape captures' next) old new moves zip sound.each;
    grouped = record {
      each = sound.grouped.each;
      there = zip_all R (λ (m : Membership Q). has_group groups m.mask.bits ≡ true) (λ (m : Membership Q). has_group groups m.mask.bits ≡ true) old new
          (λ a b there r. ap (has_group groups) (same_mask a b r) ∙ there) zip sound.grouped.there;
      used =
          All-weaker (λ (g : GroupRecord). is_wanted old g.mask ≡ true) (λ (g : GroupRecord). is_wanted new g.mask ≡ true)
          (λ g used. kept_wanted old new g.mask zip ∙ used) groups sound.grouped.used;
      apart = sound.grouped.apart;
    };
  }

-- ---- groups whose scans are laid out

laid_group : (shape : ShapeRecord) (active : ℕ) (union : List ℕ) (g : GroupRecord) → IsGroup shape active g → IsGroup shape active (laid_out active union g)
laid_group shape active union g is =
    elim (cases_Bool (g.mask == active)) [
      | inl own ↦ rw own is
      | inr other ↦
          rw other (record {
            table = is.table;
            room = length-map-range_with_len (λ j. byte_at g.table.entries union j) 0 g.table.buffer_size ∙ ap (λ t. t.buffer_size) is.table;
          })
    ]

sound_laid : {Q : Type 0} (ends : Ghosts Q) (shape : ShapeRecord) (active : Option Mask) (captures next : ℕ) (members : List (Membership Q))
    (groups : List GroupRecord) (union : List ℕ)
    → IsSound ends shape active captures next members groups
    → IsSound ends shape active captures next members (map (laid_out (unwrap_or (bits_of active) 0) union) groups)
sound_laid {Q = Q} ends shape active captures next members groups union sound =
    let mask = unwrap_or (bits_of active) 0 in
    record {
      below = sound.below;
      ruled = sound.ruled;
      asked = sound.asked;
      few = sound.few;
      numbers = sound.numbers;
      each = sound.each;
      grouped = record {
        each = All-map (IsGroup shape mask) (laid_out mask union) groups
            (All-weaker (IsGroup shape mask) (λ g. IsGroup shape mask (laid_out mask union g)) (laid_group shape mask union) groups sound.grouped.each);
        there =
            All-weaker (λ (m : Membership Q). has_group groups m.mask.bits ≡ true)
            (λ (m : Membership Q). has_group (map (laid_out mask union) groups) m.mask.bits ≡ true)
            (λ m there. kept_key (λ (g : GroupRecord). g.mask) (laid_out mask union) (laid_mask mask union) groups m.mask.bits ∙ there) members
            sound.grouped.there;
        used = All-map (λ (g : GroupRecord). is_wanted members g.mask ≡ true) (laid_out mask union) groups
            (All-weaker (λ (g : GroupRecord). is_wanted members g.mask ≡ true) (λ (g : GroupRecord). is_wanted members (laid_out mask union g).mask ≡ true)
            (λ g wanted. ap (is_wanted members) (laid_mask mask union g) ∙ wanted) groups sound.grouped.used);
        apart = distinct_map (λ (g : GroupRecord). g.mask) (laid_out mask union) (laid_mask mask union) groups sound.grouped.apart;
      };
    }

-- ---- members that were offered scans

module _ {Q : Type 0} (ends : Ghosts Q) where
  module _ (scans : ℕ → List ℕ) where
    abbrev Moves : Membership Q → Membership Q → Type 0
    Moves a b = WasOffered ends (scans a.mask.bits) a b

    offered_mask : (a b : Membership Q) → Moves a b → b.mask.bits ≡ a.mask.bits
    offered_mask a b r = ap (λ (m : Membership Q). m.mask.bits) r.same

    offered_member : (shape : ShapeRecord) (captures next : ℕ) (a b : Membership Q) → IsMember ends shape captures next a → Moves a b
        → IsMember ends shape (captures + 1) next b
    offered_member shape captures next a b is r =
        let number = ap (λ (m : Membership Q). m.number) r.same in
        let mask = offered_mask a b r in
        let joined = ap (λ (m : Membership Q). m.joined) r.same in
        let low = is.numbered in
        let was = is.counted in
        let one = r.counted in
        record {
          numbered = subst (λ n. n < next) (sym number) low;
          below = subst (λ k. k < 2 ^ count_of shape) (sym mask) is.below;
          channel = ap (has_data shape) mask ∙ is.channel;
          counted = omega (arith, joined, was, one);
          sized = r.sized ∙ is.sized ∙ ap (scan_size shape) (sym mask);
        }

    pub sound_captures : (shape : ShapeRecord) (active : Option Mask) (captures next : ℕ) (old new : List (Membership Q)) (groups : List GroupRecord)
        (union : List ℕ)
        → IsSound ends shape active captures next old groups → AllZip Moves old new
        → IsSound ends shape active (captures + 1) next new (map (laid_out (unwrap_or (bits_of active) 0) union) groups)
    sound_captures shape active captures next old new groups union sound zip =
        sound_laid ends shape active (captures + 1) next new groups union
        (sound_moves Moves offered_mask (λ a b r. ap (λ (m : Membership Q). m.number) r.same) ends shape active captures (captures + 1) next old new
        groups (offered_member shape captures next) sound zip)

  -- each scan that is offered has its queue's size, and no count has reached its end
  pub all_sized : (shape : ShapeRecord) (active : Option Mask) (captures next : ℕ) (members : List (Membership Q)) (groups : List GroupRecord) (union : List ℕ)
      → IsSound ends shape active captures next members groups → length union ≡ scan_size shape (unwrap_or (bits_of active) 0)
      → All (λ (m : Membership Q). length
      (scan_for (unwrap_or (bits_of active) 0) union (map (laid_out (unwrap_or (bits_of active) 0) union) groups) m.mask.bits) ≡ ends.size m.tail) members
  all_sized shape active captures next members groups union sound sized = λ k d within.
      let m = slice_index_or members k d in
      scan_found-size shape (unwrap_or (bits_of active) 0) m.mask.bits union groups sound.grouped.each (sound.grouped.there k d within) sized
      ∙ sym ((sound.each k d within).sized)

  -- each member's mask is within the active one
  pub member_within : (shape : ShapeRecord) (active : Option Mask) (captures next : ℕ) (members : List (Membership Q)) (groups : List GroupRecord)
      → IsSound ends shape active captures next members groups
      → (k : ℕ) (d : Membership Q) → k < length members → is_within (slice_index_or members k d).mask.bits (unwrap_or (bits_of active) 0) ≡ true
  member_within shape active captures next [] groups sound k d within = absurd (omega arith)
  member_within shape None captures next (m ∷ ms) groups sound k d within = let asked = sound.asked in absurd (cc)
  member_within shape (Some a) captures next (m ∷ ms) groups sound k d within =
      let mask = (slice_index_or (m ∷ ms) k d).mask.bits in
      within_trans mask (union_of_all (masks_of (m ∷ ms))) a.bits
      (wanted_within (m ∷ ms) mask (wanted_at ends (m ∷ ms) k d within))
      (rule_contains shape (union_of_all (masks_of (m ∷ ms))) a.bits (sym sound.ruled))

-- ---- the room

-- the first bytes of the room are those that were written to its front
pub room_front : (size len : ℕ) (new old : List ℕ) → length new ≡ len → take size (take len (new ++ drop (length new) old)) ≡ take size new
room_front size len new old same =
    subst (λ n. take size (take n (new ++ drop (length new) old)) ≡ take size new) same (ap (take size) (take-append_seam new (drop (length new) old)))
