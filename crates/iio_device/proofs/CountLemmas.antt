-- The number of groups.
use Rattle.std.proofs.Common.{◌≡◌, ◌==◌, ◌||◌, ℕ, ◌^◌, ◌<◌, Bool, true, false, List, [], ◌∷◌, length, map, subst, refl, sym, ◌∙◌, arith}
use Rattle.std.specs.List.{All}
use Rattle.std.specs.Set.{is_member}
use Rattle.std.proofs.lemmas.Cmp.{nat_eq_equiv}
use Rattle.std.proofs.lemmas.List.{length-map}
use Rattle.std.proofs.lemmas.List.Elements.{All-head, All-tail}
use Rattle.std.proofs.lemmas.Map.Made.{distinct_count-le, length-from_keys}
use Rattle.iio_layout.specs.Shape.{ShapeRecord}
use Rattle.iio_device.specs.declared.membership.Membership.{Membership}
use Rattle.iio_device.specs.Groups.{GroupRecord, has_group}
use Rattle.iio_device.specs.Members.{is_wanted, mask_count, mask_of, masks_of}
use Rattle.iio_device.specs.Sound.{AreGroups}
use Rattle.iio_device.proofs.ApartLemmas.{eq_flips}

both_ways : (a b : Bool) → (a ≡ true → b ≡ true) → (b ≡ true → a ≡ true) → a ≡ b
both_ways true b there back = sym (there refl)
both_ways false true there back = back refl
both_ways false false there back = refl

group_member : (groups : List GroupRecord) (q : ℕ) → is_member (λ (a b : ℕ). a == b) (map (λ (g : GroupRecord). g.mask) groups) q ≡ has_group groups q
group_member [] q = refl
group_member (g ∷ gs) q = rw (eq_flips q g.mask, group_member gs q) refl

module _ {Q : Type 0} where
  mask_member : (members : List (Membership Q)) (q : ℕ) → is_member (λ (a b : ℕ). a == b) (masks_of members) q ≡ is_wanted members q
  mask_member [] q = refl
  mask_member (m ∷ ms) q = rw (eq_flips q m.mask.bits, mask_member ms q) refl

  has_wanted : (groups : List GroupRecord) (members : List (Membership Q)) (q : ℕ) → All (λ (g : GroupRecord). is_wanted members g.mask ≡ true) groups
      → has_group groups q ≡ true → is_wanted members q ≡ true
  has_wanted [] members q used there = absurd (cc)
  has_wanted (g ∷ gs) members q used there =
      by (λ h. has_wanted gs members q (All-tail (λ (x : GroupRecord). is_wanted members x.mask ≡ true) g gs used) h) (g.mask == q) refl there
    where
      by : (has_group gs q ≡ true → is_wanted members q ≡ true) → (b : Bool) → (g.mask == q) ≡ b → (b || has_group gs q) ≡ true → is_wanted members q ≡ true
      by later true e h =
          let same : g.mask ≡ q = grind (arith, e) in
          subst (λ k. is_wanted members k ≡ true) same (All-head (λ (x : GroupRecord). is_wanted members x.mask ≡ true) g gs used)
      by later false e h = later h

  wanted_has : (groups : List GroupRecord) (members : List (Membership Q)) (q : ℕ) → All (λ (m : Membership Q). has_group groups m.mask.bits ≡ true) members
      → is_wanted members q ≡ true → has_group groups q ≡ true
  wanted_has groups [] q there wanted = absurd (cc)
  wanted_has groups (m ∷ ms) q there wanted =
      by (λ h. wanted_has groups ms q (All-tail (λ (x : Membership Q). has_group groups x.mask.bits ≡ true) m ms there) h) (m.mask.bits == q) refl wanted
    where
      by : (is_wanted ms q ≡ true → has_group groups q ≡ true) → (b : Bool) → (m.mask.bits == q) ≡ b → (b || is_wanted ms q) ≡ true → has_group groups q ≡ true
      by later true e h =
          let same : m.mask.bits ≡ q = grind (arith, e) in
          subst (λ k. has_group groups k ≡ true) same (All-head (λ (x : Membership Q). has_group groups x.mask.bits ≡ true) m ms there)
      by later false e h = later h

  -- there are as many groups as masks
  pub group_count : (shape : ShapeRecord) (active : ℕ) (members : List (Membership Q)) (groups : List GroupRecord)
      → AreGroups shape active members groups
      → length groups ≡ mask_count members
  group_count shape active members groups sound =
      sym (length-map groups (λ (g : GroupRecord). g.mask))
      ∙ length-from_keys nat_eq_equiv (map (λ (g : GroupRecord). g.mask) groups) (masks_of members) sound.apart
      (λ q. group_member groups q
      ∙ both_ways (has_group groups q) (is_wanted members q) (has_wanted groups members q sound.used) (wanted_has groups members q sound.there)
      ∙ sym (mask_member members q))

  pub group_few : (shape : ShapeRecord) (active : ℕ) (members : List (Membership Q)) (groups : List GroupRecord)
      → AreGroups shape active members groups
      → length members < 2 ^ 32 → length groups < 2 ^ 32
  group_few shape active members groups sound few =
      let count = group_count shape active members groups sound in
      let least = distinct_count-le (λ (a b : ℕ). a == b) (masks_of members) in
      let all = length-map members mask_of in
      omega (arith, count, least, all, few)
