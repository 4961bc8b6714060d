-- What the union of the members' masks tells, and which groups stay wanted when a mask goes.
use Rattle.std.proofs.Common.{◌≡◌, ◌==◌, ◌||◌, ℕ, ◌+◌, ◌<◌, Bool, true, false, not, List, [], ◌∷◌, ◌++◌, length, filter, take, drop, get_or, slice_set, Option, Some, None, IfSome, subst, refl, sym, ap, ◌∙◌, arith}
use Rattle.std.specs.List.{All, AllZip}
use Rattle.std.proofs.lemmas.List.{map-append}
use Rattle.std.proofs.lemmas.List.Elements.{All-head, All-tail, All-weaker}
use Rattle.std.proofs.lemmas.List.Folds.{list_any-append}
use Rattle.iio_mask.specs.declared.Mask.{Mask}
use Rattle.iio_mask.specs.Mask.{has, is_within, union_of, union_of_all}
use Rattle.iio_mask.proofs.PlaceLemmas.{has-or, has-within}
use Rattle.iio_mask.proofs.UnionLemmas.{same_from_has, within_first}
use Rattle.iio_layout.specs.Active.{active_of}
use Rattle.iio_layout.specs.Shape.{ShapeRecord}
use Rattle.iio_kfifo.specs.declared.tail.Tail.{Ghosts}
use Rattle.iio_device.specs.declared.membership.Membership.{Membership}
use Rattle.iio_device.specs.Groups.{GroupRecord}
use Rattle.iio_device.specs.Active.{active_for}
use Rattle.iio_device.specs.Members.{is_wanted, mask_of, masks_of}
use Rattle.iio_device.specs.Roster.{remade_for}
use Rattle.iio_device.specs.Sound.{IsSound, bits_of, is_nil}
use Rattle.iio_device.proofs.ApartLemmas.{eq_same}
use Rattle.iio_device.proofs.MaskLemmas.{union_push, wanted_within, within_trans}
use Rattle.iio_device.proofs.OfferLemmas.{rule_contains, zip_map}
use Rattle.iio_device.proofs.RemaskLemmas.{union_instead}
use Rattle.iio_device.proofs.SoundLemmas.{all_without, asked_of, nil_map, same_tables_for, sound_leaves_at, split_at}
use Rattle.iio_device.proofs.TakeLemmas.{set_split}

-- ---- unions

-- a mask within a union adds nothing to it
pub union_within : (a b : ℕ) → is_within a b ≡ true → union_of a b ≡ b
union_within a b within = same_from_has (union_of a b) b (λ c. has-or a b c ∙ by (has a c) (has b c) (has-within a b within c))
  where
    by : (p q : Bool) → (p ≡ true → q ≡ true) → (p || q) ≡ q
    by true q more = sym (more refl)
    by false q more = refl

module _ {Q : Type 0} where
  -- another member
  pub push_union : (members : List (Membership Q)) (m : Membership Q)
      → union_of m.mask.bits (union_of_all (masks_of members)) ≡ union_of_all (masks_of (members ++ m ∷ []))
  push_union members m = sym (ap union_of_all (map-append mask_of members (m ∷ [])) ∙ union_push (masks_of members) m.mask.bits)

  -- members that keep their masks keep the union
  pub zip_union : (R : Membership Q → Membership Q → Type 0) (old new : List (Membership Q)) → ((a b : Membership Q) → R a b → b.mask.bits ≡ a.mask.bits)
      → AllZip R old new
      → union_of_all (masks_of old) ≡ union_of_all (masks_of new)
  zip_union R old new keeps zip = ap union_of_all (sym (zip_map R mask_of old new keeps zip))

  pub set_union : (members new : List (Membership Q)) (k : ℕ) (x y : Membership Q) → k < length members → x ≡ get_or members k x → new ≡ slice_set members k y
      → y.mask.bits ≡ x.mask.bits
      → union_of_all (masks_of members) ≡ union_of_all (masks_of new)
  set_union members new k x y within at is same =
      ap (λ ms. union_of_all (masks_of ms)) (split_at members k x within at)
      ∙ union_instead (take k members) (drop (k + 1) members) x
      ∙ ap (λ q. union_of q (union_of_all (masks_of (take k members ++ drop (k + 1) members)))) (sym same)
      ∙ sym (ap (λ ms. union_of_all (masks_of ms)) (is ∙ set_split members k y within) ∙ union_instead (take k members) (drop (k + 1) members) y)

-- ---- groups

-- tests that agree on each group keep the same groups
kept_same : (test other : GroupRecord → Bool) (groups : List GroupRecord) → All (λ g. test g ≡ other g) groups → filter test groups ≡ filter other groups
kept_same test other [] all = refl
kept_same test other (g ∷ gs) all =
    let first : test g ≡ other g = All-head (λ x. test x ≡ other x) g gs all in
    let rest : filter test gs ≡ filter other gs = kept_same test other gs (All-tail (λ x. test x ≡ other x) g gs all) in
    rw (first, rest) refl

kept_all : (test : GroupRecord → Bool) (groups : List GroupRecord) → All (λ g. test g ≡ true) groups → filter test groups ≡ groups
kept_all test [] all = refl
kept_all test (g ∷ gs) all =
    let first : test g ≡ true = All-head (λ x. test x ≡ true) g gs all in
    rw first (ap (λ (rest : List GroupRecord). g ∷ rest) (kept_all test gs (All-tail (λ x. test x ≡ true) g gs all)))

-- if each group except that of one mask is wanted, and that one isn't: the groups without it are those that are wanted
pub dropped_is : (wanted : ℕ → Bool) (gone : ℕ) (groups : List GroupRecord) → All (λ (g : GroupRecord). (wanted g.mask || g.mask == gone) ≡ true) groups
    → wanted gone ≡ false
    → filter (λ (g : GroupRecord). not (g.mask == gone)) groups ≡ filter (λ (g : GroupRecord). wanted g.mask) groups
dropped_is wanted gone groups others none =
    kept_same (λ (g : GroupRecord). not (g.mask == gone)) (λ (g : GroupRecord). wanted g.mask) groups
    (All-weaker (λ (g : GroupRecord). (wanted g.mask || g.mask == gone) ≡ true) (λ (g : GroupRecord). not (g.mask == gone) ≡ wanted g.mask)
    (λ g either. by g.mask (g.mask == gone) refl (wanted g.mask) refl either) groups others)
  where
    by : (q : ℕ) (e : Bool) → (q == gone) ≡ e → (w : Bool) → wanted q ≡ w → (w || e) ≡ true → not e ≡ w
    by q true te w tw h = let same : q ≡ gone = grind (arith, te) in sym none ∙ ap wanted (sym same) ∙ tw
    by q false te true tw h = refl
    by q false te false tw h = absurd (cc)

-- if that one is wanted too, all are
pub shared_is : (wanted : ℕ → Bool) (gone : ℕ) (groups : List GroupRecord) → All (λ (g : GroupRecord). (wanted g.mask || g.mask == gone) ≡ true) groups
    → wanted gone ≡ true
    → filter (λ (g : GroupRecord). wanted g.mask) groups ≡ groups
shared_is wanted gone groups others there =
    kept_all (λ (g : GroupRecord). wanted g.mask) groups
    (All-weaker (λ (g : GroupRecord). (wanted g.mask || g.mask == gone) ≡ true) (λ (g : GroupRecord). wanted g.mask ≡ true)
    (λ g either. by g.mask (g.mask == gone) refl (wanted g.mask) refl either) groups others)
  where
    by : (q : ℕ) (e : Bool) → (q == gone) ≡ e → (w : Bool) → wanted q ≡ w → (w || e) ≡ true → w ≡ true
    by q true te w tw h = let same : q ≡ gone = grind (arith, te) in sym tw ∙ ap wanted same ∙ there
    by q false te true tw h = refl
    by q false te false tw h = absurd (cc)

-- ---- a member leaves

either_left : (a b c d : Bool) → (b ≡ true → d ≡ true) → (a || (b || c)) ≡ true → ((a || c) || d) ≡ true
either_left true b c d more h = refl
either_left false true true d more h = refl
either_left false true false d more h = more refl
either_left false false true d more h = refl
either_left false false false d more h = absurd (cc)

either_more : (a b c d : Bool) → ((a || c) || d) ≡ true → ((a || (b || c)) || d) ≡ true
either_more true b c d h = refl
either_more false true c d h = refl
either_more false false c d h = h

module _ {Q : Type 0} where
  nil_wanted : (members : List (Membership Q)) (mask : ℕ) → is_wanted members mask ≡ true → is_nil members ≡ false
  nil_wanted [] mask wanted = absurd (cc)
  nil_wanted (m ∷ ms) mask wanted = refl

  nil_within : (members : List (Membership Q)) (k : ℕ) → k < length members → is_nil members ≡ false
  nil_within [] k within = absurd (omega arith)
  nil_within (m ∷ ms) k within = refl

  left_wanted : (before : List (Membership Q)) (m : Membership Q) (after : List (Membership Q)) (q : ℕ) → is_wanted (before ++ m ∷ after) q ≡ true
      → (is_wanted (before ++ after) q || q == m.mask.bits) ≡ true
  left_wanted before m after q wanted =
      ap (λ b. b || q == m.mask.bits) (list_any-append (λ (x : Membership Q). x.mask.bits == q) before after)
      ∙ either_left (is_wanted before q) (m.mask.bits == q) (is_wanted after q) (q == m.mask.bits)
      (λ e. let same : m.mask.bits ≡ q = grind (arith, e) in eq_same q m.mask.bits (sym same))
      (sym (list_any-append (λ (x : Membership Q). x.mask.bits == q) before (m ∷ after)) ∙ wanted)

  pub all_left : (P : Membership Q → Type 0) (members rest : List (Membership Q)) (k : ℕ) (m : Membership Q) → k < length members → m ≡ get_or members k m
      → rest ≡ take k members ++ drop (k + 1) members
      → All P members → All P rest
  all_left P members rest k m within at is all =
      subst (All P) (sym is) (all_without P (take k members) (drop (k + 1) members) m (subst (All P) (split_at members k m within at) all))

  -- what is wanted is wanted by those that stay, or is the mask of the one that leaves
  pub wanted_left : (members rest : List (Membership Q)) (k : ℕ) (m : Membership Q) (groups : List GroupRecord) → k < length members → m ≡ get_or members k m
      → rest ≡ take k members ++ drop (k + 1) members
      → All (λ (g : GroupRecord). is_wanted members g.mask ≡ true) groups
      → All (λ (g : GroupRecord). (is_wanted rest g.mask || g.mask == m.mask.bits) ≡ true) groups
  wanted_left members rest k m groups within at is used =
      All-weaker (λ (g : GroupRecord). is_wanted members g.mask ≡ true) (λ (g : GroupRecord). (is_wanted rest g.mask || g.mask == m.mask.bits) ≡ true)
      (λ g wanted.
      subst (λ ms. (is_wanted ms g.mask || g.mask == m.mask.bits) ≡ true) (sym is)
      (left_wanted (take k members) m (drop (k + 1) members) g.mask (subst (λ ms. is_wanted ms g.mask ≡ true) (split_at members k m within at) wanted))) groups
      used

  -- or by the one that is put in its place
  pub wanted_set : (members new : List (Membership Q)) (k : ℕ) (x y : Membership Q) (groups : List GroupRecord) → k < length members → x ≡ get_or members k x
      → new ≡ slice_set members k y
      → All (λ (g : GroupRecord). is_wanted members g.mask ≡ true) groups
      → All (λ (g : GroupRecord). (is_wanted new g.mask || g.mask == x.mask.bits) ≡ true) groups
  wanted_set members new k x y groups within at is used =
      let now : new ≡ take k members ++ y ∷ drop (k + 1) members = is ∙ set_split members k y within in
      All-weaker (λ (g : GroupRecord). (is_wanted (take k members ++ drop (k + 1) members) g.mask || g.mask == x.mask.bits) ≡ true)
      (λ (g : GroupRecord). (is_wanted new g.mask || g.mask == x.mask.bits) ≡ true)
      (λ g either.
      subst (λ ms. (is_wanted ms g.mask || g.mask == x.mask.bits) ≡ true) (sym now)
      (ap (λ b. b || g.mask == x.mask.bits) (list_any-append (λ (z : Membership Q). z.mask.bits == g.mask) (take k members) (y ∷ drop (k + 1) members))
      ∙ either_more (is_wanted (take k members) g.mask) (y.mask.bits == g.mask) (is_wanted (drop (k + 1) members) g.mask) (g.mask == x.mask.bits)
      (ap (λ b. b || g.mask == x.mask.bits) (sym (list_any-append (λ (z : Membership Q). z.mask.bits == g.mask) (take k members) (drop (k + 1) members)))
      ∙ either))) groups
      (wanted_left members (take k members ++ drop (k + 1) members) k x groups within at refl used)

  -- if another member has the mask of the one that leaves, the union stays
  pub shared_union : (members rest : List (Membership Q)) (k : ℕ) (m : Membership Q) → k < length members → m ≡ get_or members k m
      → rest ≡ take k members ++ drop (k + 1) members
      → is_wanted rest m.mask.bits ≡ true → union_of_all (masks_of members) ≡ union_of_all (masks_of rest)
  shared_union members rest k m within at is shared =
      ap (λ ms. union_of_all (masks_of ms)) (split_at members k m within at)
      ∙ union_instead (take k members) (drop (k + 1) members) m
      ∙ ap (λ ms. union_of m.mask.bits (union_of_all (masks_of ms))) (sym is)
      ∙ union_within m.mask.bits (union_of_all (masks_of rest)) (wanted_within rest m.mask.bits shared)

module _ {Q : Type 0} (ends : Ghosts Q) where
  -- the active mask is the one for the union
  pub active_is : (shape : ShapeRecord) (active : Option Mask) (captures next : ℕ) (members : List (Membership Q)) (groups : List GroupRecord)
      → IsSound ends shape active captures next members groups
      → is_nil members ≡ false → bits_of active ≡ active_of shape (union_of_all (masks_of members))
  active_is shape active captures next members groups sound some =
      sound.ruled ∙ asked_of ends shape (masks_of members) (nil_map ends members ∙ some)

  -- what serves the union serves a mask within it
  pub active_within : (shape : ShapeRecord) (active : Option Mask) (captures next mask : ℕ) (members : List (Membership Q)) (groups : List GroupRecord)
      → IsSound ends shape active captures next members groups
      → union_of mask (union_of_all (masks_of members)) ≡ union_of_all (masks_of members)
      → IfSome active (λ m. (is_within mask m.bits ≡ true) × (is_within (union_of_all (masks_of members)) m.bits ≡ true))
  active_within shape None captures next mask members groups sound same = tt
  active_within shape (Some a) captures next mask members groups sound same =
      let contains =
      rule_contains shape (union_of_all (masks_of members)) a.bits (sym (active_is shape (Some a) captures next members groups sound (sym sound.asked))) in (
        within_trans mask (union_of_all (masks_of members)) a.bits
            (subst (λ u. is_within mask u ≡ true) same (within_first mask (union_of_all (masks_of members)))) contains,
        contains,
      )

  shared_ruled : (shape : ShapeRecord) (active : Option Mask) (captures next : ℕ) (members rest : List (Membership Q)) (k : ℕ) (m : Membership Q)
      (groups : List GroupRecord)
      → IsSound ends shape active captures next members groups → k < length members → m ≡ get_or members k m
      → rest ≡ take k members ++ drop (k + 1) members
      → is_wanted rest m.mask.bits ≡ true → bits_of active ≡ active_for shape (masks_of rest)
  shared_ruled shape active captures next members rest k m groups sound within at is shared =
      active_is shape active captures next members groups sound (nil_within members k within)
      ∙ ap (active_of shape) (shared_union members rest k m within at is shared)
      ∙ sym (asked_of ends shape (masks_of rest) (nil_map ends rest ∙ nil_wanted rest m.mask.bits shared))

  -- then nothing else changes
  pub sound_leaves_shared : (shape : ShapeRecord) (active : Option Mask) (captures next : ℕ) (members rest : List (Membership Q)) (k : ℕ) (m : Membership Q)
      (groups : List GroupRecord)
      → IsSound ends shape active captures next members groups → k < length members → m ≡ get_or members k m
      → rest ≡ take k members ++ drop (k + 1) members
      → is_wanted rest m.mask.bits ≡ true → (bits_of active ≡ active_for shape (masks_of rest)) × IsSound ends shape active captures next rest groups
  sound_leaves_shared shape active captures next members rest k m groups sound within at is shared =
      let ruled = shared_ruled shape active captures next members rest k m groups sound within at is shared in
      let kept : filter (λ (g : GroupRecord). is_wanted rest g.mask) groups ≡ groups =
      shared_is (λ mask. is_wanted rest mask) m.mask.bits groups (wanted_left members rest k m groups within at is sound.grouped.used) shared in (
        ruled,
        subst (λ gs. IsSound ends shape active captures next rest gs)
            (ap (remade_for shape active) kept ∙ sym (same_tables_for shape active groups sound.grouped.each))
            (sound_leaves_at ends shape active active captures next members rest k m groups sound within at is ruled sound.below),
      )
