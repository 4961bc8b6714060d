-- Inner members that take their scans of a capture one after another.
use Rattle.std.proofs.Common.{◌≡◌, ℕ, zero, suc, ◌+◌, Bool, true, false, ◌<◌, List, [], ◌∷◌, ◌++◌, map, take, length, slice_index_or, Option, Some, refl, sym, ap, subst, ◌∙◌, arith, cond, rules}
use Rattle.std.proofs.lemmas.Grind.{common_steps}
use Rattle.std.specs.Prelude.{◌==◌, ◌||◌, is_some}
use Rattle.std.specs.List.{AllByRecursion, IsDistinct}
use Rattle.std.specs.Option.{option_map_or}
use Rattle.std.proofs.lemmas.Bool.{eqb-true}
use Rattle.std.proofs.lemmas.List.{take_more}
use Rattle.std.proofs.lemmas.List.Elements.{All-from_recursion}
use Rattle.iio_layout.specs.Layout.{scan_size}
use Rattle.iio_layout.specs.Shape.{ShapeRecord}
use Rattle.iio_derive.specs.Window.{full_mask}
use Rattle.iio_kfifo.specs.Queue.{Queue}
use Rattle.iio_device.specs.declared.membership.Membership.{Membership}
use Rattle.iio_device.specs.Device.{DeviceView}
use Rattle.iio_device.specs.Members.{member_of as membership_of}
use Rattle.iio_device.specs.Roster.{Takes, is_size_of}
use Rattle.iio_core.specs.Machine.{Member, Station}
use Rattle.iio_kinds.specs.declared.in_device.Inner.{Inner}
use Rattle.iio_kinds.specs.Acting.{KeepsCaptures}
use Rattle.iio_kinds.specs.Inner.{AreApart, AreThere, AreWhole, HasRoom, inner_at, number_of}
use Rattle.iio_kinds.specs.Station.{member_of, station_of}
use Rattle.iio_kinds.specs.Taking.{AreWaiting, all_taken, with_taken}
use Rattle.iio_kinds.proofs.InnerLemmas.{has_number, there_told}
use Rattle.iio_kinds.proofs.InnerJoins.{own_inner}
use Rattle.iio_kinds.proofs.InnerTakes.{all_taken_more, none_of, one_changed, one_taken}
use Rattle.iio_kinds.proofs.SeatLemmas.{last_apart, map_push}
use Rattle.iio_kinds.proofs.TakeLemmas.{found_passes, same_membership}

-- ---- one take

abbrev pub are_numbers : List (Membership Queue) → List ℕ
are_numbers ms = map (λ (m : Membership Queue). m.number) ms

-- what a take of the scan of the member of a number makes of the members
module _ (n : ℕ) (out out' : List ℕ) (v v' : DeviceView Queue) (sized : is_size_of n (length out) v.standing ≡ true)
    (apart : AreApart (are_numbers v.standing.members))
  where
    take_members : (r : Option Bool) → Takes n r out out' v.standing v'.standing
        → map member_of v'.standing.members ≡ map (one_taken n) (map member_of v.standing.members)
    take_members r t = grind (arith, common_steps, same_membership, one_changed, found_passes, one_taken)

    -- everything else stays
    take_rest : (r : Option Bool) → Takes n r out out' v.standing v'.standing → v'.standing ≡ record v.standing { members = v'.standing.members }
    take_rest r t = search rules

    pub take_station : (r : Option Bool) → Takes n r out out' v.standing v'.standing → v' ≡ record v { standing = v'.standing }
        → station_of v' ≡ record (station_of v) { members = map (one_taken n) (station_of v).members }
    take_station r t rest = search (rules, take_rest, take_members)

    pub take_keeps : (r : Option Bool) → Takes n r out out' v.standing v'.standing → v' ≡ record v { standing = v'.standing } → KeepsCaptures v v'
    take_keeps r t rest = search rules

    -- the room has the scan, if it is the one that waited
    pub take_room : (r : Option Bool) (scan : List ℕ) → Takes n r out out' v.standing v'.standing
        → ((m : Membership Queue) → membership_of n v.standing.members ≡ Some m → m.tail.scans ≡ scan ∷ []) → out' ≡ scan
    take_room r scan t waits = search rules

-- ---- one take after another

-- a member that is there and has the mask of all channels has scans of the room's size
sized_by : (shape : ShapeRecord) (n size : ℕ) (ms : List (Membership Queue)) → has_number n (map member_of ms) ≡ true
    → AllByRecursion (λ (x : Member). (x.number == n) ≡ true → x.mask ≡ full_mask shape) (map member_of ms) → size ≡ scan_size shape (full_mask shape)
    → option_map_or (λ (m : Membership Queue). size == scan_size shape m.mask.bits) (membership_of n ms) false ≡ true
sized_by shape n size [] has whole same = absurd (cc)
sized_by shape n size (m ∷ ms) has whole same = by (m.number == n) refl has (λ h. sized_by shape n size ms h whole.1 same)
  where
    by : (b : Bool) → (m.number == n) ≡ b → (b || has_number n (map member_of ms)) ≡ true
        → (has_number n (map member_of ms) ≡ true
        → option_map_or (λ (k : Membership Queue). size == scan_size shape k.mask.bits) (membership_of n ms) false ≡ true)
        → option_map_or (λ (k : Membership Queue). size == scan_size shape k.mask.bits) (cond b (Some m) (membership_of n ms)) false ≡ true
    by b e h later = search rules

pub number_kept : (done : List Inner) (n : ℕ) (xs : List Member) → has_number n (map (with_taken done) xs) ≡ has_number n xs
number_kept done n [] = refl
number_kept done n (x ∷ xs) = search (rules, inner_at, number_kept done n xs)

module _ (inners done : List Inner) (n : ℕ) (own : is_some (inner_at inners n) ≡ true) where
  own_at : (k : ℕ) → (k == n) ≡ true → is_some (inner_at inners k) ≡ true
  own_at k e = ap (λ (j : ℕ). is_some (inner_at inners j)) (eqb-true k n e) ∙ own

  whole_still : (shape : ShapeRecord) (ms : List (Membership Queue)) → AreWhole shape inners ms
      → AllByRecursion (λ (x : Member). (x.number == n) ≡ true → x.mask ≡ full_mask shape) (map (with_taken done) (map member_of ms))
  whole_still shape [] whole = tt
  whole_still shape (m ∷ ms) whole = search (rules, inner_at, own_at, whole_still shape ms whole.1)

  waits_still : (scan : List ℕ) (xs : List Member) → is_some (inner_at done n) ≡ false → AreWaiting inners xs scan
      → AllByRecursion (λ (x : Member). (x.number == n) ≡ true → x.scans ≡ scan ∷ []) (map (with_taken done) xs)
  waits_still scan [] new waits = tt
  waits_still scan (x ∷ xs) new waits = search (rules, inner_at, own_at, waits_still scan xs new waits.1)

found_waits : (n : ℕ) (scan : List ℕ) (ms : List (Membership Queue)) (m : Membership Queue)
    → AllByRecursion (λ (x : Member). (x.number == n) ≡ true → x.scans ≡ scan ∷ []) (map member_of ms) → membership_of n ms ≡ Some m → m.tail.scans ≡ scan ∷ []
found_waits n scan [] m all e = absurd (cc)
found_waits n scan (x ∷ xs) m all e = search (rules, found_waits n scan xs m all.1)

-- the scan of the next inner member is taken, after those before it
module _ (inners done : List Inner) (i : Inner) (first v v' : DeviceView Queue) (out out' : List ℕ) (r : Option Bool)
    (station : station_of v ≡ all_taken done (station_of first)) (keeps : KeepsCaptures first v) (numbers : AreApart (are_numbers v.standing.members))
    (there : has_number i.number (map member_of first.standing.members) ≡ true)
    (whole : AreWhole first.standing.shape inners first.standing.members)
    (own : is_some (inner_at inners i.number) ≡ true) (apart : AllByRecursion (λ y. (i.number == y) ≡ false) (map number_of done))
    (room : length out ≡ scan_size first.standing.shape (full_mask first.standing.shape))
    (taken : Takes i.number r out out' v.standing v'.standing) (rest : v' ≡ record v { standing = v'.standing }) where
  told : map member_of v.standing.members ≡ map (with_taken done) (map member_of first.standing.members)
  told = ap (λ (st : Station). st.members) station

  sized : is_size_of i.number (length out) v.standing ≡ true
  sized =
      ap
      (λ (s : ShapeRecord). option_map_or (λ (m : Membership Queue). length out == scan_size s m.mask.bits) (membership_of i.number v.standing.members) false)
      keeps.device.shape
      ∙ sized_by first.standing.shape i.number (length out) v.standing.members
      (ap (λ (xs : List Member). has_number i.number xs) told ∙ number_kept done i.number (map member_of first.standing.members) ∙ there)
      (subst (AllByRecursion (λ (x : Member). (x.number == i.number) ≡ true → x.mask ≡ full_mask first.standing.shape)) (sym told)
      (whole_still inners done i.number own first.standing.shape first.standing.members whole)) room

  pub next_station : station_of v' ≡ all_taken (done ++ i ∷ []) (station_of first)
  next_station = search (rules, take_station, sized, one_taken, all_taken_more)

  pub next_keeps : KeepsCaptures first v'
  next_keeps = search rules

  pub next_room : (scan : List ℕ) → AreWaiting inners (station_of first).members scan → out' ≡ scan
  next_room scan waits =
      take_room i.number out out' v v' sized numbers r scan taken
      (λ m found. found_waits i.number scan v.standing.members m
      (subst (AllByRecursion (λ (x : Member). (x.number == i.number) ≡ true → x.scans ≡ scan ∷ [])) (sym told)
      (waits_still inners done i.number own scan (map member_of first.standing.members) (none_of done i.number apart) waits)) found)

-- ---- the next of some inner members

apart_front : (k : ℕ) (inners : List Inner) → AreApart (map number_of inners) → AreApart (map number_of (take k inners))
unfolding IsDistinct
apart_front zero inners apart = tt
apart_front (suc k) [] apart = tt
apart_front (suc k) (i ∷ is) apart = (front k is apart.0, apart_front k is apart.1)
  where
    front : (n : ℕ) (xs : List Inner) → AllByRecursion (λ y. (i.number == y) ≡ false) (map number_of xs)
        → AllByRecursion (λ y. (i.number == y) ≡ false) (map number_of (take n xs))
    front zero xs all = tt
    front (suc n) [] all = tt
    front (suc n) (x ∷ xs) all = (all.0, front n xs all.1)

-- no inner member before it has its number
pub next_apart : (k : ℕ) (inners : List Inner) (i : Inner) → take (k + 1) inners ≡ take k inners ++ i ∷ [] → AreApart (map number_of inners)
    → AllByRecursion (λ y. (i.number == y) ≡ false) (map number_of (take k inners))
next_apart k inners i more apart =
    last_apart (map number_of (take k inners)) i.number
    (subst AreApart (ap (λ (xs : List Inner). map number_of xs) more ∙ map_push number_of (take k inners) i) (apart_front (k + 1) inners apart))

pub next_more : (k : ℕ) (inners : List Inner) (i : Inner) → k < length inners → i ≡ slice_index_or inners k i
    → take (k + 1) inners ≡ take k inners ++ i ∷ []
next_more k inners i less at = take_more inners k i less ∙ ap (λ (x : Inner). take k inners ++ x ∷ []) (sym at)

pub next_own : (k : ℕ) (inners : List Inner) (i : Inner) → k < length inners → i ≡ slice_index_or inners k i → is_some (inner_at inners i.number) ≡ true
next_own k inners i less at =
    subst (λ (x : Inner). is_some (inner_at inners x.number) ≡ true) (sym at)
    (All-from_recursion (λ (x : Inner). is_some (inner_at inners x.number) ≡ true) inners (own_inner inners) k i less)

pub next_there : (k : ℕ) (inners : List Inner) (i : Inner) (ms : List (Membership Queue)) → k < length inners → i ≡ slice_index_or inners k i
    → AreThere ms inners → has_number i.number (map member_of ms) ≡ true
next_there k inners i ms less at there =
    subst (λ (x : Inner). has_number x.number (map member_of ms) ≡ true) (sym at)
    (All-from_recursion (λ (x : Inner). has_number x.number (map member_of ms) ≡ true) inners (there_told ms inners there) k i less)

pub next_roomy : (k : ℕ) (shape : ShapeRecord) (inners : List Inner) (room : List ℕ) → k < length inners → HasRoom shape inners room
    → length room ≡ scan_size shape (full_mask shape)
next_roomy k shape inners room less has = search rules

none_taken : (xs : List Member) → map (with_taken []) xs ≡ xs
none_taken [] = refl
none_taken (x ∷ xs) = ap (λ (ys : List Member). x ∷ ys) (none_taken xs)

-- at first none has taken anything
pub first_taken : (st : Station) → st ≡ all_taken [] st
first_taken st = ap (λ (ms : List Member). (let x : Station = record st { members = ms } in x)) (sym (none_taken st.members))
