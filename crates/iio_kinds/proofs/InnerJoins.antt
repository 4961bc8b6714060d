-- Members that join and leave an input device that has inner members.
use Rattle.std.proofs.Common.{◌≡◌, ℕ, ◌+◌, ◌-◌, ◌^◌, ◌<◌, Bool, true, false, List, [], ◌∷◌, ◌++◌, map, length, Some, None, Result, Ok, Err, refl, sym, ap, subst, ◌∙◌, arith, cond, option_map, rules}
use Rattle.std.proofs.lemmas.Grind.{common_steps}
use Rattle.std.specs.Prelude.{◌==◌, ◌||◌, All, bit_or, not, find, is_none, is_some}
use Rattle.std.specs.List.{AllByRecursion, IsDistinct, list_any}
use Rattle.std.specs.Int.Bits.{or_zero_r}
use Rattle.std.proofs.lemmas.Bool.Decides.{nat_tests}
use Rattle.std.proofs.lemmas.List.Elements.{recursion_from_All}
use Rattle.std.proofs.lemmas.Nat.{le_or_l, or_lt, pow_pos}
use Rattle.iio_mask.specs.declared.Mask.{Mask}
use Rattle.iio_mask.specs.Mask.{union_of_all}
use Rattle.iio_layout.specs.Active.{active_of}
use Rattle.iio_scan_type.specs.Format.{IsInProfile}
use Rattle.iio_layout.specs.Layout.{scan_size}
use Rattle.iio_layout.specs.Shape.{ShapeRecord, count_of}
use Rattle.iio_kfifo.specs.Queue.{Queue}
use Rattle.iio_trigger.specs.Trigger.{State}
use Rattle.iio_derive.specs.Window.{full_mask}
use Rattle.iio_device.specs.declared.membership.Membership.{Membership}
use Rattle.iio_device.specs.Ends.{queue_end}
use Rattle.iio_device.specs.Active.{is_without_union}
use Rattle.iio_device.specs.Sound.{IsMember}
use Rattle.iio_text.specs.declared.errors.Errno.{Errno}
use Rattle.iio_text.specs.declared.errors.Errno.TheVariants.{EBADF}
use Rattle.iiod_commands.specs.declared.iio.No.{No}
use Rattle.iiod_commands.specs.declared.iio.No.TheVariants.{Errno as NoErrno}
use Rattle.iio_core.specs.Calls.{is_inner_of, station_after_join, newcomer, station_after_remask, with_mask}
use Rattle.iio_core.specs.Machine.{Member, Station, is_seat_of, masks_of, without}
use Rattle.iio_kinds.specs.declared.in_device.Inner.{Inner}
use Rattle.iio_kinds.specs.declared.seat.Seat.{Seat}
use Rattle.iio_kinds.specs.Acting.{Acts}
use Rattle.iio_kinds.specs.Faults.{JoinsAny, joining_of}
use Rattle.iio_kinds.specs.Inner.{AreApart, AreIdle, HasInners, inner_at, number_of, average_of, with_inner_name}
use Rattle.iio_kinds.specs.Remasking.{remask_answer}
use Rattle.iio_kinds.specs.Station.{member_of}
use Rattle.iio_kinds.proofs.InnerLemmas.{AreIdleTold, AreThereTold, IsIdleTold, empty_named, facts_by, found_none, has_number, idle_told, masks_named, named, there_by, there_told, told_idle, told_there}
use Rattle.iio_kinds.proofs.InnerLeaves.{any_inner}
use Rattle.iio_kinds.proofs.SeatLemmas.{all_kept, all_push, any_last, any_push, distinct_push, eq_flips, map_push}

-- ---- lists

all_so : {A : Type 0} (P Q : A → Type 0) (xs : List A) → ((x : A) → P x → Q x) → AllByRecursion P xs → AllByRecursion Q xs
all_so P Q [] so all = tt
all_so P Q (x ∷ xs) so all = (so x all.0, all_so P Q xs so all.1)

or_tail : (c d : Bool) → (c || d) ≡ false → d ≡ false
or_tail c d q = search rules

or_head : (c d : Bool) → (c || d) ≡ false → c ≡ false
or_head c d q = search rules

-- ---- inner members by their numbers

numbered : (inners : List Inner) (n : ℕ) → is_some (inner_at inners n) ≡ list_any (λ (i : Inner). i.number == n) inners
numbered [] n = refl
numbered (i ∷ is) n = search (rules, numbered is n)

same_number : (n : ℕ) → (n == n) ≡ true
same_number n = grind (arith, nat_tests)

own_numbers : (inners : List Inner) → AllByRecursion (λ (i : Inner). list_any (λ (k : Inner). k.number == i.number) inners ≡ true) inners
own_numbers [] = tt
own_numbers (i ∷ is) = search (rules, all_so, own_numbers is)

-- each inner member is that of its number
pub own_inner : (inners : List Inner) → AllByRecursion (λ (i : Inner). is_some (inner_at inners i.number) ≡ true) inners
own_inner inners =
    all_so (λ (i : Inner). list_any (λ (k : Inner). k.number == i.number) inners ≡ true) (λ (i : Inner). is_some (inner_at inners i.number) ≡ true) inners
    (λ i e. numbered inners i.number ∙ e) (own_numbers inners)

-- ---- a member that isn't an inner one leaves

module _ (inners : List Inner) (number : ℕ) (free : inner_at inners number ≡ None) where
  kept_number : (i : ℕ) (ms : List (Membership Queue)) → is_some (inner_at inners i) ≡ true → has_number i (map member_of ms) ≡ true
      → has_number i (without number (map member_of ms)) ≡ true
  kept_number i [] own has = has
  kept_number i (m ∷ ms) own has = search (rules, kept_number i ms own)

  there_left : (is : List Inner) (ms : List (Membership Queue)) → AllByRecursion (λ (i : Inner). is_some (inner_at inners i.number) ≡ true) is
      → AreThereTold (map member_of ms) is → AreThereTold (without number (map member_of ms)) is
  there_left [] ms own there = tt
  there_left (i ∷ is) ms own there = (kept_number i.number ms own.0 there.0, there_left is ms own.1 there.1)

pub left_facts : (shape shape' : ShapeRecord) (inners : List Inner) (room : List ℕ) (ms ms' : List (Membership Queue)) (number : ℕ) → shape' ≡ shape
    → map member_of ms' ≡ without number (map member_of ms)
    → inner_at inners number ≡ None → HasInners shape ms inners room → HasInners shape' ms' inners room
left_facts shape shape' inners room ms ms' number same told free sound =
    facts_by shape shape' inners room ms ms' same sound
    (λ h. subst (AreIdleTold shape inners) (sym told)
    (all_kept (λ (x : Member). not (is_seat_of number x)) (λ (x : Member). is_some (inner_at inners x.number) ≡ true → IsIdleTold shape x) (map member_of ms)
    h))
    (λ h. subst (λ (xs : List Member). AreThereTold xs inners) (sym told) (there_left inners number free inners ms (own_inner inners) h))

-- ---- a member that isn't an inner one gets another mask

module _ (shape : ShapeRecord) (inners : List Inner) (number mask capacity : ℕ) (free : inner_at inners number ≡ None) where
  masked_idle : (ms : List (Membership Queue)) → AreIdleTold shape inners (map member_of ms)
      → AreIdleTold shape inners (map (with_mask number mask capacity) (map member_of ms))
  masked_idle [] all = tt
  masked_idle (m ∷ ms) all = search (rules, masked_idle ms all.1)

  masked_number : (n : ℕ) (ms : List (Membership Queue))
      → has_number n (map (with_mask number mask capacity) (map member_of ms)) ≡ has_number n (map member_of ms)
  masked_number n [] = refl
  masked_number n (m ∷ ms) = search (rules, masked_number n ms)

-- the members after such a call
pub acts_members : {A : Type 0} (change : Station → Station) (r : Result A Errno) (result : Result A No) (old new : Station) → Acts change r result old new
    → (b : Bool) × (new.members ≡ cond b (change old).members old.members)
acts_members change r result old new h = search rules

pub remasked_facts : (shape shape' : ShapeRecord) (inners : List Inner) (room : List ℕ) (ms ms' : List (Membership Queue)) (number mask capacity : ℕ)
    → shape' ≡ shape → (r : Result ℕ Errno) (result : Result ℕ No) (old new : Station)
    → old.members ≡ map member_of ms → new.members ≡ map member_of ms' → inner_at inners number ≡ None
    → Acts (station_after_remask number mask capacity) r result old new
    → HasInners shape ms inners room → HasInners shape' ms' inners room
remasked_facts shape shape' inners room ms ms' number mask capacity same r result old new was is free acts sound =
    let left = acts_members (station_after_remask number mask capacity) r result old new acts in
    let told : map member_of ms' ≡ cond left.0 (map (with_mask number mask capacity) (map member_of ms)) (map member_of ms)
    = sym is ∙ left.1 ∙ ap (λ (xs : List Member). cond left.0 (map (with_mask number mask capacity) xs) xs) was in
    facts_by shape shape' inners room ms ms' same sound
    (λ h. subst (AreIdleTold shape inners) (sym told) (idle left.0 h)) (λ h. subst (λ (xs : List Member). AreThereTold xs inners) (sym told) (there left.0 h))
  where
    idle : (b : Bool) → AreIdleTold shape inners (map member_of ms)
        → AreIdleTold shape inners (cond b (map (with_mask number mask capacity) (map member_of ms)) (map member_of ms))
    idle true h = masked_idle shape inners number mask capacity free ms h
    idle false h = h

    there : (b : Bool) → AreThereTold (map member_of ms) inners
        → AreThereTold (cond b (map (with_mask number mask capacity) (map member_of ms)) (map member_of ms)) inners
    there true h =
        there_by (map member_of ms) (map (with_mask number mask capacity) (map member_of ms)) inners
        (λ i e. masked_number shape inners number mask capacity free i ms ∙ e) h
    there false h = h

-- ---- a member joins

below_told : (next : ℕ) (ms : List (Membership Queue)) → AllByRecursion (λ (m : Membership Queue). m.number < next) ms
    → AllByRecursion (λ (x : Member). x.number < next) (map member_of ms)
below_told next [] all = tt
below_told next (m ∷ ms) all = (all.0, below_told next ms all.1)

number_below : (n next : ℕ) (xs : List Member) → AllByRecursion (λ (x : Member). x.number < next) xs → has_number n xs ≡ true → n < next
number_below n next [] all e = absurd (cc)
number_below n next (x ∷ xs) all e = by (x.number == n) refl e (λ f. number_below n next xs all.1 f)
  where
    by : (b : Bool) → (x.number == n) ≡ b → (b || has_number n xs) ≡ true → (has_number n xs ≡ true → n < next) → n < next
    by b own f later = search rules

-- no inner member has the next number
next_none : (next : ℕ) (xs : List Member) (inners : List Inner) → AllByRecursion (λ (x : Member). x.number < next) xs → AreThereTold xs inners
    → inner_at inners next ≡ None
next_none next xs [] all there = refl
next_none next xs (i ∷ is) all there = search (rules, number_below, next_none next xs is all there.1)

module _ (mask : Mask) (capacity number : ℕ) (shape : ShapeRecord) (inners : List Inner) where
  pub joins_named : (result : Result Seat No) (old new : Station) (trigger trigger' : State) → inner_at inners old.next ≡ None
      → JoinsAny (joining_of number shape mask capacity false None) result old new trigger trigger'
      → JoinsAny (joining_of number shape mask capacity false None) result (named inners old) (named inners new) trigger trigger'
  joins_named result old new trigger trigger' none j = grind (arith, common_steps)

-- what holds of a device whose members are those, with another one or without it
abbrev pub MoreOrSame : (more : Member) → (old new : List Member) → Type 0
MoreOrSame more old new = (b : Bool) × (new ≡ cond b (old ++ more ∷ []) old)

pub members_joined : (mask : Mask) (capacity number : ℕ) (shape : ShapeRecord) (result : Result Seat No) (old new : Station) (trigger trigger' : State)
    → JoinsAny (joining_of number shape mask capacity false None) result old new trigger trigger'
    → MoreOrSame (newcomer mask.bits capacity false None old) old.members new.members
members_joined mask capacity number shape result old new trigger trigger' j = search rules

module _ (shape shape' : ShapeRecord) (inners : List Inner) (room : List ℕ) (ms ms' : List (Membership Queue)) (more : Member) (same : shape' ≡ shape)
    (sound : HasInners shape ms inners room) where
  more_idle : inner_at inners more.number ≡ None → AreIdleTold shape inners (map member_of ms) → AreIdleTold shape inners (map member_of ms ++ more ∷ [])
  more_idle none all = grind (arith, common_steps)

  more_there : (is : List Inner) → AreThereTold (map member_of ms) is → AreThereTold (map member_of ms ++ more ∷ []) is
  more_there [] all = tt
  more_there (i ∷ is) all = (any_push (λ (x : Member). x.number == i.number) (map member_of ms) more all.0, more_there is all.1)

  pub joined_facts : inner_at inners more.number ≡ None → MoreOrSame more (map member_of ms) (map member_of ms') → HasInners shape' ms' inners room
  joined_facts none is =
      facts_by shape shape' inners room ms ms' same sound
      (λ h. subst (AreIdleTold shape inners) (sym is.1) (idle is.0 h)) (λ h. subst (λ (xs : List Member). AreThereTold xs inners) (sym is.1) (there is.0 h))
    where
      idle : (b : Bool) → AreIdleTold shape inners (map member_of ms) → AreIdleTold shape inners (cond b (map member_of ms ++ more ∷ []) (map member_of ms))
      idle b h = search (rules, more_idle)

      there : (b : Bool) → AreThereTold (map member_of ms) inners → AreThereTold (cond b (map member_of ms ++ more ∷ []) (map member_of ms)) inners
      there b h = search (rules, more_there)

-- no inner member has the number of the next member
pub next_free : (shape : ShapeRecord) (captures next : ℕ) (inners : List Inner) (room : List ℕ) (ms : List (Membership Queue))
    → All (IsMember queue_end shape captures next) ms
    → HasInners shape ms inners room → inner_at inners next ≡ None
next_free shape captures next inners room ms each sound =
    next_none next (map member_of ms) inners
    (below_told next ms (all_so (IsMember queue_end shape captures next) (λ (m : Membership Queue). m.number < next)
    ms (λ m h. h.numbered) (recursion_from_All (IsMember queue_end shape captures next) ms each)))
    (there_told ms inners sound.there)

-- ---- an inner member joins

inner_more : (inners : List Inner) (n next j : ℕ) → (next == n) ≡ false → inner_at (inners ++ record { number = next; average = j } ∷ []) n ≡ inner_at inners n
inner_more [] n next j other = rw other refl
inner_more (i ∷ is) n next j other = search (rules, inner_more is n next j other)

inner_last : (inners : List Inner) (next j : ℕ) → inner_at inners next ≡ None → inner_at (inners ++ record { number = next; average = j } ∷ []) next ≡ Some j
inner_last [] next j none = rw (same_number next) refl
inner_last (i ∷ is) next j none = by (i.number == next) none (λ n. inner_last is next j n)
  where
    by : (b : Bool) → option_map average_of (cond b (Some i) (find (λ (k : Inner). k.number == next) is)) ≡ None
        → (inner_at is next ≡ None → inner_at (is ++ record { number = next; average = j } ∷ []) next ≡ Some j)
        → option_map average_of (cond b (Some i) (find (λ (k : Inner). k.number == next) (is ++ record { number = next; average = j } ∷ []))) ≡ Some j
    by b n later = search rules

-- the inner members that were there are told as before
told_before : (inners : List Inner) (next j : ℕ) (xs : List Member) → AllByRecursion (λ (x : Member). x.number < next) xs
    → map (with_inner_name (inners ++ record { number = next; average = j } ∷ [])) xs ≡ map (with_inner_name inners) xs
told_before inners next j [] all = refl
told_before inners next j (x ∷ xs) all = search (rules, inner_more, told_before inners next j xs all.1)

module _ (mask capacity j : ℕ) (inners : List Inner) (st : Station) (below : AllByRecursion (λ (x : Member). x.number < st.next) st.members)
    (none : inner_at inners st.next ≡ None) where
  pub inner_joined_named : named (inners ++ record { number = st.next; average = j } ∷ []) (station_after_join mask capacity false None st)
      ≡ station_after_join mask capacity false (Some j) (named inners st)
  inner_joined_named = simp (map_push, told_before, inner_last, empty_named)

-- ---- what holds after an inner member has joined

averages_apart : (j : ℕ) (is : List Inner) → list_any (λ (i : Inner). i.average == j) is ≡ false
    → AllByRecursion (λ z. (j == z) ≡ false) (map average_of is)
averages_apart j [] none = tt
averages_apart j (i ∷ is) none =
    search (rules, eq_flips, or_head, or_tail, averages_apart j is (or_tail (i.average == j) (list_any (λ (k : Inner). k.average == j) is) none))

next_other : (n next : ℕ) → n < next → (next == n) ≡ false
next_other n next less = grind (arith, nat_tests)

-- a room of that size will do as well
pub room_facts : (shape : ShapeRecord) (inners : List Inner) (room room' : List ℕ) (ms : List (Membership Queue))
    → length room' ≡ scan_size shape (full_mask shape) → HasInners shape ms inners room → HasInners shape ms inners room'
room_facts shape inners room room' ms sized sound = search rules

module _ (shape shape' : ShapeRecord) (inners : List Inner) (room room' : List ℕ) (ms ms' : List (Membership Queue)) (next j : ℕ) (more : Member)
    (same : shape' ≡ shape) (sound : HasInners shape ms inners room) (below : AllByRecursion (λ (x : Member). x.number < next) (map member_of ms))
    (whole : IsIdleTold shape more) (number : more.number ≡ next)
    (none : list_any (is_inner_of j) (map (with_inner_name inners) (map member_of ms)) ≡ false)
    (told : map member_of ms' ≡ map member_of ms ++ more ∷ []) (sized : length room' ≡ scan_size shape (full_mask shape)) where
  abbrev with_one : List Inner
  with_one = inners ++ record { number = next; average = j } ∷ []

  idle_before : (xs : List Member) → AllByRecursion (λ (x : Member). x.number < next) xs → AreIdleTold shape inners xs → AreIdleTold shape with_one xs
  idle_before [] less all = tt
  idle_before (x ∷ xs) less all = search (rules, inner_more, idle_before xs less.1 all.1)

  there_before : (is : List Inner) → AreThereTold (map member_of ms) is → AreThereTold (map member_of ms ++ more ∷ []) is
  there_before [] all = tt
  there_before (i ∷ is) all = (any_push (λ (x : Member). x.number == i.number) (map member_of ms) more all.0, there_before is all.1)

  numbers_apart : (is : List Inner) → AreThereTold (map member_of ms) is → AllByRecursion (λ z. (next == z) ≡ false) (map number_of is)
  numbers_apart [] all = tt
  numbers_apart (i ∷ is) all = (next_other i.number next (number_below i.number next (map member_of ms) below all.0), numbers_apart is all.1)

  pub inner_facts : HasInners shape' ms' with_one room'
  inner_facts =
      let there = there_told ms inners sound.there in
      let absent : list_any (λ (i : Inner). i.average == j) inners ≡ false = any_inner inners j (map member_of ms) there sound.once ∙ none in
      subst (λ (s : ShapeRecord). HasInners s ms' with_one room') (sym same) (record {
        idle = grind (arith, common_steps, told_idle, idle_before, idle_told);
        there = search (rules, told_there, all_push, there_before, any_last);
        once = grind (arith, common_steps, distinct_push, numbers_apart);
        apart = subst AreApart (sym (map_push average_of inners (record { number = next; average = j })))
            (distinct_push (map average_of inners) j sound.apart (averages_apart j inners absent));
        roomy = λ some. sized;
        types = sound.types;
      })

-- the numbers of the members of a device are below the next
pub told_below : (shape : ShapeRecord) (captures next : ℕ) (ms : List (Membership Queue))
    → All (IsMember queue_end shape captures next) ms
    → AllByRecursion (λ (x : Member). x.number < next) (map member_of ms)
told_below shape captures next ms each =
    below_told next ms (all_so (IsMember queue_end shape captures next) (λ (m : Membership Queue). m.number < next)
    ms (λ m h. h.numbered) (recursion_from_All (IsMember queue_end shape captures next) ms each))

-- an inner member's joining, as it is told
module _ (mask : Mask) (j number : ℕ) (shape : ShapeRecord) (inners : List Inner) where
  pub inner_joins : (seat : Seat) (old new : Station) (trigger trigger' : State) (capacity : ℕ) → inner_at inners old.next ≡ None
      → AllByRecursion (λ (x : Member). x.number < old.next) old.members
      → JoinsAny (joining_of number shape mask capacity false None) (Ok seat) old new trigger trigger'
      → JoinsAny (joining_of number shape mask capacity false (Some j)) (Ok seat) (named inners old)
      (named (inners ++ record { number = seat.number; average = j } ∷ []) new) trigger trigger'
  inner_joins seat old new trigger trigger' capacity none below joins = search (rules, inner_joined_named)

-- ---- the mask of all channels

ones_full : (n b : ℕ) → b < 2 ^ n → bit_or (2 ^ n - 1) b ≡ 2 ^ n - 1
ones_full n b less =
    let above = le_or_l (2 ^ n - 1) b in
    let some = pow_pos n in
    let below = or_lt n (2 ^ n - 1) b (omega (arith, some)) less in
    omega (arith, above, below, some)

masks_below : (n : ℕ) (ms : List (Membership Queue)) → AllByRecursion (λ (m : Membership Queue). m.mask.bits < 2 ^ n) ms
    → union_of_all (masks_of (map member_of ms)) < 2 ^ n
masks_below n [] all = pow_pos n
masks_below n (m ∷ ms) all = or_lt n m.mask.bits (union_of_all (masks_of (map member_of ms))) all.0 (masks_below n ms all.1)

-- no member's mask adds to the mask of all channels
pub served_alone : (shape : ShapeRecord) (captures next : ℕ) (inners : List Inner) (ms : List (Membership Queue)) (mask : ℕ)
    → All (IsMember queue_end shape captures next) ms → mask ≡ full_mask shape
    → is_without_union shape (masks_of (map (with_inner_name inners) (map member_of ms))) mask ≡ is_without_union shape [] mask
served_alone shape captures next inners ms mask each whole =
    let below = masks_below (count_of shape) ms
    (all_so (IsMember queue_end shape captures next) (λ (m : Membership Queue). m.mask.bits < 2 ^ count_of shape) ms
    (λ m h. h.below) (recursion_from_All (IsMember queue_end shape captures next) ms each)) in
    let beside : bit_or mask (union_of_all (masks_of (map member_of ms))) ≡ mask = search (rules, ones_full) in
    ap (λ (masks : List ℕ). is_without_union shape masks mask) (masks_named inners (map member_of ms))
    ∙ ap (λ (n : ℕ). is_none (active_of shape n)) (beside ∙ sym (or_zero_r mask))

-- ---- a device without inner members

nobody_idle : (shape : ShapeRecord) (ms : List (Membership Queue)) → AreIdle shape [] ms
nobody_idle shape [] = tt
nobody_idle shape (m ∷ ms) = ((λ e. absurd (cc)), nobody_idle shape ms)

pub seat_state_facts : (shape : ShapeRecord) (ms : List (Membership Queue)) (inners : List Inner) (room : List ℕ) → inners ≡ []
    → All (λ channel. IsInProfile channel.ty) shape.channels → HasInners shape ms inners room
unfolding IsDistinct
seat_state_facts shape ms inners room none types = search (rules, nobody_idle)

-- a room that couldn't be made longer stays as it is
pub unresized : (ok failed : Bool) (old more new : List ℕ) → new ≡ cond ok more old → ok ≡ not failed → failed ≡ true → new ≡ old
unresized ok failed old more new is other err = is ∙ ap (λ (b : Bool). cond b more old) (other ∙ ap (λ (b : Bool). not b) err)

-- ---- an inner member can't be remasked by a seat

pub remask_refused : (shape : ShapeRecord) (inners : List Inner) (st : Station) (ms : List (Membership Queue)) (number own mask capacity : ℕ)
    → st.members ≡ map member_of ms → st.site.plugged ≡ true → is_some (inner_at inners number) ≡ true
    → Acts (station_after_remask number mask capacity) (remask_answer shape (named inners st) (record { number = number; mask = own }) mask)
    (Err (NoErrno EBADF))
    (named inners st) (named inners st)
remask_refused shape inners st ms number own mask capacity of plugged inner = search (rules, found_none)
