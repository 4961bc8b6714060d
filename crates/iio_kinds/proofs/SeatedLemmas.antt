-- What joining and leaving members make of an averaging device, as an `Iio` tells it.
use Rattle.std.proofs.Common.{◌≡◌, ℕ, ◌+◌, ◌-◌, ◌≤◌, Bool, true, false, List, [], ◌∷◌, ◌++◌, map, length, Option, Some, None, Ok, refl, sym, ap, subst, ◌∙◌, arith, cond, option_map, unwrap_or, rules}
use Rattle.std.proofs.lemmas.Grind.{common_steps}
use Rattle.std.specs.Prelude.{◌==◌, not, is_some}
use Rattle.std.specs.List.{AllByRecursion, IsDistinct, list_any}
use Rattle.std.specs.Option.{option_map_or}
use Rattle.iio_mask.specs.declared.Mask.{Mask}
use Rattle.iio_layout.specs.Shape.{ShapeRecord}
use Rattle.iio_device.specs.Site.{is_empty}
use Rattle.iio_device.specs.Totals.{with_lost}
use Rattle.iio_device.specs.declared.totals.Totals.{Totals}
use Rattle.iio_derive.specs.declared.members.Membership.{Membership}
use Rattle.iio_derive.specs.Average.{AverageRecord, Joins, Leaves, has_member}
use Rattle.iio_derive.specs.Members.{member_at}
use Rattle.iio_derive.specs.Window.{Window, no_window}
use Rattle.iio_core.specs.Calls.{station_after_join, station_after_leave}
use Rattle.iio_core.specs.Machine.{Member, Station, lost_by, without}
use Rattle.iio_kinds.specs.declared.mean_device.MeanSeat.{MeanSeat}
use Rattle.iio_kinds.specs.Faults.{HasJoined, IsAnew}
use Rattle.iio_kinds.specs.Inner.{AreApart}
use Rattle.iio_kinds.specs.MeanStation.{mean_member}
use Rattle.iio_kinds.specs.Seated.{AreSeated, HasSeats, IsSeated, IsSeating, IsWide, attachment_with, mean_number_of, seats_without, slot_by, slot_of}
use Rattle.iio_kinds.proofs.SeatLemmas.{AreOthers, KeepsOthers, all_front, all_kept, all_last, all_push, any_front, distinct_front, distinct_kept, distinct_push, empty_map, fewer_kept, free_slot, last_apart, map_push, mean_with, next_apart, others_seated, others_told, pushed_some, seated_some, seats_push, slot_found, told_with, without_any, without_others}

-- before a member joined
none_apart : AreApart []
unfolding IsDistinct
none_apart = tt

none_seated : (a : AverageRecord) → a.seats ≡ [] → a.window ≡ no_window → IsSeating a 0 0 0 []
none_seated a none new = search (rules, none_apart)

pub none_made : (a : AverageRecord) (seats : List MeanSeat) → a.seats ≡ [] → a.window ≡ no_window → seats ≡ [] → IsSeating a 0 0 0 seats
none_made a seats none new e = subst (IsSeating a 0 0 0) (sym e) (none_seated a none new)

-- ---- another member

module _ (a a' : AverageRecord) (mask : Mask) (capacity slot captures next starts : ℕ) (seats : List MeanSeat) (joins : Joins mask capacity (Ok slot) a a')
    (sound : IsSeating a captures next starts seats) where
  abbrev pub new_seat : MeanSeat
  new_seat = record { number = next; slot = slot; mask = mask; capacity = capacity }

  others : AreOthers slot seats
  others = free_slot a.shape captures next slot a.seats seats joins.0 sound.seated

  same : KeepsOthers slot a.seats a'.seats
  same = joins.1.others

  new_seated : IsSeated a.shape captures (next + 1) a'.seats new_seat
  new_seated = search rules

  more : next ≤ next + 1
  more = omega arith

  pub joined_sound : IsSeating a' captures (next + 1) (attachment_with seats starts) (seats ++ new_seat ∷ [])
  joined_sound = record {
    seated = subst (λ (x : AverageRecord). AreSeated x.shape captures (next + 1) a'.seats (seats ++ new_seat ∷ [])) (sym joins.2)
        (all_push (IsSeated a.shape captures (next + 1) a'.seats) seats new_seat
        (others_seated slot a.seats a'.seats same a.shape captures next (next + 1) seats more others sound.seated) new_seated);
    apart = subst AreApart (sym (map_push slot_of seats new_seat)) (distinct_push (map slot_of seats) slot sound.apart others);
    once = search (rules, map_push, distinct_push, next_apart);
    all = seats_push slot a.seats a'.seats same seats new_seat refl sound.all;
    idle = λ e. absurd (let some = pushed_some seats new_seat in cc);
    wide = subst (λ (x : AverageRecord). IsWide x.shape x.window) (sym joins.2) sound.wide;
    begun = grind (arith, common_steps);
  }

  members_are : map (mean_member a'.seats) (seats ++ new_seat ∷ [])
      ≡ map (mean_member a.seats) seats ++ record { number = next; mask = mask.bits; capacity = capacity; scans = []; lost = 0; cyclic = false; inner = None }
      ∷ []
  members_are =
      map_push (mean_member a'.seats) seats new_seat
      ∙ ap (λ (ms : List Member). ms ++ mean_member a'.seats new_seat ∷ []) (others_told slot a.seats a'.seats same seats others)
      ∙ ap (λ (o : Option Membership). map (mean_member a.seats) seats ++ mean_with new_seat o ∷ []) joins.1.is

  pub joined_told : (plugged : Bool) (totals : Totals)
      → told_with a' plugged (attachment_with seats starts) (next + 1) captures totals (map (mean_member a'.seats) (seats ++ new_seat ∷ []))
      ≡ station_after_join mask.bits capacity false None (told_with a plugged starts next captures totals (map (mean_member a.seats) seats))
  joined_told plugged totals = search (rules, members_are)

-- if there is no member, the window begins anew
pub told_anew : (a : AverageRecord) (plugged : Bool) (captures next starts : ℕ) (totals : Totals) (seats : List MeanSeat)
    → IsSeating a captures next starts seats
    → IsAnew (told_with a plugged starts next captures totals (map (mean_member a.seats) seats))
told_anew a plugged captures next starts totals seats sound = search rules

-- ---- a member leaves

-- the leaving of a member that is there
leaves_live : (slot : ℕ) (b : Bool) (a a' : AverageRecord) → is_some (member_at slot a.seats) ≡ true → Leaves slot b a a' → Leaves slot true a a'
leaves_live slot b a a' live leaves = search rules

-- the seats that are left
module _ (a a' : AverageRecord) (slot captures next next' starts starts' : ℕ) (seats rest : List MeanSeat) (leaves : Leaves slot true a a')
    (sound : IsSeating a captures next starts seats)
    (others : AreOthers slot rest) (kept : AreSeated a.shape captures next' a.seats rest) (apart : AreApart (map slot_of rest))
    (once : AreApart (map mean_number_of rest))
    (there : (k : ℕ) → (slot == k) ≡ false → list_any (λ (s : MeanSeat). s.slot == k) seats ≡ true → list_any (λ (s : MeanSeat). s.slot == k) rest ≡ true)
    (begun : starts' + (length rest - 1) ≤ next') where
  stays : KeepsOthers slot a.seats a'.seats
  stays = leaves.1.others

  left_seated : AreSeated a.shape captures next' a'.seats rest
  left_seated = others_seated slot a.seats a'.seats stays a.shape captures next' next' rest (omega arith) others kept

  left_all : HasSeats a'.seats rest
  left_all k live = by (slot == k) refl
    where
      by : (b : Bool) → (slot == k) ≡ b → list_any (λ (s : MeanSeat). s.slot == k) rest ≡ true
      by b e = search rules

  left_some : has_member a'.seats ≡ not (is_empty rest)
  left_some = seated_some a.shape captures next' a'.seats rest left_all left_seated

  pub left_window : a'.window ≡ cond (is_empty rest) no_window a.window
  left_window = search (rules, left_some)

  pub left_sound : IsSeating a' captures next' starts' rest
  left_sound = search (rules, left_seated, left_all, left_window)

  pub left_members : map (mean_member a'.seats) rest ≡ map (mean_member a.seats) rest
  left_members = others_told slot a.seats a'.seats stays rest others

  -- the device by what it was, with the window that is left
  pub left_with : (plugged : Bool) (totals : Totals) → told_with a' plugged starts' next' captures totals (map (mean_member a'.seats) rest)
      ≡ record (told_with a plugged starts' next' captures totals (map (mean_member a.seats) rest)) { window = cond (is_empty rest) no_window a.window }
  left_with plugged totals = search (rules, left_window, left_members)

-- ---- the member of a number leaves

module _ (number slot : ℕ) (slots : List (Option Membership)) where
  lost_is : (seats : List MeanSeat) → slot_by number seats ≡ Some slot
      → lost_by number (map (mean_member slots) seats) ≡ Some (option_map_or (λ (m : Membership). m.queue.lost) (member_at slot slots) 0)
  lost_is [] e = absurd (cc)
  lost_is (s ∷ ss) e = search (rules, lost_is ss)

without_is : (number : ℕ) (slots : List (Option Membership)) (seats : List MeanSeat)
    → without number (map (mean_member slots) seats) ≡ map (mean_member slots) (seats_without number seats)
without_is number slots [] = refl
without_is number slots (s ∷ ss) = search (rules, without_is number slots ss)

module _ (a a' : AverageRecord) (b : Bool) (number slot captures next starts : ℕ) (seats : List MeanSeat) (found : slot_by number seats ≡ Some slot)
    (left_by : Leaves slot b a a') (sound : IsSeating a captures next starts seats) where
  live_at : (ss : List MeanSeat) → slot_by number ss ≡ Some slot → AreSeated a.shape captures next a.seats ss → is_some (member_at slot a.seats) ≡ true
  live_at [] e all = absurd (cc)
  live_at (s ∷ ss) e all = by (s.number == number) e (λ f. live_at ss f all.1)
    where
      by : (c : Bool) → cond c (Some s.slot) (slot_by number ss) ≡ Some slot → (slot_by number ss ≡ Some slot → is_some (member_at slot a.seats) ≡ true)
          → is_some (member_at slot a.seats) ≡ true
      by c f later = search rules

  leaves_left : Leaves slot true a a'
  leaves_left = leaves_live slot b a a' (live_at seats found sound.seated) left_by

  others_left : AreOthers slot (seats_without number seats)
  others_left = without_others number slot seats found sound.apart

  kept_left : AreSeated a.shape captures next a.seats (seats_without number seats)
  kept_left = all_kept (λ (s : MeanSeat). not (s.number == number)) (IsSeated a.shape captures next a.seats) seats sound.seated

  apart_left : AreApart (map slot_of (seats_without number seats))
  apart_left = distinct_kept (λ (s : MeanSeat). not (s.number == number)) slot_of seats sound.apart

  once_left : AreApart (map mean_number_of (seats_without number seats))
  once_left = distinct_kept (λ (s : MeanSeat). not (s.number == number)) mean_number_of seats sound.once

  there_left : (k : ℕ) → (slot == k) ≡ false → list_any (λ (s : MeanSeat). s.slot == k) seats ≡ true
      → list_any (λ (s : MeanSeat). s.slot == k) (seats_without number seats) ≡ true
  there_left k other any = without_any number slot k seats other found sound.once any

  begun_left : starts + (length (seats_without number seats) - 1) ≤ next
  begun_left = let few = fewer_kept (λ (s : MeanSeat). not (s.number == number)) seats in let old = sound.begun in omega (arith, few, old)

  pub gone_sound : IsSeating a' captures next starts (seats_without number seats)
  gone_sound = search (rules, left_sound, leaves_left, others_left, kept_left, apart_left, once_left, there_left, begun_left)

  pub gone_told : (plugged : Bool) (totals totals' : Totals) (lost : ℕ)
      → lost ≡ unwrap_or (option_map (λ (m : Membership). m.queue.lost) (member_at slot a.seats)) 0 → totals' ≡ with_lost lost totals
      → told_with a' plugged starts next captures totals' (map (mean_member a'.seats) (seats_without number seats))
      ≡ station_after_leave number (told_with a plugged starts next captures totals (map (mean_member a.seats) seats))
  gone_told plugged totals totals' lost lost_of is =
      left_with a a' slot captures next next starts starts seats (seats_without number seats) leaves_left sound others_left kept_left apart_left once_left
      there_left begun_left plugged totals'
      ∙ rw (
        lost_is number slot a.seats seats found,
        without_is number a.seats seats,
        empty_map (mean_member a.seats) seats,
        empty_map (mean_member a.seats)
            (seats_without number seats),
        slot_found number slot seats found,
      )
      (ap (λ (t : Totals). (let st : Station =
      record (told_with a plugged starts next captures t (map (mean_member a.seats) (seats_without number seats)))
      { window = cond (is_empty (seats_without number seats)) no_window a.window } in st))
      (is ∙ ap (λ (n : ℕ). with_lost n totals) (lost_of ∙ either (member_at slot a.seats))))
    where
      either : (o : Option Membership) → unwrap_or (option_map (λ (m : Membership). m.queue.lost) o) 0 ≡ option_map_or (λ (m : Membership). m.queue.lost) o 0
      either o = search rules

-- ---- no member has that number

module _ (number : ℕ) (slots : List (Option Membership)) where
  none_lost : (seats : List MeanSeat) → slot_by number seats ≡ None → lost_by number (map (mean_member slots) seats) ≡ None
  none_lost [] e = refl
  none_lost (s ∷ ss) e = search (rules, none_lost ss)

  none_without : (seats : List MeanSeat) → slot_by number seats ≡ None → without number (map (mean_member slots) seats) ≡ map (mean_member slots) seats
  none_without [] e = refl
  none_without (s ∷ ss) e = search (rules, none_without ss)

pub nobody_left : (a : AverageRecord) (plugged : Bool) (number starts next captures : ℕ) (totals : Totals) (seats : List MeanSeat) → slot_by number seats ≡ None
    → told_with a plugged starts next captures totals (map (mean_member a.seats) seats)
    ≡ station_after_leave number (told_with a plugged starts next captures totals (map (mean_member a.seats) seats))
nobody_left a plugged number starts next captures totals seats none = search (rules, none_lost, none_without)

-- ---- a joining is undone

abbrev front : {A : Type 0} → List A → List A
front [] = []
front (x ∷ []) = []
front (x ∷ y ∷ ys) = x ∷ front (y ∷ ys)

front_push : {A : Type 0} (xs : List A) (y : A) → front (xs ++ y ∷ []) ≡ xs
front_push [] y = refl
front_push (x ∷ []) y = refl
front_push {A = A} (x ∷ z ∷ zs) y = ap (λ (ys : List A). x ∷ ys) (front_push (z ∷ zs) y)

-- the device before a joining
abbrev back : Station → Station
back st = record st {
  next = st.next - 1;
  members = front st.members;
  site = cond (is_empty (front st.members)) (record st.site { attachment = st.site.attachment - 1 }) st.site;
}

back_joined : (mask capacity : ℕ) (st : Station) → back (station_after_join mask capacity false None st) ≡ st
back_joined mask capacity st = search (rules, front_push)

-- the numbers of the others are below the last one's
lowered : (shape : ShapeRecord) (captures next n : ℕ) (slots : List (Option Membership)) (seats : List MeanSeat) → next ≡ n + 1
    → AllByRecursion (λ y. (n == y) ≡ false) (map mean_number_of seats)
    → AreSeated shape captures next slots seats → AreSeated shape captures n slots seats
lowered shape captures next n slots [] is apart all = tt
lowered shape captures next n slots (s ∷ ss) is apart all = search (rules, lowered shape captures next n slots ss is apart.1 all.1)

module _ (a a' : AverageRecord) (b : Bool) (mask : Mask) (capacity captures next starts : ℕ) (plugged : Bool) (totals : Totals) (init : List MeanSeat)
    (last : MeanSeat)
    (left_by : Leaves last.slot b a a') (sound : IsSeating a captures next starts (init ++ last ∷ []))
    (had : HasJoined mask capacity (told_with a plugged starts next captures totals (map (mean_member a.seats) (init ++ last ∷ [])))) where
  next_is : next ≡ had.0.next + 1
  next_is = ap (λ (st : Station). st.next) had.1

  last_is : last.number ≡ had.0.next
  last_is = grind (arith, common_steps)

  next_last : next ≡ last.number + 1
  next_last = omega (arith, next_is, last_is)

  others_by : AreOthers last.slot init
  others_by = last_apart (map slot_of init) last.slot (subst AreApart (map_push slot_of init last) sound.apart)

  numbers_by : AllByRecursion (λ y. (last.number == y) ≡ false) (map mean_number_of init)
  numbers_by = last_apart (map mean_number_of init) last.number (subst AreApart (map_push mean_number_of init last) sound.once)

  live_last : is_some (member_at last.slot a.seats) ≡ true
  live_last = (all_last (IsSeated a.shape captures next a.seats) init last sound.seated).live

  went : Leaves last.slot true a a'
  went = leaves_live last.slot b a a' live_last left_by

  less_next : last.number ≡ next - 1
  less_next = omega (arith, next_last)

  kept_by : AreSeated a.shape captures (next - 1) a.seats init
  kept_by = subst (λ (n : ℕ). AreSeated a.shape captures n a.seats init) less_next
      (lowered a.shape captures next last.number a.seats init next_last numbers_by (all_front (IsSeated a.shape captures next a.seats) init last sound.seated))

  there_by : (k : ℕ) → (last.slot == k) ≡ false → list_any (λ (s : MeanSeat). s.slot == k) (init ++ last ∷ []) ≡ true
      → list_any (λ (s : MeanSeat). s.slot == k) init ≡ true
  there_by k other any = any_front (λ (s : MeanSeat). s.slot == k) init last other any

  begun_by : cond (is_empty init) (starts - 1) starts + (length init - 1) ≤ next - 1
  begun_by = grind (arith, common_steps)

  apart_by : AreApart (map slot_of init)
  apart_by = distinct_front (map slot_of init) last.slot (subst AreApart (map_push slot_of init last) sound.apart)

  once_by : AreApart (map mean_number_of init)
  once_by = distinct_front (map mean_number_of init) last.number (subst AreApart (map_push mean_number_of init last) sound.once)

  pub undone_sound : IsSeating a' captures (next - 1) (cond (is_empty init) (starts - 1) starts) init
  undone_sound = search (rules, left_sound, went, others_by, kept_by, apart_by, once_by, there_by, begun_by)

  window_was : cond (is_empty init) no_window a.window ≡ a.window
  window_was = grind (arith, common_steps)

  back_is : told_with a plugged (cond (is_empty init) (starts - 1) starts) (next - 1) captures totals (map (mean_member a.seats) init)
      ≡ back (told_with a plugged starts next captures totals (map (mean_member a.seats) (init ++ last ∷ [])))
  back_is = search (rules, map_push, front_push)

  pub undone_told : (before : Station)
      → told_with a plugged starts next captures totals (map (mean_member a.seats) (init ++ last ∷ []))
      ≡ station_after_join mask.bits capacity false None before
      → told_with a' plugged (cond (is_empty init) (starts - 1) starts) (next - 1) captures totals (map (mean_member a'.seats) init) ≡ before
  undone_told before e =
      left_with a a' last.slot captures next (next - 1) starts (cond (is_empty init) (starts - 1) starts) (init ++ last ∷ []) init went sound others_by kept_by
      apart_by once_by there_by begun_by plugged totals
      ∙ ap (λ (w : Window). (let st : Station =
      record (told_with a plugged (cond (is_empty init) (starts - 1) starts) (next - 1) captures totals (map (mean_member a.seats) init)) { window = w } in st))
      window_was
      ∙ back_is ∙ ap back e ∙ back_joined mask.bits capacity before
