-- Takes of the members of an averaging device, as an `Iio` tells them.
use Rattle.std.proofs.Common.{◌≡◌, ℕ, ◌+◌, ◌-◌, ◌*◌, ◌<◌, ◌≤◌, Bool, true, false, List, [], ◌∷◌, map, take, drop, length, Option, Some, None, IfSome, refl, sym, ap, subst, ◌∙◌, arith, cond, unwrap_or, length-take, rules}
use Rattle.std.proofs.lemmas.Grind.{common_steps}
use Rattle.std.specs.Prelude.{◌==◌, ◌&&◌, ◌≢◌, is_some, option_map}
use Rattle.std.specs.List.{AllByRecursion, IsDistinct}
use Rattle.std.specs.Option.{option_map_or}
use Rattle.iio_layout.specs.Layout.{scan_size}
use Rattle.iio_layout.specs.Shape.{ShapeRecord}
use Rattle.iio_kfifo.specs.Queue.{Queue}
use Rattle.iio_device.specs.Totals.{with_bytes, with_given, with_scan}
use Rattle.iio_device.specs.declared.totals.Totals.{Totals}
use Rattle.iio_derive.specs.declared.members.Membership.{Membership}
use Rattle.iio_derive.specs.Average.{AverageRecord, TakesOf, TakesScansOf}
use Rattle.iio_derive.specs.Members.{Drains, DrainsScans, member_at}
use Rattle.iiod_commands.specs.declared.iio.Took.{Took}
use Rattle.iiod_commands.specs.declared.iio.Took.TheVariants.{Scan}
use Rattle.iio_core.specs.Machine.{Member, MemberId, Station, scans_in, with_scans}
use Rattle.iio_kinds.specs.declared.mean_device.MeanSeat.{MeanSeat}
use Rattle.iio_kinds.specs.Acting.{TakesAt, TakesScansAt, lost_in, nothing_at}
use Rattle.iio_kinds.specs.Inner.{AreApart}
use Rattle.iio_kinds.specs.MeanStation.{mean_member}
use Rattle.iio_kinds.specs.Seated.{AreSeated, HasSeats, IsSeated, IsSeating, IsWide, slot_at, slot_of}
use Rattle.iio_kinds.proofs.SeatLemmas.{KeepsOthers, mean_with, others_told, told_with}
use Rattle.iio_kinds.proofs.TakeLemmas.{given_bytes, none_taken}

-- ---- queues that change

-- a slot keeps the mask, the capacity and the size that it had, and was offered at most that number of scans more
abbrev pub IsLike : (more : ℕ) → (old new : Option Membership) → Type 0
IsLike k None new = new ≡ None
IsLike k (Some m) None = ⊥
IsLike k (Some m) (Some x) =
    (x.mask ≡ m.mask) × (x.queue.capacity ≡ m.queue.capacity) × (x.queue.size ≡ m.queue.size)
    × (x.queue.taken + x.queue.lost ≤ m.queue.taken + m.queue.lost + k)

pub like_same : (k : ℕ) (o : Option Membership) → IsLike k o o
like_same k o = search rules

seat_like : (k : ℕ) (shape : ShapeRecord) (captures next : ℕ) (s : MeanSeat) (slots slots' : List (Option Membership)) (o o' : Option Membership)
    → member_at s.slot slots ≡ o → member_at s.slot slots' ≡ o' → IsLike k o o' → IsSeated shape captures next slots s
    → IsSeated shape (captures + k) next slots' s
seat_like k shape captures next s slots slots' o o' e e' like seat = search rules

module _ (k : ℕ) (slots slots' : List (Option Membership)) (like : (n : ℕ) → IsLike k (member_at n slots) (member_at n slots')) where
  pub like_seated : (shape : ShapeRecord) (captures next : ℕ) (seats : List MeanSeat) → AreSeated shape captures next slots seats
      → AreSeated shape (captures + k) next slots' seats
  like_seated shape captures next [] all = tt
  like_seated shape captures next (s ∷ ss) all = search (rules, seat_like, like_seated shape captures next ss all.1)

  pub like_has : (seats : List MeanSeat) → HasSeats slots seats → HasSeats slots' seats
  like_has seats has = search rules

pub sound_like : (a a' : AverageRecord) (captures next starts : ℕ) (seats : List MeanSeat) → a' ≡ record a { seats = a'.seats }
    → ((n : ℕ) → IsLike 0 (member_at n a.seats) (member_at n a'.seats))
    → IsSeating a captures next starts seats → IsSeating a' captures next starts seats
sound_like a a' captures next starts seats is like sound =
    let none : captures + 0 ≡ captures = omega arith in
    record {
      seated = search (rules, like_seated);
      apart = sound.apart;
      once = sound.once;
      all = like_has 0 a.seats a'.seats like seats sound.all;
      idle = λ e. let new = sound.idle e in (ap (λ (x : AverageRecord). x.window.count) is ∙ new.0, ap (λ (x : AverageRecord). x.window.sums) is ∙ new.1);
      wide = subst (λ (x : AverageRecord). IsWide x.shape x.window) (sym is) sound.wide;
      begun = sound.begun;
    }

-- ---- the member that is found

abbrev pub scans_at : Option Membership → List (List ℕ)
scans_at o = option_map_or (λ (m : Membership). m.queue.scans) o []

abbrev pub lost_at : Option Membership → ℕ
lost_at o = option_map_or (λ (m : Membership). m.queue.lost) o 0

module _ (id : MemberId) (slot : ℕ) where
  found_in : (P : ℕ → Type 0) (seats : List MeanSeat) → slot_at id seats ≡ Some slot → AllByRecursion P (map slot_of seats) → P slot
  found_in P [] e all = absurd (cc)
  found_in P (s ∷ ss) e all = by (s.number == id.number && s.mask.bits == id.mask) e (λ f. found_in P ss f all.1)
    where
      by : (b : Bool) → cond b (Some s.slot) (slot_at id ss) ≡ Some slot → (slot_at id ss ≡ Some slot → P slot) → P slot
      by b f later = search rules

  pub scans_found : (slots : List (Option Membership)) (seats : List MeanSeat) → slot_at id seats ≡ Some slot
      → scans_in id (map (mean_member slots) seats) ≡ scans_at (member_at slot slots)
  scans_found slots [] e = absurd (cc)
  scans_found slots (s ∷ ss) e = search (rules, slot_at, scans_found slots ss)

  pub lost_found : (slots : List (Option Membership)) (seats : List MeanSeat) → slot_at id seats ≡ Some slot
      → lost_in id (map (mean_member slots) seats) ≡ lost_at (member_at slot slots)
  lost_found slots [] e = absurd (cc)
  lost_found slots (s ∷ ss) e = search (rules, slot_at, lost_found slots ss)

  module _ (slots slots' : List (Option Membership)) (scans : List (List ℕ)) (same : KeepsOthers slot slots slots')
      (left : scans_at (member_at slot slots') ≡ scans) (lost : lost_at (member_at slot slots') ≡ lost_at (member_at slot slots)) where
    -- the member's scans are changed
    pub scans_changed : (seats : List MeanSeat) → slot_at id seats ≡ Some slot → AreApart (map slot_of seats)
        → map (mean_member slots') seats ≡ with_scans id scans (map (mean_member slots) seats)
    unfolding IsDistinct
    scans_changed [] e apart = absurd (cc)
    scans_changed (s ∷ ss) e apart = by (s.number == id.number && s.mask.bits == id.mask) e (λ f. scans_changed ss f apart.1)
      where
        by : (b : Bool) → cond b (Some s.slot) (slot_at id ss) ≡ Some slot
            → (slot_at id ss ≡ Some slot → map (mean_member slots') ss ≡ with_scans id scans (map (mean_member slots) ss))
            → map (mean_member slots') (s ∷ ss)
            ≡ cond b (record (mean_member slots s) { scans = scans } ∷ map (mean_member slots) ss)
            (mean_member slots s ∷ with_scans id scans (map (mean_member slots) ss))
        by true f later =
            let own : s.slot ≡ slot = cc in
            ap (λ (xs : List (List ℕ)). (let x : Member = record (mean_with s None) { scans = xs; lost = lost_at (member_at s.slot slots') } in x)
            ∷ map (mean_member slots') ss)
            (ap (λ (n : ℕ). scans_at (member_at n slots')) own ∙ left)
            ∙ ap (λ (n : ℕ). (let x : Member = record (mean_with s None) { scans = scans; lost = n } in x) ∷ map (mean_member slots') ss)
            (ap (λ (n : ℕ). lost_at (member_at n slots')) own ∙ lost ∙ ap (λ (n : ℕ). lost_at (member_at n slots)) (sym own))
            ∙ ap (λ (ms : List Member). (let x : Member = record (mean_member slots s) { scans = scans } in x) ∷ ms)
            (others_told slot slots slots' same ss (subst (λ (n : ℕ). AllByRecursion (λ y. (n == y) ≡ false) (map slot_of ss)) own apart.0))
        by false f later =
            let other : (s.slot == slot) ≡ false = found_in (λ y. (s.slot == y) ≡ false) ss f apart.0 in
            let here : member_at s.slot slots' ≡ member_at s.slot slots = search rules in
            ap (λ (o : Option Membership). mean_with s o ∷ map (mean_member slots') ss) here ∙ ap (λ (ms : List Member). mean_member slots s ∷ ms) (later f)

module _ (id : MemberId) (slot : ℕ) (shape : ShapeRecord) (captures next : ℕ) (slots : List (Option Membership)) where
  found_live : (ss : List MeanSeat) → slot_at id ss ≡ Some slot → AreSeated shape captures next slots ss → is_some (member_at slot slots) ≡ true
  found_live [] e all = absurd (cc)
  found_live (s ∷ ss) e all = by (s.number == id.number && s.mask.bits == id.mask) e (λ f. found_live ss f all.1)
    where
      by : (b : Bool) → cond b (Some s.slot) (slot_at id ss) ≡ Some slot → (slot_at id ss ≡ Some slot → is_some (member_at slot slots) ≡ true)
          → is_some (member_at slot slots) ≡ true
      by b f later = search rules

  found_size : (m : Membership) → member_at slot slots ≡ Some m → (ss : List MeanSeat) → slot_at id ss ≡ Some slot → AreSeated shape captures next slots ss
      → m.queue.size ≡ scan_size shape id.mask
  found_size m e [] f all = absurd (cc)
  found_size m e (s ∷ ss) f all = by (s.number == id.number && s.mask.bits == id.mask) refl f (λ g. found_size m e ss g all.1)
    where
      by : (b : Bool) → (s.number == id.number && s.mask.bits == id.mask) ≡ b → cond b (Some s.slot) (slot_at id ss) ≡ Some slot
          → (slot_at id ss ≡ Some slot → m.queue.size ≡ scan_size shape id.mask)
          → m.queue.size ≡ scan_size shape id.mask
      by b q g later = search rules

-- everything in the slots is the same
pub all_told : (slots slots' : List (Option Membership)) → ((n : ℕ) → member_at n slots' ≡ member_at n slots) → (seats : List MeanSeat)
    → map (mean_member slots') seats ≡ map (mean_member slots) seats
all_told slots slots' same [] = refl
all_told slots slots' same (s ∷ ss) = search rules

-- nothing is there
module _ (id : MemberId) (slots : List (Option Membership)) where
  pub scans_missing : (seats : List MeanSeat) → slot_at id seats ≡ None → scans_in id (map (mean_member slots) seats) ≡ []
  scans_missing [] e = refl
  scans_missing (s ∷ ss) e = search (rules, slot_at, scans_missing ss)

  pub lost_missing : (seats : List MeanSeat) → slot_at id seats ≡ None → lost_in id (map (mean_member slots) seats) ≡ 0
  lost_missing [] e = refl
  lost_missing (s ∷ ss) e = search (rules, slot_at, lost_missing ss)

-- ---- the member's counts

pub waiting_told : (id : MemberId) (slot : ℕ) (slots : List (Option Membership)) (seats : List MeanSeat) → slot_at id seats ≡ Some slot
    → unwrap_or (option_map (λ (m : Membership). length m.queue.scans) (member_at slot slots)) 0 ≡ length (scans_in id (map (mean_member slots) seats))
waiting_told id slot slots seats found =
    by (member_at slot slots) ∙ ap (λ (scans : List (List ℕ)). length scans) (sym (scans_found id slot slots seats found))
  where
    by : (o : Option Membership) → unwrap_or (option_map (λ (m : Membership). length m.queue.scans) o) 0 ≡ length (scans_at o)
    by o = search rules

pub lost_told : (id : MemberId) (slot : ℕ) (slots : List (Option Membership)) (seats : List MeanSeat) → slot_at id seats ≡ Some slot
    → unwrap_or (option_map (λ (m : Membership). m.queue.lost) (member_at slot slots)) 0 ≡ lost_in id (map (mean_member slots) seats)
lost_told id slot slots seats found = by (member_at slot slots) ∙ sym (lost_found id slot slots seats found)
  where
    by : (o : Option Membership) → unwrap_or (option_map (λ (m : Membership). m.queue.lost) o) 0 ≡ lost_at o
    by o = search rules

-- ---- one scan

pub no_scan : (id : MemberId) (took : Took) (out : List ℕ) (old new : Station) → scans_in id old.members ≡ [] → new ≡ old → took ≡ nothing_at new
    → TakesAt id took out old new
no_scan id took out old new none same answer = search rules

pub no_scans : (id : MemberId) (most : ℕ) (took : Took) (before after : List ℕ) (old new : Station) → after ≡ before → scans_in id old.members ≡ [] → new ≡ old
    → took ≡ nothing_at new
    → TakesScansAt id most took before after old new
no_scans id most took before after old new e none same answer = search rules

-- the text from a place on
pub rest_is : (place : ℕ) (text : List ℕ) → take (length text - place) (drop place text) ≡ drop place text
rest_is place text = grind (arith, common_steps)

module _ (a a' : AverageRecord) (id : MemberId) (slot captures next starts : ℕ) (plugged : Bool) (totals : Totals) (seats : List MeanSeat)
    (found : slot_at id seats ≡ Some slot) (sound : IsSeating a captures next starts seats) where
  abbrev told : AverageRecord → Totals → Station
  told x t = told_with x plugged starts next captures t (map (mean_member x.seats) seats)

  module _ (is : a' ≡ record a { seats = a'.seats }) (others : KeepsOthers slot a.seats a'.seats) where
    -- the queue in the slot before and after
    module _ (m x : Membership) (old : member_at slot a.seats ≡ Some m) (new : member_at slot a'.seats ≡ Some x)
        (moved : x ≡ record m { queue = x.queue }) where
      waited : scans_in id (map (mean_member a.seats) seats) ≡ m.queue.scans
      waited = scans_found id slot a.seats seats found ∙ ap scans_at old

      module _ (same : x.queue ≡ record m.queue { scans = x.queue.scans }) where
        like : (n : ℕ) → IsLike 0 (member_at n a.seats) (member_at n a'.seats)
        like n = search rules

        pub moved_sound : IsSeating a' captures next starts seats
        moved_sound = sound_like a a' captures next starts seats is like sound

        pub moved_told : (t : Totals)
            → told a' t ≡ (let st : Station = record (told a totals) { totals = t; members = with_scans id x.queue.scans (told a totals).members } in st)
        moved_told t =
            ap (λ (y : AverageRecord). told_with y plugged starts next captures t (map (mean_member a'.seats) seats)) is
            ∙ ap (λ (ms : List Member). told_with a plugged starts next captures t ms)
            (scans_changed id slot a.seats a'.seats x.queue.scans others (ap scans_at new)
            (ap lost_at new ∙ ap (λ (q : Queue). q.lost) same ∙ sym (ap lost_at old)) seats found sound.apart)

      -- nothing changed
      module _ (same : x.queue ≡ m.queue) where
        equal : (n : ℕ) → member_at n a'.seats ≡ member_at n a.seats
        equal n = search rules

        pub still_told : told a' totals ≡ told a totals
        still_told = search (rules, all_told, equal)

        pub still_sound : IsSeating a' captures next starts seats
        still_sound = search (rules, sound_like, equal, like_same)

  -- ---- a take

  live : is_some (member_at slot a.seats) ≡ true
  live = found_live id slot a.shape captures next a.seats seats found sound.seated

  scan_by : (out out' : List ℕ) (is : a' ≡ record a { seats = a'.seats }) (others : KeepsOthers slot a.seats a'.seats) (o o' : Option Membership)
      → member_at slot a.seats ≡ o → member_at slot a'.seats ≡ o'
      → Drains true out out' o o' → TakesAt id Scan out' (told a totals) (told a' (with_scan out' totals))
  scan_by out out' is others None o' e e' d = absurd d
  scan_by out out' is others (Some m) None e e' d = absurd d
  scan_by out out' is others (Some m) (Some x) e e' d =
      let first : scans_in id (map (mean_member a.seats) seats) ≡ out' ∷ x.queue.scans = waited is others m x e e' d.0 ∙ d.1.first in
      let left : drop 1 (scans_in id (map (mean_member a.seats) seats)) ≡ x.queue.scans = ap (λ (q : List (List ℕ)). drop 1 q) first in
      rw left (first, moved_told is others m x e e' d.0 d.1.same (with_scan out' totals))

  pub scan_taken : (o : Option Bool) (out out' : List ℕ) → unwrap_or o false ≡ true → TakesOf slot o out out' a a'
      → TakesAt id Scan out' (told a totals) (told a' (with_scan out' totals))
  scan_taken o out out' e takes = search (rules, scan_by)

  -- the two that a take leaves, by whether a scan was there
  abbrev Left : Option Membership → Option Membership → Type 0
  Left o o' = (scans_at o ≡ []) × (told a' totals ≡ told a totals)

  none_by : (out out' : List ℕ) (is : a' ≡ record a { seats = a'.seats }) (others : KeepsOthers slot a.seats a'.seats) (o o' : Option Membership)
      → member_at slot a.seats ≡ o → member_at slot a'.seats ≡ o'
      → Drains false out out' o o' → Left o o'
  none_by out out' is others None o' e e' d = absurd d
  none_by out out' is others (Some m) None e e' d = absurd d
  none_by out out' is others (Some m) (Some x) e e' d = (d.1.0, still_told is others m x e e' d.0 d.1.1)

  pub scan_missed : (took : Took) (o : Option Bool) (out out' : List ℕ) → unwrap_or o false ≡ false → TakesOf slot o out out' a a'
      → took ≡ nothing_at (told a' totals) → TakesAt id took out' (told a totals) (told a' totals)
  scan_missed took o out out' e takes answer = search (rules, live, none_by, no_scan, scans_found)

  drained_sound : (given : Bool) (out out' : List ℕ) (is : a' ≡ record a { seats = a'.seats }) (others : KeepsOthers slot a.seats a'.seats)
      (o o' : Option Membership) → member_at slot a.seats ≡ o → member_at slot a'.seats ≡ o'
      → Drains given out out' o o' → IsSeating a' captures next starts seats
  drained_sound given out out' is others o o' e e' d = search (rules, moved_sound, still_sound)

  pub taken_sound : (o : Option Bool) (out out' : List ℕ) → TakesOf slot o out out' a a' → IsSeating a' captures next starts seats
  taken_sound o out out' takes = search (rules, drained_sound)

  -- ---- several scans

  module _ (most count : ℕ) (before after : List ℕ) (is : a' ≡ record a { seats = a'.seats }) (others : KeepsOthers slot a.seats a'.seats) where
    module _ (m x : Membership) (e : member_at slot a.seats ≡ Some m) (e' : member_at slot a'.seats ≡ Some x)
        (d : DrainsScans most count before after (Some m) (Some x)) where
      rest : x.queue.scans ≡ drop most m.queue.scans
      rest = ap (λ (q : Queue). q.scans) d.1.same

      alone : x.queue ≡ record m.queue { scans = x.queue.scans }
      alone = d.1.same ∙ ap (λ (xs : List (List ℕ)). (let q : Queue = record m.queue { scans = xs } in q)) (sym rest)

      counted : count ≡ length (take most m.queue.scans)
      counted = d.1.count ∙ sym (length-take most m.queue.scans)

      totalled : with_bytes count (drop (length before) after) totals ≡ with_given (take most m.queue.scans) totals
      totalled = grind (arith, common_steps, counted, given_bytes)

      several : 0 < count → TakesScansAt id most Scan before after (told a totals) (told a' (with_bytes count (drop (length before) after) totals))
      several some =
          rw (waited is others m x e e' d.0) (
            omega (arith, counted, some),
            d.1.bytes,
            rw (totalled, sym rest) (moved_told is others m x e e' d.0 alone (with_given (take most m.queue.scans) totals)),
          )

      none : 1 ≤ most → count ≡ 0 → m.queue.scans ≡ []
      none some few = none_taken most m.queue.scans some (sym counted ∙ few)

      unmoved : 1 ≤ most → count ≡ 0 → x.queue ≡ m.queue
      unmoved some few = grind (arith, common_steps)

      no_bytes : 1 ≤ most → count ≡ 0 → after ≡ before
      no_bytes some few = grind (arith, common_steps)

    several_by : (o o' : Option Membership) → member_at slot a.seats ≡ o → member_at slot a'.seats ≡ o' → DrainsScans most count before after o o' → 0 < count
        → TakesScansAt id most Scan before after (told a totals) (told a' (with_bytes count (drop (length before) after) totals))
    several_by None o' e e' d some = absurd d
    several_by (Some m) None e e' d some = absurd d
    several_by (Some m) (Some x) e e' d some = several m x e e' d some

    none_several : (took : Took) (o o' : Option Membership) → member_at slot a.seats ≡ o → member_at slot a'.seats ≡ o'
        → DrainsScans most count before after o o' → 1 ≤ most → count ≡ 0
        → took ≡ nothing_at (told a' totals) → TakesScansAt id most took before after (told a totals) (told a' totals)
    none_several took None o' e e' d some few answer = absurd d
    none_several took (Some m) None e e' d some few answer = absurd d
    none_several took (Some m) (Some x) e e' d some few answer =
        no_scans id most took before after (told a totals) (told a' totals) (no_bytes m x e e' d some few)
        (waited is others m x e e' d.0 ∙ none m x e e' d some few)
        (still_told is others m x e e' d.0 (unmoved m x e e' d some few)) answer

    several_sound : (o o' : Option Membership) → member_at slot a.seats ≡ o → member_at slot a'.seats ≡ o' → DrainsScans most count before after o o'
        → IsSeating a' captures next starts seats
    several_sound o o' e e' d = search (rules, moved_sound, alone)

  pub scans_taken : (o : Option ℕ) (most : ℕ) (before after : List ℕ) → unwrap_or o 0 ≢ 0 → TakesScansOf slot most o before after a a'
      → TakesScansAt id most Scan before after (told a totals) (told a' (with_bytes (unwrap_or o 0) (drop (length before) after) totals))
  scans_taken o most before after some takes = search (rules, several_by)

  pub scans_missed : (took : Took) (o : Option ℕ) (most : ℕ) (before after : List ℕ) → unwrap_or o 0 ≡ 0 → 1 ≤ most
      → TakesScansOf slot most o before after a a' → took ≡ nothing_at (told a' totals)
      → TakesScansAt id most took before after (told a totals) (told a' totals)
  scans_missed took o most before after e some takes answer = search (rules, live, none_several)

  pub several_taken_sound : (o : Option ℕ) (most : ℕ) (before after : List ℕ) → TakesScansOf slot most o before after a a'
      → IsSeating a' captures next starts seats
  several_taken_sound o most before after takes = search (rules, several_sound)

  -- at most as many bytes as were asked for
  pub bytes_within : (o : Option ℕ) (most size : ℕ) (before after : List ℕ) → TakesScansOf slot most o before after a a'
      → IfSome (member_at slot a.seats) (λ m. length after ≡ length before + unwrap_or o 0 * m.queue.size)
      → ((m : Membership) → member_at slot a.seats ≡ Some m → m.queue.size ≡ size) → length after ≤ length before + most * size
  bytes_within None most size before after takes sized fits = absurd (let gone = takes.0 in let here = live in cc)
  bytes_within (Some count) most size before after takes sized fits = by (member_at slot a.seats) (member_at slot a'.seats) refl takes.1.moved sized
    where
      by : (o o' : Option Membership) → member_at slot a.seats ≡ o → DrainsScans most count before after o o'
          → IfSome o (λ m. length after ≡ length before + count * m.queue.size) → length after ≤ length before + most * size
      by o o' e d s = grind (arith, common_steps)

  -- the scans of the member that is found are of its mask
  pub size_is : (m : Membership) → member_at slot a.seats ≡ Some m → m.queue.size ≡ scan_size a.shape id.mask
  size_is m e = found_size id slot a.shape captures next a.seats m e seats found sound.seated

  -- hence a scan of that mask fits, and several of them do
  pub scan_fits : (size : ℕ) → size ≡ scan_size a.shape id.mask → IfSome (member_at slot a.seats) (λ (m : Membership). size ≡ m.queue.size)
  scan_fits size is = search (rules, size_is)

  pub several_fit : (before most room : ℕ) → before + most * scan_size a.shape id.mask ≤ room
      → IfSome (member_at slot a.seats) (λ (m : Membership). before + most * m.queue.size ≤ room)
  several_fit before most room fits = grind (arith, common_steps, size_is)
