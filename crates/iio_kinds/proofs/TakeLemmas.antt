-- A take from a member's queue, as the plain state has it.
use Rattle.std.proofs.Common.{◌≡◌, ℕ, ◌+◌, ◌*◌, ◌<◌, ◌≤◌, Bool, true, false, List, [], ◌∷◌, ◌++◌, map, length, take, drop, Option, Some, None, IfSome, refl, sym, ap, subst, ◌∙◌, arith, length-take, mul-le-mul_right, unwrap_or, rules}
use Rattle.std.proofs.lemmas.Grind.{common_steps}
use Rattle.std.specs.Prelude.{◌==◌}
use Rattle.std.specs.List.{AllByRecursion, IsDistinct, flat_map, sum}
use Rattle.std.specs.Option.{option_map_or}
use Rattle.std.proofs.lemmas.List.{drop_all}
use Rattle.std.proofs.lemmas.List.Concat.{flat_map-cons}
use Rattle.std.proofs.lemmas.List.Sums.{sum_by-append}
use Rattle.iio_layout.specs.Layout.{scan_size}
use Rattle.iio_layout.specs.Shape.{ShapeRecord}
use Rattle.iio_kfifo.specs.Queue.{Queue}
use Rattle.iio_device.specs.declared.membership.Membership.{Membership}
use Rattle.iio_device.specs.declared.totals.Totals.{Totals}
use Rattle.iio_device.specs.Device.{DeviceView}
use Rattle.iio_device.specs.Members.{member_of as membership_of}
use Rattle.iio_device.specs.Roster.{ChangesOne, Standing, Takes, TakesScans}
use Rattle.iio_device.specs.Totals.{with_bytes, with_given, with_taken}
use Rattle.iiod_commands.specs.declared.iio.Took.{Took}
use Rattle.iiod_commands.specs.declared.iio.Took.TheVariants.{Scan}
use Rattle.iio_core.specs.Machine.{Member, MemberId, Station, scans_in, with_scans}
use Rattle.iio_kinds.specs.Acting.{TakesAt, TakesScansAt, nothing_at}
use Rattle.iio_kinds.specs.Station.{member_of, station_of}
use Rattle.iio_kinds.proofs.CallLemmas.{IsUnder, scans_absent, scans_found, under_is}

module _ (id : MemberId) (took : Took) (v v' : DeviceView Queue) (none : scans_in id (map member_of v.standing.members) ≡ []) (same : v' ≡ v)
    (answer : took ≡ nothing_at (station_of v')) where
  pub nothing_taken : (scan : List ℕ) → TakesAt id took scan (station_of v) (station_of v')
  nothing_taken scan = search rules

  no_scans : (most : ℕ) (before after : List ℕ) → after ≡ before → TakesScansAt id most took before after (station_of v) (station_of v')
  no_scans most before after e = search rules

-- the view, if at most the members have changed
view_is : (v v' : DeviceView Queue) → v' ≡ record v { standing = v'.standing } → v'.standing ≡ v.standing → v' ≡ v
view_is v v' rest same = rest ∙ ap (λ (s : Standing Queue). (let x : DeviceView Queue = record v { standing = s } in x)) same

not_there : (size : ℕ) (v : DeviceView Queue) (o : Option (Membership Queue)) → IfSome o (λ m. size ≡ scan_size v.standing.shape m.mask.bits)
    → option_map_or (λ (m : Membership Queue). size == scan_size v.standing.shape m.mask.bits) o false ≡ false
    → option_map_or (λ (m : Membership Queue). m.tail.scans) o [] ≡ []
not_there size v o fits e = search rules

-- a member under the seat's mask has scans of the seat's size
fits_by : (id : MemberId) (n : ℕ) (shape : ShapeRecord) (o : Option (Membership Queue)) → IsUnder id o → n ≡ scan_size shape id.mask
    → IfSome o (λ m. n ≡ scan_size shape m.mask.bits)
fits_by id n shape o under e = search rules

pub take_none : (id : MemberId) (took : Took) (out out' : List ℕ) (v v' : DeviceView Queue) → IsUnder id (membership_of id.number v.standing.members)
    → length out ≡ scan_size v.standing.shape id.mask
    → Takes id.number None out out' v.standing v'.standing → v' ≡ record v { standing = v'.standing; totals = with_taken None out' v.totals }
    → took ≡ nothing_at (station_of v') → TakesAt id took out' (station_of v) (station_of v')
take_none id took out out' v v' under size takes rest e = search (rules, nothing_taken, scans_found, not_there, fits_by, view_is)

pub same_membership : (m x : Membership Queue) → x ≡ record m { tail = x.tail } → x.tail ≡ m.tail → x ≡ m
same_membership m x e t = e ∙ ap (λ (q : Queue). (let y : Membership Queue = record m { tail = q } in y)) t

pub found_passes : (n : ℕ) (ms : List (Membership Queue)) (m : Membership Queue) → membership_of n ms ≡ Some m → (m.number == n) ≡ true
found_passes n [] m e = absurd (cc)
found_passes n (x ∷ xs) m e = search (rules, found_passes n xs m)

apart_at : (n : ℕ) (xs ys : List (Membership Queue)) (m : Membership Queue)
    → AllByRecursion (λ y. (n == y) ≡ false) (map (λ (m : Membership Queue). m.number) (xs ++ m ∷ ys)) → (n == m.number) ≡ false
apart_at n [] ys m all = all.0
apart_at n (x ∷ xs) ys m all = apart_at n xs ys m all.1

changed_at : (id : MemberId) (scans : List (List ℕ)) (xs ys : List (Membership Queue)) (m c : Membership Queue)
    → IsDistinct (λ a b. a == b) (map (λ (m : Membership Queue). m.number) (xs ++ m ∷ ys)) → (m.number == id.number) ≡ true → (m.mask.bits == id.mask) ≡ true
    → member_of c ≡ record (member_of m) { scans = scans } → map member_of (xs ++ c ∷ ys) ≡ with_scans id scans (map member_of (xs ++ m ∷ ys))
unfolding IsDistinct
changed_at id scans [] ys m c distinct own mask e = rw (own, mask) (ap (λ (x : Member). x ∷ map member_of ys) e)
changed_at id scans (x ∷ xs) ys m c distinct own mask e = search (rules, apart_at, changed_at id scans xs ys m c distinct.1 own mask e)

-- one member's queue changes
module _ (id : MemberId) (v v' : DeviceView Queue) {R : Membership Queue → Membership Queue → Type 0}
    (one : ChangesOne id.number R v.standing.members v'.standing.members)
    (only : v'.standing ≡ record v.standing { members = v'.standing.members }) (under : IsUnder id (membership_of id.number v.standing.members)) where
  -- the scans that wait for it
  queue_told : scans_in id (map member_of v.standing.members) ≡ one.member.tail.scans
  queue_told = search (rules, scans_found)

  -- the view, if the queue is left as it was
  left_same : one.changed ≡ record one.member { tail = one.changed.tail } → one.changed.tail ≡ one.member.tail → v' ≡ record v { standing = v'.standing }
      → v' ≡ v
  left_same moved tail rest = search rules

  -- the device after scans of it were given and these are left
  gives : (given left : List (List ℕ)) → IsDistinct (λ a b. a == b) (map (λ (m : Membership Queue). m.number) v.standing.members)
      → one.changed ≡ record one.member { tail = one.changed.tail } → one.changed.tail ≡ record one.member.tail { scans = left }
      → v' ≡ record v { standing = v'.standing; totals = with_given given v.totals }
      → station_of v' ≡ record (station_of v) { totals = with_given given v.totals; members = with_scans id left (station_of v).members }
  gives given left distinct moved tail rest =
      let member : member_of one.changed ≡ record (member_of one.member) { scans = left }
      = ap member_of moved ∙ ap (λ (q : Queue). member_of (let y : Membership Queue = record one.member { tail = q } in y)) tail in
      let mask : (one.member.mask.bits == id.mask) ≡ true = subst (λ (o : Option (Membership Queue)). IsUnder id o) one.found under in
      let members : map member_of v'.standing.members ≡ with_scans id left (map member_of v.standing.members)
      = search (rules, changed_at, found_passes, with_scans) in
      ap station_of (rest ∙ ap (λ (s : Standing Queue). (let x : DeviceView Queue = record v { standing = s; totals = with_given given v.totals } in x)) only)
      ∙ ap (λ (ms : List Member). (let st : Station = record (station_of v) { totals = with_given given v.totals; members = ms } in st)) members

-- ---- one scan

take_empty_false : (id : MemberId) (took : Took) (out out' : List ℕ) (v v' : DeviceView Queue) → IsUnder id (membership_of id.number v.standing.members)
    → Takes id.number (Some false) out out' v.standing v'.standing → v' ≡ record v { standing = v'.standing; totals = with_taken (Some false) out' v.totals }
    → took ≡ nothing_at (station_of v') → TakesAt id took out' (station_of v) (station_of v')
take_empty_false id took out out' v v' under takes rest e =
    let one = takes.2 in
    nothing_taken id took v v' (queue_told id v v' one takes.1 under ∙ one.moved.moved.0)
    (left_same id v v' one takes.1 under one.moved.same one.moved.moved.1 rest) e out'

take_scan_true : (id : MemberId) (out out' : List ℕ) (v v' : DeviceView Queue) → IsUnder id (membership_of id.number v.standing.members)
    → IsDistinct (λ a b. a == b) (map (λ (m : Membership Queue). m.number) v.standing.members)
    → Takes id.number (Some true) out out' v.standing v'.standing → v' ≡ record v { standing = v'.standing; totals = with_taken (Some true) out' v.totals }
    → TakesAt id Scan out' (station_of v) (station_of v')
take_scan_true id out out' v v' under distinct takes rest =
    let one = takes.2 in
    let first : scans_in id (map member_of v.standing.members) ≡ out' ∷ one.changed.tail.scans = queue_told id v v' one takes.1 under ∙ one.moved.moved.first in
    let left : drop 1 (scans_in id (map member_of v.standing.members)) ≡ one.changed.tail.scans = ap (λ (q : List (List ℕ)). drop 1 q) first in
    rw left (first, gives id v v' one takes.1 under (out' ∷ []) one.changed.tail.scans distinct one.moved.same one.moved.moved.same rest)

pub take_empty : (id : MemberId) (took : Took) (b : Bool) (out out' : List ℕ) (v v' : DeviceView Queue)
    → IsUnder id (membership_of id.number v.standing.members) → b ≡ false
    → Takes id.number (Some b) out out' v.standing v'.standing → v' ≡ record v { standing = v'.standing; totals = with_taken (Some b) out' v.totals }
    → took ≡ nothing_at (station_of v') → TakesAt id took out' (station_of v) (station_of v')
take_empty id took b out out' v v' under e takes rest n = search (rules, take_empty_false)

pub take_scan : (id : MemberId) (b : Bool) (out out' : List ℕ) (v v' : DeviceView Queue) → IsUnder id (membership_of id.number v.standing.members) → b ≡ true
    → IsDistinct (λ a b. a == b) (map (λ (m : Membership Queue). m.number) v.standing.members)
    → Takes id.number (Some b) out out' v.standing v'.standing → v' ≡ record v { standing = v'.standing; totals = with_taken (Some b) out' v.totals }
    → TakesAt id Scan out' (station_of v) (station_of v')
take_scan id true out out' v v' under e distinct takes rest = take_scan_true id out out' v v' under distinct takes rest
take_scan id false out out' v v' under e distinct takes rest = absurd (cc)

-- ---- scans

zero_more : (n : ℕ) → n + 0 ≡ n
zero_more n = omega arith

-- scans that were taken count by their number and their bytes
pub given_bytes : (scans : List (List ℕ)) (t : Totals) → with_bytes (length scans) (flat_map (λ scan. scan) scans) t ≡ with_given scans t
given_bytes [] t = rw (zero_more t.scans, zero_more t.bytes) refl
given_bytes (scan ∷ scans) t =
    search (rules, sum, flat_map-cons, sum_by-append, given_bytes scans (record t { scans = t.scans + 1; bytes = t.bytes + sum scan }))

pub none_taken : (most : ℕ) (scans : List (List ℕ)) → 1 ≤ most → length (take most scans) ≡ 0 → scans ≡ []
none_taken most scans some e = search rules

module _ (id : MemberId) (most : ℕ) (before after : List ℕ) (v v' : DeviceView Queue)
    (distinct : IsDistinct (λ a b. a == b) (map (λ (m : Membership Queue). m.number) v.standing.members)) where
  -- the member is there
  module _ (count : ℕ) (takes : TakesScans id most (Some count) before after v.standing v'.standing)
      (rest : v' ≡ record v { standing = v'.standing; totals = with_bytes count (drop (length before) after) v.totals }) where
    under : IsUnder id (membership_of id.number v.standing.members)
    under = under_is id v.standing.members distinct takes.0

    abbrev waiting : List (List ℕ)
    waiting = takes.2.member.tail.scans

    queue : scans_in id (map member_of v.standing.members) ≡ waiting
    queue = queue_told id v v' takes.2 takes.1 under

    counted : count ≡ length (take most waiting)
    counted = takes.2.moved.moved.count ∙ sym (length-take most waiting)

    totals : with_bytes count (drop (length before) after) v.totals ≡ with_given (take most waiting) v.totals
    totals = grind (arith, common_steps, counted, given_bytes)

    given : v' ≡ record v { standing = v'.standing; totals = with_given (take most waiting) v.totals }
    given = rest ∙ ap (λ (t : Totals). (let x : DeviceView Queue = record v { standing = v'.standing; totals = t } in x)) totals

    none_waiting : (took : Took) → 1 ≤ most → count ≡ 0 → took ≡ nothing_at (station_of v')
        → TakesScansAt id most took before after (station_of v) (station_of v')
    none_waiting took some h1 e = search (rules, none_taken, counted, left_same, under, given, totals, no_scans, queue)

    scans_given : 0 < count → TakesScansAt id most Scan before after (station_of v) (station_of v')
    scans_given some =
        rw queue (
          omega (arith, counted, some),
          takes.2.moved.moved.bytes,
          gives id v v' takes.2 takes.1 under (take most waiting) (drop most waiting) distinct
              takes.2.moved.same takes.2.moved.moved.same given,
        )

  -- at most as many were taken as were asked for, and no more bytes
  few_taken : (result : Option ℕ) → TakesScans id most result before after v.standing v'.standing → unwrap_or result 0 ≤ most
  few_taken result takes = search rules

  pub bytes_within : (result : Option ℕ) (size : ℕ) → TakesScans id most result before after v.standing v'.standing
      → length after ≡ length before + unwrap_or result 0 * size
      → length after ≤ length before + most * size
  bytes_within result size takes sized = omega (arith, sized, mul-le-mul_right size (few_taken result takes))

  -- by what the device returns
  pub no_scans_taken : (took : Took) (result : Option ℕ) → TakesScans id most result before after v.standing v'.standing
      → v' ≡ record v { standing = v'.standing; totals = with_bytes (unwrap_or result 0) (drop (length before) after) v.totals } → 1 ≤ most
      → unwrap_or result 0 ≡ 0 → took ≡ nothing_at (station_of v')
      → TakesScansAt id most took before after (station_of v) (station_of v')
  no_scans_taken took result takes rest some h1 e = search (rules, drop_all, totals, given_bytes, view_is, no_scans, scans_absent, none_waiting)

  pub scans_taken : (result : Option ℕ) (count : ℕ) → TakesScans id most result before after v.standing v'.standing
      → v' ≡ record v { standing = v'.standing; totals = with_bytes (unwrap_or result 0) (drop (length before) after) v.totals } → result ≡ Some count
      → 0 < count
      → TakesScansAt id most Scan before after (station_of v) (station_of v')
  scans_taken None count takes rest is some = absurd (cc)
  scans_taken (Some n) count takes rest is some = scans_given n takes rest (let same : n ≡ count = cc in rw same some)
