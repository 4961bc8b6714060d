-- What a capture of its base and a look at its thresholds make of an averaging device, as an `Iio` tells it.
use Rattle.std.proofs.Common.{◌≡◌, ℕ, zero, suc, ◌+◌, ◌-◌, ◌^◌, ◌<◌, ◌≤◌, Bool, true, false, List, [], ◌∷◌, map, length, get_or, Option, Some, None, IfSome, refl, sym, ap, subst, ◌∙◌, arith, rules}
use Rattle.std.proofs.lemmas.Grind.{common_steps}
use Rattle.std.specs.Prelude.{◌==◌, ◌||◌, is_some, ℤ, pos}
use Rattle.std.specs.List.{list_any}
use Rattle.iio_scan_type.specs.declared.Endian.{Endian}
use Rattle.iio_mask.specs.Mask.{has}
use Rattle.iio_layout.specs.Laws.{count_is}
use Rattle.iio_layout.specs.Layout.{largest_below, size_at}
use Rattle.iio_layout.specs.Scan.{capture_values, field_of, first_value, front_below, padded, scan_of, values_by, with_field}
use Rattle.iio_layout.specs.Shape.{ShapeRecord, count_of, formats_of, width_of}
use Rattle.iio_layout.proofs.ValueLemmas.{data_field, values_by-list}
use Rattle.iio_desc.specs.Kind.{Average}
use Rattle.iio_device.specs.Sensing.{begun}
use Rattle.iio_device.specs.Site.{is_empty}
use Rattle.iio_device.specs.declared.totals.Totals.{Totals}
use Rattle.iio_derive.specs.declared.members.Membership.{Membership}
use Rattle.iio_derive.specs.Average.{Adds, AverageRecord, has_member}
use Rattle.iio_derive.specs.Members.{SeatOffered, member_at}
use Rattle.iio_derive.specs.ReadBack.{ReadingLaw}
use Rattle.iio_derive.specs.Values.{moment_in, value_in, values_in}
use Rattle.iio_derive.proofs.ReadLemmas.{length-values}
use Rattle.iio_derive.specs.Window.{added, means_of, sums_by, sums_with}
use Rattle.iio_core.specs.Machine.{Station}
use Rattle.iio_core.specs.Moves.{Capture, offered_to, station_after_look}
use Rattle.iio_kinds.specs.declared.mean_device.MeanSeat.{MeanSeat}
use Rattle.iio_kinds.specs.declared.mean_device.MeanDevice.{MeanDevice}
use Rattle.iio_kinds.specs.Handling.{IsScanOf, is_last, kind_gathered}
use Rattle.iio_kinds.specs.MeanStation.{mean_member, mean_station}
use Rattle.iio_kinds.specs.Seated.{AreSeated, IsMemberOf, IsSeating}
use Rattle.iio_kinds.proofs.OutLemmas.{idle_sensed}
use Rattle.iio_kinds.proofs.MeanTakes.{IsLike, like_has, like_seated}
use Rattle.iio_kinds.proofs.SeatLemmas.{differs, empty_map, mean_with, seated_some, told_with}

-- ---- a scan without a timestamp is the same at each moment

front_same : (shape : ShapeRecord) (mask : ℕ) (value : ℕ → ℕ → ℤ) (t t' : ℤ) (c : ℕ) → c ≤ length shape.channels
    → front_below (formats_of shape) mask (capture_values (values_by shape value) t') c
    ≡ front_below (formats_of shape) mask (capture_values (values_by shape value) t) c
front_same shape mask value t t' zero within = refl
front_same shape mask value t t' (suc c) within =
    let formats = formats_of shape in
    let size : ℕ = size_at formats c in
    let before = front_same shape mask value t t' c (omega arith) in
    let now = data_field shape value t c (omega arith) in
    let then = data_field shape value t' c (omega arith) in
    ap (λ front. with_field (has mask c) front size (field_of shape (values_by shape value) t' c)) before
    ∙ ap (λ field. with_field (has mask c) (front_below formats mask (capture_values (values_by shape value) t) c) size field) (sym then ∙ now)

unstamped : (shape : ShapeRecord) (mask : ℕ) (values : List ℤ) (t t' : ℤ) → shape.stamp ≡ None → length values ≡ width_of shape
    → scan_of shape mask values t' ≡ scan_of shape mask values t
unstamped shape mask values t t' none wide =
    let count : count_of shape ≡ length shape.channels = search (rules, count_is) in
    let value : ℕ → ℕ → ℤ = λ c k. get_or values (first_value (formats_of shape) c + k) (pos 0) in
    let front : front_below (formats_of shape) mask (capture_values values t') (count_of shape)
    ≡ front_below (formats_of shape) mask (capture_values values t) (count_of shape)
    =
    subst (λ (xs : List ℤ). front_below (formats_of shape) mask (capture_values xs t') (count_of shape)
    ≡ front_below (formats_of shape) mask (capture_values xs t) (count_of shape)) (values_by-list shape values wide)
    (front_same shape mask value t t' (count_of shape) (omega (arith, count))) in
    ap (λ (bytes : List ℕ). padded bytes (largest_below (formats_of shape) mask (count_of shape))) front
  where
    zero_more : (n : ℕ) → n + 0 ≡ n
    zero_more n = omega arith

-- hence a mean's scan is that of the capture's moment
pub mean_scan : ReadingLaw → (shape : ShapeRecord) (c : Capture) (scan : List ℕ) → IsScanOf shape c scan → (mask : ℕ) (values : List ℤ)
    → length values ≡ width_of shape
    → scan_of shape mask values (moment_in shape scan) ≡ scan_of shape mask values c.moment
mean_scan law shape c scan is mask values wide = by shape.stamp refl
  where
    by : (o : Option Endian) → shape.stamp ≡ o → scan_of shape mask values (moment_in shape scan) ≡ scan_of shape mask values c.moment
    by None e = unstamped shape mask values c.moment (moment_in shape scan) e wide
    by (Some endian) e =
        ap (λ (t : ℤ). scan_of shape mask values t) (ap (moment_in shape) is.is ∙ (law shape c.values c.moment is.values).moment endian e (is.moment endian))

pub values_read : ReadingLaw → (shape : ShapeRecord) (c : Capture) (scan : List ℕ) → IsScanOf shape c scan → values_in shape scan ≡ c.values
values_read law shape c scan is = ap (values_in shape) is.is ∙ (law shape c.values c.moment is.values).values

-- ---- windows

length-added : (xs ys : List ℤ) → length xs ≡ length ys → length (added xs ys) ≡ length ys
length-added [] [] same = refl
length-added [] (y ∷ ys) same = absurd (omega (arith, same))
length-added (x ∷ xs) [] same = absurd (omega (arith, same))
length-added (x ∷ xs) (y ∷ ys) same = let less : length xs ≡ length ys = omega (arith, same) in ap suc (length-added xs ys less)

sums_wide : (n count : ℕ) (sums values : List ℤ) → (1 ≤ count → length sums ≡ n) → length values ≡ n → length (sums_by count sums values) ≡ n
sums_wide n count sums values wide many = search (rules, length-added)

-- a scan has as many values as a capture
pub values_wide : (shape : ShapeRecord) (scan : List ℕ) → length (values_in shape scan) ≡ width_of shape
values_wide shape scan = length-values shape (value_in shape scan)

-- it has a member exactly if it has a seat
module _ (a : AverageRecord) (captures next starts : ℕ) (seats : List MeanSeat) (sound : IsSeating a captures next starts seats) where
  pub member_some : has_member a.seats ≡ true → is_empty seats ≡ false
  member_some e = search (rules, seated_some)

  pub member_none : has_member a.seats ≡ false → is_empty seats ≡ true
  member_none e = grind (arith, common_steps)

pub not_last : (n captures : ℕ) → n < 2 ^ 64 → n ≡ captures → is_last captures ≡ false → captures < 2 ^ 64 - 1
not_last n captures small is fewer = let other = differs captures (2 ^ 64 - 1) fewer in omega (arith, small, is, other)

-- ---- a capture that fills no window

module _ (a a' : AverageRecord) (captures next starts : ℕ) (seats : List MeanSeat) (some : is_empty seats ≡ false)
    (sound : IsSeating a captures next starts seats) (scan : List ℕ) (law : ReadingLaw) where
  abbrev told : AverageRecord → (plugged : Bool) → (captures : ℕ) → Totals → Station
  told x plugged n totals = told_with x plugged starts next n totals (map (mean_member x.seats) seats)

  there : is_empty (map (mean_member a.seats) seats) ≡ false
  there = empty_map (mean_member a.seats) seats ∙ some

  -- each queue was offered at most as many scans as there were means
  offered_at : (n : ℕ) (ss : List MeanSeat) → list_any (λ (s : MeanSeat). s.slot == n) ss ≡ true → AreSeated a.shape captures next a.seats ss
      → IfSome (member_at n a.seats) (λ (m : Membership). m.queue.taken + m.queue.lost ≤ captures)
  offered_at n [] e all = absurd (cc)
  offered_at n (s ∷ ss) e all = by (s.slot == n) refl e (λ f. offered_at n ss f all.1)
    where
      by : (b : Bool) → (s.slot == n) ≡ b → (b || list_any (λ (t : MeanSeat). t.slot == n) ss) ≡ true
          → (list_any (λ (t : MeanSeat). t.slot == n) ss ≡ true → IfSome (member_at n a.seats) (λ (m : Membership). m.queue.taken + m.queue.lost ≤ captures))
          → IfSome (member_at n a.seats) (λ (m : Membership). m.queue.taken + m.queue.lost ≤ captures)
      by b own f later = search rules

  pub fewer_offered : captures < 2 ^ 64 - 1 → (n : ℕ) → IfSome (member_at n a.seats) (λ (m : Membership). m.queue.taken + m.queue.lost < 2 ^ 64 - 1)
  fewer_offered fewer n = by (member_at n a.seats) refl
    where
      by : (o : Option Membership) → member_at n a.seats ≡ o → IfSome o (λ (m : Membership). m.queue.taken + m.queue.lost < 2 ^ 64 - 1)
      by None e = tt
      by (Some m) e =
          let few : m.queue.taken + m.queue.lost ≤ captures
          =
          subst (λ (o : Option Membership). IfSome o (λ (x : Membership). x.queue.taken + x.queue.lost ≤ captures)) e
          (offered_at n seats (sound.all n (ap (λ (o : Option Membership). is_some o) e)) sound.seated) in
          omega (arith, few, fewer)

  sums_are : length (values_in a.shape scan) ≡ width_of a.shape → length (sums_with a.window (values_in a.shape scan)) ≡ width_of a.shape
  sums_are many = sums_wide (width_of a.shape) a.window.count a.window.sums (values_in a.shape scan) sound.wide many

  module _ (adds : Adds scan None a a') where
    pub unfilled_sound : length (values_in a.shape scan) ≡ width_of a.shape → IsSeating a' captures next starts seats
    unfilled_sound many = search (rules, sums_are, begun)

    pub unfilled_told : (plugged : Bool) (totals : Totals) (base : ℕ) (c : Capture) → IsScanOf a.shape c scan
        → told a' plugged captures totals ≡ kind_gathered (Average base a.size) a.shape c (told a plugged captures totals)
    unfilled_told plugged totals base c is = search rules

  -- ---- a capture that fills one

  module _ (count : ℕ) (adds : Adds scan (Some count) a a') where
    abbrev means : List ℤ
    means = means_of a.size (sums_with a.window (values_in a.shape scan))

    offered_like : (o o' : Option Membership) → SeatOffered a.shape means (moment_in a.shape scan) o o' → IsLike 1 o o'
    offered_like o o' h = search rules

    like : (n : ℕ) → IsLike 1 (member_at n a.seats) (member_at n a'.seats)
    like n = offered_like (member_at n a.seats) (member_at n a'.seats) (adds.2 n)

    pub filled_sound : IsSeating a' (captures + 1) next starts seats
    filled_sound = search (rules, like_seated, like, like_has, begun)

    module _ (c : Capture) (is : IsScanOf a.shape c scan) where
      abbrev mean : Capture
      mean = record { moment = c.moment; values = means_of a.size (sums_with a.window c.values) }

      means_are : means ≡ means_of a.size (sums_with a.window c.values)
      means_are = ap (λ (xs : List ℤ). means_of a.size (sums_with a.window xs)) (values_read law a.shape c scan is)

      means_wide : length means ≡ width_of a.shape
      means_wide = grind (arith, common_steps, values_in, sums_are, values_read)

      scan_is : (mask : ℕ) → scan_of a.shape mask means (moment_in a.shape scan) ≡ scan_of a.shape mask (means_of a.size (sums_with a.window c.values)) c.moment
      scan_is mask = mean_scan law a.shape c scan is mask means means_wide ∙ ap (λ (xs : List ℤ). scan_of a.shape mask xs c.moment) means_are

      -- one member is offered the mean's scan
      offered_one : (s : MeanSeat) (o o' : Option Membership) → is_some o ≡ true → IfSome o (IsMemberOf a.shape captures s)
          → SeatOffered a.shape means (moment_in a.shape scan) o o'
          → mean_with s o' ≡ offered_to a.shape mean (mean_with s o)
      offered_one s o o' live own h = search (rules, scan_is)

      offered_all : (ss : List MeanSeat) → AreSeated a.shape captures next a.seats ss
          → map (mean_member a'.seats) ss ≡ map (offered_to a.shape mean) (map (mean_member a.seats) ss)
      offered_all [] all = refl
      offered_all (s ∷ ss) all = grind (arith, common_steps, offered_one, offered_all ss all.1)

      pub filled_told : (plugged : Bool) (totals : Totals) (base : ℕ)
          → told a' plugged (captures + 1) totals ≡ kind_gathered (Average base a.size) a.shape c (told a plugged captures totals)
      filled_told plugged totals base = search (rules, there, offered_all)

-- if there is no member, nothing changes
pub none_gathered : (a : AverageRecord) (plugged : Bool) (starts next captures : ℕ) (totals : Totals) (seats : List MeanSeat) (base : ℕ) (c : Capture)
    → is_empty seats ≡ true
    → told_with a plugged starts next captures totals (map (mean_member a.seats) seats)
    ≡ kind_gathered (Average base a.size) a.shape c (told_with a plugged starts next captures totals (map (mean_member a.seats) seats))
none_gathered a plugged starts next captures totals seats base c e = let none = empty_map (mean_member a.seats) seats ∙ e in rw none refl

-- ---- a look at its thresholds

-- it has no thresholds, so a look changes nothing
pub mean_look_stays : (d : MeanDevice) (t : ℤ) → mean_station d ≡ station_after_look d.average.shape t (mean_station d)
mean_look_stays d t = search (rules, idle_sensed, begun)
