-- A device of which no further line follows, among those before it.
use Rattle.std.proofs.Common.{◌≡◌, ℕ, ◌+◌, ◌<◌, ◌≤◌, ◌&&◌, Bool, true, false, not, nat_lt, List, [], ◌∷◌, ◌++◌, length, get_or, AllPairs, Option, Some, None, sum_by, ap, subst, sym, refl, arith, ◌∙◌, ltb-true, length-append, append-nil}
use Rattle.std.proofs.lemmas.List.Quantifiers.{all_pairs_push}
use Rattle.std.proofs.lemmas.List.Sums.{sum_by-append}
use Rattle.std.specs.List.{list_any}
use Rattle.std.specs.Option.{option_map_or}
use Rattle.std.specs.Prelude.{All, IfSome}
use Rattle.std.proofs.lemmas.List.Elements.{All-head, All-push}
use Rattle.iio_layout.specs.Rows.{IsRecording}
use Rattle.iio_desc.specs.Description.{AverageRecord, DeviceRecord, OutputRecord}
use Rattle.iio_desc.specs.DeviceLines.{drives, is_free}
use Rattle.iio_layout.specs.declared.channel.Direction.{Direction}
use Rattle.iio_layout.specs.declared.channel.Direction.TheVariants.{Input, Output}
use Rattle.iio_desc.specs.PartialDesc.{device_by, devices_of, is_current_whole, output_by, outputs_of}
use Rattle.iio_desc.specs.PartialDevice.{PartialDevice, device_of, output_of}
use Rattle.iio_desc.specs.declared.desc_builder.DescBuilder.TheInside.{Inside}
use Rattle.iio_desc.specs.declared.limits.TheConstants.{MAX_ROWS}
use Rattle.iio_desc.specs.View.{FitsCurrent, IsSound}
use Rattle.iio_desc.specs.WellFormed.{IsWellFormedAverage, IsWellFormedDevice, IsWellFormedOutput, IsWrite, share_driver}
use Rattle.iio_desc.proofs.ListLemmas.{none_at}

both : (a b : Bool) → (a && b) ≡ true → (a ≡ true) × (b ≡ true)
both true b h = (refl, h)
both false b h = cc

is_false : (b : Bool) → not b ≡ true → b ≡ false
is_false true h = cc
is_false false h = refl

-- a free driver is handed in, and no device before has it
handed_in : (drivers : ℕ) (devices : List DeviceRecord) (o : Option ℕ) → IfSome o (λ k. is_free drivers devices k ≡ true) → IfSome o (λ k. k < drivers)
handed_in drivers devices None h = tt
handed_in drivers devices (Some k) h = ltb-true _ _ (both (nat_lt k drivers) (not (list_any (drives k) devices)) h).0

not_shared : (drivers : ℕ) (devices : List DeviceRecord) (o : Option ℕ) → IfSome o (λ k. is_free drivers devices k ≡ true)
    → (i : ℕ) (v : DeviceRecord) → i < length devices → option_map_or (λ k. drives k (get_or devices i v)) o false ≡ false
not_shared drivers devices None h i v within = refl
not_shared drivers devices (Some k) h i v within =
    none_at (drives k) devices (is_false (list_any (drives k) devices) (both (nat_lt k drivers) (not (list_any (drives k) devices)) h).1) i v within

-- the devices stay well formed with another one
sound_device : (triggers drivers earlier : ℕ) (devices : List DeviceRecord) (s : PartialDevice) (d : DeviceRecord)
    → All (IsWellFormedDevice triggers drivers) devices
    → FitsCurrent triggers drivers earlier devices s → d ≡ device_of s → 0 < length s.channels → IsRecording d.rows
    → All (IsWrite (length d.shape.channels)) d.attrs
    → All (IsWellFormedDevice triggers drivers) (devices ++ d ∷ [])
sound_device triggers drivers earlier devices s d sound fits is some recording writes =
    let own : IsWellFormedDevice triggers drivers (device_of s) = record {
      some = some;
      attached = fits.attached;
      driven = handed_in drivers devices s.driver fits.driven;
      recording = subst (λ (v : DeviceRecord). IsRecording v.rows) is recording;
      width = refl;
      writes = subst (λ (v : DeviceRecord). All (IsWrite (length v.shape.channels)) v.attrs) is writes;
    } in
    All-push (IsWellFormedDevice triggers drivers) devices d sound (subst (λ (v : DeviceRecord). IsWellFormedDevice triggers drivers v) (sym is) own)

-- no two of the devices with another one share a driver
apart_device : (triggers drivers earlier : ℕ) (devices : List DeviceRecord) (s : PartialDevice) (d : DeviceRecord)
    → AllPairs (λ a b. share_driver a b ≡ false) devices
    → FitsCurrent triggers drivers earlier devices s → d ≡ device_of s → AllPairs (λ a b. share_driver a b ≡ false) (devices ++ d ∷ [])
apart_device triggers drivers earlier devices s d apart fits is =
    all_pairs_push (λ a b. share_driver a b ≡ false) devices d apart
    (λ i v within. subst (λ (n : DeviceRecord). share_driver (get_or devices i v) n ≡ false) (sym is)
    (not_shared drivers devices s.driver fits.driven i v within))

-- ---- a device of either kind

-- a device is of exactly one of the two kinds
pub one_of_kind : (s : PartialDevice) (by : Direction) → length (device_by by s) + length (output_by by s) ≡ 1
one_of_kind s Input = refl
one_of_kind s Output = refl

module _ (triggers drivers earlier : ℕ) (devices : List DeviceRecord) (s : PartialDevice) where
  pub sound_push : (by : Direction) → All (IsWellFormedDevice triggers drivers) devices → FitsCurrent triggers drivers earlier devices s → 0 < length s.channels
      → All (λ (d : DeviceRecord). IsRecording d.rows) (device_by by s)
      → All (λ (d : DeviceRecord). All (IsWrite (length d.shape.channels)) d.attrs) (device_by by s)
      → All (IsWellFormedDevice triggers drivers) (devices ++ device_by by s)
  sound_push Input sound fits some recording writes =
      sound_device triggers drivers earlier devices s (device_of s) sound fits refl some
      (All-head (λ (d : DeviceRecord). IsRecording d.rows) (device_of s) [] recording)
      (All-head (λ (d : DeviceRecord). All (IsWrite (length d.shape.channels)) d.attrs) (device_of s) [] writes)
  sound_push Output sound fits some recording writes = rw (append-nil devices) sound

  pub apart_push : (by : Direction) → AllPairs (λ a b. share_driver a b ≡ false) devices → FitsCurrent triggers drivers earlier devices s
      → AllPairs (λ a b. share_driver a b ≡ false) (devices ++ device_by by s)
  apart_push Input apart fits = apart_device triggers drivers earlier devices s (device_of s) apart fits refl
  apart_push Output apart fits = rw (append-nil devices) apart

  pub rows_push : (by : Direction) → earlier ≡ sum_by (λ (d : DeviceRecord). length d.rows.moments) devices
      → earlier + sum_by (λ (d : DeviceRecord). length d.rows.moments) (device_by by s)
      ≡ sum_by (λ (d : DeviceRecord). length d.rows.moments) (devices ++ device_by by s)
  rows_push by counted =
      ap (λ n. n + sum_by (λ (d : DeviceRecord). length d.rows.moments) (device_by by s)) counted
      ∙ sym (sum_by-append (λ (d : DeviceRecord). length d.rows.moments) devices (device_by by s))

  pub outputs_push : (by : Direction) (outputs : List OutputRecord) → All (IsWellFormedOutput triggers) outputs → FitsCurrent triggers drivers earlier devices s
      → 0 < length s.channels
      → All (IsWellFormedOutput triggers) (outputs ++ output_by by s)
  outputs_push Input outputs sound fits some = rw (append-nil outputs) sound
  outputs_push Output outputs sound fits some =
      All-push (IsWellFormedOutput triggers) outputs (output_of s) sound (record { some = some; unstamped = refl; unlisted = refl; attached = fits.attached })

-- ---- the device before, if any

module _ (triggers drivers earlier : ℕ) (devices : List DeviceRecord) where
  pub sound_with : (before : Option PartialDevice) → All (IsWellFormedDevice triggers drivers) devices
      → IfSome before (FitsCurrent triggers drivers earlier devices)
      → is_current_whole before ≡ true → All (λ (d : DeviceRecord). IsRecording d.rows) (devices_of before)
      → All (λ (d : DeviceRecord). All (IsWrite (length d.shape.channels)) d.attrs) (devices_of before)
      → All (IsWellFormedDevice triggers drivers) (devices ++ devices_of before)
  sound_with None sound fits whole recording writes = rw (append-nil devices) sound
  sound_with (Some s) sound fits whole recording writes =
      sound_push triggers drivers earlier devices s s.direction sound fits (ltb-true _ _ whole) recording writes

  pub apart_with : (before : Option PartialDevice) → AllPairs (λ a b. share_driver a b ≡ false) devices
      → IfSome before (FitsCurrent triggers drivers earlier devices)
      → AllPairs (λ a b. share_driver a b ≡ false) (devices ++ devices_of before)
  apart_with None apart fits = rw (append-nil devices) apart
  apart_with (Some s) apart fits = apart_push triggers drivers earlier devices s s.direction apart fits

  pub outputs_with : (before : Option PartialDevice) (outputs : List OutputRecord) → All (IsWellFormedOutput triggers) outputs
      → IfSome before (FitsCurrent triggers drivers earlier devices)
      → is_current_whole before ≡ true → All (IsWellFormedOutput triggers) (outputs ++ outputs_of before)
  outputs_with None outputs sound fits whole = rw (append-nil outputs) sound
  outputs_with (Some s) outputs sound fits whole = outputs_push triggers drivers earlier devices s s.direction outputs sound fits (ltb-true _ _ whole)

  pub rows_with : (before : Option PartialDevice) → earlier ≤ MAX_ROWS → IfSome before (FitsCurrent triggers drivers earlier devices)
      → earlier + option_map_or (λ (s : PartialDevice). length s.moments) before 0 ≤ MAX_ROWS
  rows_with None few fits = omega (arith, few)
  rows_with (Some s) few fits = fits.rows

pub count_with : (devices : List DeviceRecord) (before : Option PartialDevice)
    → sum_by (λ (d : DeviceRecord). length d.rows.moments) (devices ++ devices_of before)
    ≡ sum_by (λ (d : DeviceRecord). length d.rows.moments) devices + sum_by (λ (d : DeviceRecord). length d.rows.moments) (devices_of before)
count_with devices before = sum_by-append (λ (d : DeviceRecord). length d.rows.moments) devices (devices_of before)

-- ---- averaging devices

-- averaging devices stay well formed if there are more devices
averages_over : (fewer more : ℕ) (averages : List AverageRecord) → fewer ≤ more → All (IsWellFormedAverage fewer) averages
    → All (IsWellFormedAverage more) averages
averages_over fewer more averages grow sound k x within =
    let s : IsWellFormedAverage fewer (get_or averages k x) = sound k x within in
    record { over = omega (arith, grow, s.over); some = s.some; bounded = s.bounded }

pub averages_with : (devices others : List DeviceRecord) (averages : List AverageRecord) → All (IsWellFormedAverage (length devices)) averages
    → All (IsWellFormedAverage (length (devices ++ others))) averages
averages_with devices others averages sound =
    averages_over (length devices) (length (devices ++ others)) averages (omega (arith, length-append devices others)) sound

-- ---- the device whose lines were being read, with the others

-- the devices xs and the output devices ys are those before the current one and that one, with n rows
pub record Ended (b : Inside) (xs : List DeviceRecord) (ys : List OutputRecord) (n : ℕ) : Type 0 where
  pub devices : xs ≡ b.devices.items ++ devices_of b.current
  pub outputs : ys ≡ b.outputs.items ++ outputs_of b.current
  pub sound : All (IsWellFormedDevice (length b.triggers.items) b.drivers) xs
  pub formed : All (IsWellFormedOutput (length b.triggers.items)) ys
  pub averages : All (IsWellFormedAverage (length xs)) b.averages.items
  pub apart : AllPairs (λ v u. share_driver v u ≡ false) xs
  pub earlier : b.earlier + n ≡ sum_by (λ (d : DeviceRecord). length d.rows.moments) xs
  pub rows : b.earlier + n ≤ MAX_ROWS

pub ended : (b : Inside) (before : Option PartialDevice) (ds xs : List DeviceRecord) (os ys : List OutputRecord) (n : ℕ) → IsSound b → before ≡ b.current
    → ds ≡ b.devices.items → os ≡ b.outputs.items → is_current_whole b.current ≡ true → xs ≡ ds ++ devices_of before → ys ≡ os ++ outputs_of before
    → All (λ (d : DeviceRecord). IsRecording d.rows) (devices_of before)
    → All (λ (d : DeviceRecord). All (IsWrite (length d.shape.channels)) d.attrs) (devices_of before)
    → n ≡ sum_by (λ (d : DeviceRecord). length d.rows.moments) (devices_of before)
    → n ≤ option_map_or (λ (s : PartialDevice). length s.moments) before 0
    → Ended b xs ys n
ended b before ds xs os ys n inv current here there whole pushed pushed_outputs recording writes counted within =
    let triggers : ℕ = length b.triggers.items in
    let devices : List DeviceRecord = b.devices.items in
    let outputs : List OutputRecord = b.outputs.items in
    let all : xs ≡ devices ++ devices_of b.current =
    pushed ∙ ap (λ (zs : List DeviceRecord). zs ++ devices_of before) here ∙ ap (λ (o : Option PartialDevice). devices ++ devices_of o) current in
    let all_outputs : ys ≡ outputs ++ outputs_of b.current =
    pushed_outputs ∙ ap (λ (zs : List OutputRecord). zs ++ outputs_of before) there ∙ ap (λ (o : Option PartialDevice). outputs ++ outputs_of o) current in
    let within_here : n ≤ option_map_or (λ (s : PartialDevice). length s.moments) b.current 0 = rw current at within in
    let counted_here : n ≡ sum_by (λ (d : DeviceRecord). length d.rows.moments) (devices_of b.current) = rw current at counted in
    let most = rows_with triggers b.drivers b.earlier devices b.current inv.rows inv.current in
    record {
      devices = all;
      outputs = all_outputs;
      sound =
          rw all (sound_with triggers b.drivers b.earlier devices b.current inv.sound inv.current whole (rw current at recording) (rw current at writes));
      formed = rw all_outputs (outputs_with triggers b.drivers b.earlier devices b.current outputs inv.outputs inv.current whole);
      averages = rw all (averages_with devices (devices_of b.current) b.averages.items inv.averages);
      apart = rw all (apart_with triggers b.drivers b.earlier devices b.current inv.apart inv.current);
      earlier = rw all (omega (arith, inv.earlier, counted_here, count_with devices b.current));
      rows = omega (arith, within_here, most);
    }
