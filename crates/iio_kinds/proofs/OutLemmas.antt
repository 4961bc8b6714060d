-- What the calls make of an output device, as an `Iio` tells it.
use Rattle.std.proofs.Common.{◌≡◌, ℕ, zero, suc, ◌+◌, ◌*◌, ◌-◌, ◌<◌, ◌≤◌, ◌^◌, Bool, true, false, List, [], ◌∷◌, map, length, Option, Some, None, Result, Ok, Err, refl, sym, ap, subst, ◌∙◌, arith, cond, option_map, ◌%◌, ◌/◌, rules}
use Rattle.std.proofs.lemmas.Grind.{common_steps}
use Rattle.std.specs.Prelude.{◌==◌, is_some, slice_index_or, ℤ, IfOk, IfSome}
use Rattle.std.specs.Int.{bit_at}
use Rattle.std.proofs.lemmas.List.{length-append, length-map}
use Rattle.std.proofs.lemmas.Nat.{div-add-mod'}
use Rattle.std.proofs.lemmas.Nat.Bits.{bit_at_cat_low}
use Rattle.iio_text.specs.declared.errors.Errno.TheVariants.{EAGAIN}
use Rattle.iio_mask.specs.declared.Mask.{Mask}
use Rattle.iio_layout.specs.Shape.{ShapeRecord, count_of, stamp_formats}
use Rattle.iio_layout.specs.Active.{has_below, has_data}
use Rattle.iio_layout.specs.Layout.{end_below, largest_below, scan_size}
use Rattle.iio_layout.specs.declared.channel.Channel.{Channel}
use Rattle.iio_mask.specs.Mask.{has}
use Rattle.iio_event.specs.Monitor.{channel_at, idle_channel, new_monitor}
use Rattle.iio_event.specs.declared.watch.Watched.{Watched}
use Rattle.iio_scan_type.specs.Format.{Format}
use Rattle.iio_sensor.specs.Driver.{Driver}
use Rattle.iio_output.specs.Out.{OutRecord, WriterRecord, after_write, write_answer}
use Rattle.iio_output.specs.declared.writer.Wrote.{Wrote}
use Rattle.iio_output.specs.Written.{scans_of, taken_of}
use Rattle.iio_device.specs.Sensing.{begun, channel_sensed, channels_sensed, is_watched, sensed}
use Rattle.iio_device.specs.Site.{is_empty, new_site, no_driver}
use Rattle.iiod_commands.specs.declared.iio.No.{No}
use Rattle.iiod_commands.specs.declared.iio.No.TheVariants.{Errno as NoErrno}
use Rattle.iio_core.specs.Calls.{write_scans_at, writes}
use Rattle.iio_core.specs.Machine.{Member, MemberId, Station, is_id_of, member_in}
use Rattle.iio_output.proofs.Scans.{length-scans_of}
use Rattle.iio_device.specs.declared.handling.Sensed.TheVariants as sense
use Rattle.iio_core.specs.Moves.{sensed_answer, station_after_look}
use Rattle.iio_kinds.specs.declared.out_device.OutDevice.{OutDevice}
use Rattle.iio_kinds.specs.Acting.{id_of, Acts}
use Rattle.iio_kinds.specs.OutStation.{answer_of, writers_of, nowhere_answer, out_station}

-- ---- sizes

-- a mask with a data channel has a channel
below_more : (mask n k m : ℕ) → k + n ≡ m → has_below mask n ≡ true → has_below mask m ≡ true
below_more mask n zero m many h = let same : n ≡ m = omega arith in subst (λ (c : ℕ). has_below mask c ≡ true) same h
below_more mask n (suc k) zero many h = absurd (omega arith)
below_more mask n (suc k) (suc m) many h = search (rules, below_more mask n k m (omega arith) h)

pub data_below : (shape : ShapeRecord) (mask : ℕ) → has_data shape mask ≡ true → has_below mask (count_of shape) ≡ true
data_below shape mask h =
    let types = length-map shape.channels (λ (channel : Channel). channel.ty) in
    let all = length-append (map (λ (channel : Channel). channel.ty) shape.channels) (stamp_formats shape.stamp) in
    below_more mask (length shape.channels) (length (stamp_formats shape.stamp)) (count_of shape) (omega (arith, types, all)) h

-- the bits of a mask below a count are those of its rest
cut_has : (m n c : ℕ) → c < n → has (m % 2 ^ n) c ≡ has m c
cut_has m n c within =
    ap (λ (b : ℕ). b == 1) (sym (bit_at_cat_low (m / 2 ^ n) n (m % 2 ^ n) c within) ∙ ap (λ (x : ℕ). bit_at x c) (div-add-mod' m (2 ^ n)))

cut_end : (formats : List Format) (m n c : ℕ) → c ≤ n → end_below formats (m % 2 ^ n) c ≡ end_below formats m c
cut_end formats m n zero within = refl
cut_end formats m n (suc c) within = simp (cut_has, cut_end formats m n c (omega arith))

cut_largest : (formats : List Format) (m n c : ℕ) → c ≤ n → largest_below formats (m % 2 ^ n) c ≡ largest_below formats m c
cut_largest formats m n zero within = refl
cut_largest formats m n (suc c) within = simp (cut_has, cut_largest formats m n c (omega arith))

cut_size : (shape : ShapeRecord) (m : ℕ) → scan_size shape (m % 2 ^ count_of shape) ≡ scan_size shape m
cut_size shape m = search (rules, cut_end, cut_largest)

-- hence a scan's size is the same if the mask is cut
pub size_cut : (shape s : ShapeRecord) (count m bits : ℕ) → s ≡ shape → count ≡ count_of s → count < 64 → bits ≡ m % (1 * 2 ^ count % 2 ^ 64)
    → scan_size s bits ≡ scan_size shape m
size_cut shape s count m bits same many few is = grind (arith, common_steps, cut_size)

-- ---- a writer that is there

-- a device that has that output device
abbrev out_told : OutDevice → OutRecord → Station
out_told d out = record (out_station d) {
  members = writers_of (d.starts - 1) out.underruns out.writer;
  site = record (new_site out.shape d.trigger no_driver) { plugged = d.plugged; attachment = d.starts };
  last = out.last;
}

-- a writer that is live is there
pub live_there : (n underruns : ℕ) (id : MemberId) (o : Option WriterRecord)
    → true ≡ is_some (member_in id (writers_of n underruns o)) → is_some o ≡ true
live_there n underruns id o e = search rules

none_there : (o : Option Member) → false ≡ is_some o → o ≡ None
none_there o e = search rules

-- ---- WRITEBUF

module _ (st : Station) (id : MemberId) (size : ℕ) (bytes : List ℕ) (plugged : st.site.plugged ≡ true) where
  abbrev written : Station → Station
  written x = record x { members = map (writes id (scans_of size bytes)) x.members }

  -- a payload of the writer that is there
  module _ (m : Member) where
    abbrev taken : List (List ℕ)
    taken = taken_of m.cyclic m.capacity m.scans (scans_of size bytes)

  -- a payload of a writer that isn't there
  module _ (gone : member_in id st.members ≡ None) where
    unwritten_by : (ms : List Member) → member_in id ms ≡ None → map (writes id (scans_of size bytes)) ms ≡ ms
    unwritten_by [] none = refl
    unwritten_by (x ∷ xs) none = by (is_id_of id x) refl none (λ (e : member_in id xs ≡ None). unwritten_by xs e)
      where
        by : (b : Bool) → is_id_of id x ≡ b → cond b (Some x) (member_in id xs) ≡ None
            → (member_in id xs ≡ None → map (writes id (scans_of size bytes)) xs ≡ xs) → map (writes id (scans_of size bytes)) (x ∷ xs) ≡ x ∷ xs
        by b e none rest = search rules

    unwritten : written st ≡ st
    unwritten = ap (λ (ms : List Member). (let x : Station = record st { members = ms } in x)) (unwritten_by st.members gone)

    write_none : bytes ≡ [] → Acts written (write_scans_at st id size bytes) (Ok 0) st st
    write_none e = search (rules, unwritten)

    write_full : is_empty bytes ≡ false → (length bytes % size == 0) ≡ true
        → Acts written (write_scans_at st id size bytes) (Err (NoErrno EAGAIN)) st st
    write_full some whole = grind (arith, common_steps)

    write_nowhere : Acts written (write_scans_at st id size bytes) (nowhere_answer size bytes) st st
    write_nowhere = search (rules, write_none, write_full)

-- payloads of the writer of a device
module _ (d : OutDevice) (number : ℕ) (mask : Mask) (bytes : List ℕ) where
  -- a payload for scans of that size is answered so, and the device is then that one
  abbrev Streams : (size : ℕ) → Result ℕ No → Station → Type 0
  Streams size answer new =
      Acts (λ (st : Station). record st { members = map (writes (id_of number mask) (scans_of size bytes)) st.members })
      (write_scans_at (out_station d) (id_of number mask) size bytes) answer (out_station d) new

  -- the device after the writer that is there has written
  abbrev written_by : Option WriterRecord → OutRecord
  written_by o = record d.out { writer = option_map (λ (w : WriterRecord). after_write w bytes) o }

  module _ (plugged : d.plugged ≡ true) (own : true ≡ is_some (member_in (id_of number mask) (out_station d).members)) where
    module _ (w : WriterRecord) (live : d.out.writer ≡ Some w) where
      abbrev its : Member
      its = record { number = d.starts - 1; mask = w.mask; capacity = w.capacity; scans = w.scans; lost = d.out.underruns; cyclic = w.cyclic; inner = None }

      writer_writes : (out : OutRecord) → w.size ≡ scan_size d.out.shape w.mask → out ≡ written_by (Some w)
          → Streams (scan_size d.out.shape mask.bits) (answer_of (write_answer w bytes)) (out_told d out)
      writer_writes out sized is = search rules

    pub live_writes : (wrote : Wrote) (out : OutRecord) → IfSome d.out.writer (λ (w : WriterRecord). w.size ≡ scan_size d.out.shape w.mask)
        → IfSome d.out.writer (λ (w : WriterRecord). wrote ≡ write_answer w bytes)
        → out ≡ written_by d.out.writer → Streams (scan_size d.out.shape mask.bits) (answer_of wrote) (out_told d out)
    live_writes wrote out sized answer is = grind (arith, common_steps, writer_writes)

  -- a writer that isn't there
  pub none_writes : d.plugged ≡ true → false ≡ is_some (member_in (id_of number mask) (out_station d).members)
      → Streams (scan_size d.out.shape mask.bits) (nowhere_answer (scan_size d.out.shape mask.bits) bytes) (out_station d)
  none_writes plugged gone = search (rules, none_there, write_nowhere)

taken_within : (w : WriterRecord) (bytes : List ℕ) → IfOk (answer_of (write_answer w bytes)) (λ (taken : ℕ). taken ≤ length bytes)
taken_within w bytes = grind (arith, common_steps, length-scans_of)

pub live_within : (o : Option WriterRecord) (wrote : Wrote) (bytes : List ℕ) → is_some o ≡ true
    → IfSome o (λ (w : WriterRecord). wrote ≡ write_answer w bytes) → IfOk (answer_of wrote) (λ (taken : ℕ). taken ≤ length bytes)
live_within o wrote bytes there answer = search (rules, taken_within)

-- ---- thresholds

idle_at : {C : Type 0} (f : C → Watched) (cs : List C) (c : ℕ) (d : Watched) → ((x : C) → is_watched (f x) ≡ false) → is_watched d ≡ false
    → is_watched (slice_index_or (map f cs) c d) ≡ false
idle_at f [] c d idle e = e
idle_at f (x ∷ xs) zero d idle e = idle x
idle_at f (x ∷ xs) (suc c) d idle e = idle_at f xs c d idle e

idle_in : (shape : ShapeRecord) (c : ℕ) → is_watched (channel_at c (new_monitor {Who = ℕ} shape)) ≡ false
idle_in shape c = idle_at idle_channel shape.channels c _ (λ x. refl) refl

idle_one : (shape : ShapeRecord) (t : ℤ) (c : ℕ) (driver : Driver)
    → channel_sensed shape t c (begun driver (new_monitor {Who = ℕ} shape)) ≡ begun driver (new_monitor {Who = ℕ} shape)
idle_one shape t c driver = rw (idle_in shape c) refl

-- no thresholds are enabled, so nothing is asked
pub idle_sensed : (shape : ShapeRecord) (t : ℤ) (n : ℕ) (driver : Driver)
    → channels_sensed shape t n (begun driver (new_monitor {Who = ℕ} shape)) ≡ begun driver (new_monitor {Who = ℕ} shape)
idle_sensed shape t zero driver = refl
idle_sensed shape t (suc n) driver = ap (channel_sensed shape t n) (idle_sensed shape t n driver) ∙ idle_one shape t n driver

module _ (d : OutDevice) (t : ℤ) where
  idle : sensed d.out.shape t (out_station d).site ≡ begun (out_station d).site.driver (out_station d).site.monitor
  idle = idle_sensed d.out.shape t (length d.out.shape.channels) (out_station d).site.driver

  -- hence a look changes nothing
  pub look_stays : out_station d ≡ station_after_look d.out.shape t (out_station d)
  look_stays = search (rules, idle)

  pub look_fires : d.plugged ≡ true → sense.Fired 0 ≡ sensed_answer d.out.shape t (out_station d)
  look_fires plugged = rw (plugged, idle) refl
