-- The told state after one device has changed.
use Rattle.std.proofs.Common.{◌≡◌, ℕ, ◌≤◌, Bool, true, false, List, [], ◌∷◌, map, length, set, slice_get, Option, Some, None, Result, Ok, Err, sym, ap, subst, ◌∙◌, arith, cond, rules}
use Rattle.std.proofs.lemmas.Grind.{common_steps}
use Rattle.std.specs.Prelude.{◌==◌, ℤ, unwrap_or, drop, ⊤}
use Rattle.std.specs.Option.{option_map_or}
use Rattle.std.proofs.lemmas.Option.{slice_get_past}
use Rattle.iio_base.specs.Refusals.{ensure}
use Rattle.iio_text.specs.declared.errors.Errno.{Errno}
use Rattle.iio_text.specs.declared.errors.Errno.TheVariants.{EBADF, ENODEV}
use Rattle.iio_text.specs.declared.values.Fixed.{Fixed}
use Rattle.iio_attr.specs.declared.attributes.Attr.{Attr}
use Rattle.iio_attr.specs.declared.values.Value.{Value}
use Rattle.iio_layout.specs.Layout.{scan_size}
use Rattle.iio_layout.specs.Shape.{ShapeRecord}
use Rattle.iio_desc.specs.declared.description.TriggerDesc.{TriggerDesc}
use Rattle.iio_event.specs.declared.event.EventData.{EventData}
use Rattle.iio_event.specs.Monitor.{after_close, after_open, after_read}
use Rattle.iio_device.specs.Site.{sampled, site_written, with_monitor}
use Rattle.iio_device.specs.Totals.{with_given}
use Rattle.iio_output.specs.Written.{scans_of}
use Rattle.iiod_commands.specs.declared.iio.No.{No}
use Rattle.iiod_commands.specs.declared.iio.No.TheVariants.{Errno as NoErrno, Mem as NoMem}
use Rattle.iiod_commands.specs.declared.iio.Took.{Took}
use Rattle.iiod_commands.specs.declared.iio.Took.TheVariants.{Scan, Empty, Gone}
use Rattle.iio_desc.specs.Description.{DeviceHead, no_shape}
use Rattle.iio_desc.specs.Kind.{Input}
use Rattle.iio_core.specs.Trigger.{Trigger}
use Rattle.iio_core.specs.Front.{Front, device_name, kind_at, shape_at, size_at, trigger_name}
use Rattle.iio_core.specs.Machine.{Machine, MemberId, Station, is_plugged, lost_of, no_station, queue_of, scans_in, station_at, with_queue, with_scans, with_site, with_station}
use Rattle.iio_core.specs.Calls.{ev_close_of, ev_open_answer, ev_open_of, ev_read_answer, ev_read_of, holds_events, is_asking, read_attr_of, set_trigger_of, trigger_answer, unless, write_attr_of, write_scans_at, write_scans_of, writes}
use Rattle.iiod_commands.specs.Reading.{TakesScans, reading}
use Rattle.iiod_commands.specs.Seat.{Answers, SeatRecord, Takes, seat_id}
use Rattle.iio_kinds.specs.Acting.{Acts, Reads, TakesAt, TakesScansAt, Turns, lost_in}
use Rattle.iio_bench.proofs.ListLemmas.{map_at, map_changed, map_same}

-- a machine of devices
abbrev pub machine_by : {D : Type 0} → (D → Station) → ℤ → List Trigger → List D → Machine
machine_by f clock ts ds = record { clock = clock; triggers = ts; stations = map f ds }

module _ {D : Type 0} (f : D → Station) (clock : ℤ) (ts : List Trigger) (ds : List D) (k : ℕ) (d : D) (at : slice_get ds k ≡ Some d) where
  pub station_is : station_at (machine_by f clock ts ds) k ≡ f d
  unfolding station_at
  station_is = ap (λ (o : Option Station). unwrap_or o no_station) (map_at f ds k d at)

  pub plugged_is : is_plugged (machine_by f clock ts ds) k ≡ (f d).site.plugged
  unfolding is_plugged
  plugged_is = ap (λ (st : Station). st.site.plugged) station_is

  pub trigger_is : (station_at (machine_by f clock ts ds) k).site.trigger ≡ (f d).site.trigger
  trigger_is = ap (λ (st : Station). st.site.trigger) station_is

  pub queue_is : (id : MemberId) → queue_of (machine_by f clock ts ds) k id ≡ scans_in id (f d).members
  unfolding queue_of
  queue_is id = ap (λ (st : Station). scans_in id st.members) station_is

  pub lost_at : (id : MemberId) → lost_of (machine_by f clock ts ds) k id ≡ lost_in id (f d).members
  unfolding lost_of
  lost_at id = ap (λ (st : Station). lost_in id st.members) station_is

module _ {D : Type 0} (f : D → Station) (clock : ℤ) (ts : List Trigger) (ds : List D) (k : ℕ) (d d' : D) (at : slice_get ds k ≡ Some d) where
  here : station_at (machine_by f clock ts ds) k ≡ f d
  here = station_is f clock ts ds k d at

  pub told_same : f d' ≡ f d → machine_by f clock ts (set ds k d') ≡ machine_by f clock ts ds
  told_same e = ap (λ (sts : List Station). (let m : Machine = record { clock = clock; triggers = ts; stations = sts } in m)) (map_same f ds k d d' at e)

  pub told_changed : (change : Station → Station) → f d' ≡ change (f d) → machine_by f clock ts (set ds k d') ≡ with_station change k (machine_by f clock ts ds)
  unfolding with_station
  told_changed change e = search (rules, map_changed)

  some_same : f d' ≡ f d → Some (machine_by f clock ts (set ds k d')) ≡ Some (machine_by f clock ts ds)
  some_same e = ap (λ (m : Machine). Some m) (told_same e)

  some_changed : (change : Station → Station) → f d' ≡ change (f d)
      → Some (machine_by f clock ts (set ds k d')) ≡ Some (with_station change k (machine_by f clock ts ds))
  some_changed change e = ap (λ (m : Machine). Some m) (told_changed change e)

  module _ {A : Type 0} (change : Station → Station) where
    by_answer : (x : Result A Errno) (r : Result A No) → Acts change x r (f d) (f d')
        → Answers (unless change k (machine_by f clock ts ds) x) (machine_by f clock ts ds) r (Some (machine_by f clock ts (set ds k d')))
    by_answer x r t = search (rules, some_changed, some_same)

    -- a call that can be refused
    pub told_acts : (answer : Station → Result A Errno) (r : Result A No) → Acts change (answer (f d)) r (f d) (f d')
        → Answers (unless change k (machine_by f clock ts ds) (answer (station_at (machine_by f clock ts ds) k))) (machine_by f clock ts ds) r
        (Some (machine_by f clock ts (set ds k d')))
    told_acts answer r t = grind (arith, common_steps, set, here, by_answer)

  pub told_write : (channel : Option ℕ) (a : Attr) (v : Fixed) (r : Result ⊤ No)
      → Acts (with_site (site_written channel a v)) (ensure (f d).site.plugged ENODEV) r (f d) (f d')
      → Answers (write_attr_of (machine_by f clock ts ds) k channel a v) (machine_by f clock ts ds) r (Some (machine_by f clock ts (set ds k d')))
  unfolding write_attr_of
  told_write channel a v r t = told_acts (with_site (site_written channel a v)) (λ st. ensure st.site.plugged ENODEV) r t

  pub told_trigger : (trigger : Option ℕ) (r : Result ⊤ No) → Acts (with_site (λ site. record site { trigger = trigger })) (trigger_answer (f d)) r (f d) (f d')
      → Answers (set_trigger_of (machine_by f clock ts ds) k trigger) (machine_by f clock ts ds) r (Some (machine_by f clock ts (set ds k d')))
  unfolding set_trigger_of
  told_trigger trigger r t = told_acts (with_site (λ site. record site { trigger = trigger })) trigger_answer r t

  pub told_ev_open : (who : ℕ) (r : Result ⊤ No) → Acts (with_site (with_monitor (after_open who))) (ev_open_answer (f d)) r (f d) (f d')
      → Answers (ev_open_of (machine_by f clock ts ds) k who) (machine_by f clock ts ds) r (Some (machine_by f clock ts (set ds k d')))
  unfolding ev_open_of
  told_ev_open who r t = told_acts (with_site (with_monitor (after_open who))) ev_open_answer r t

  pub told_ev_read : (who : ℕ) (r : Result (Option EventData) No)
      → Acts (with_site (with_monitor (after_read (λ a b. a == b) who))) (ev_read_answer who (f d)) r (f d) (f d')
      → Answers (ev_read_of (machine_by f clock ts ds) k who) (machine_by f clock ts ds) r (Some (machine_by f clock ts (set ds k d')))
  unfolding ev_read_of
  told_ev_read who r t = told_acts (with_site (with_monitor (after_read (λ a b. a == b) who))) (ev_read_answer who) r t

  pub told_ev_close : (who : ℕ) (r : Result ⊤ No)
      → Acts (with_site (with_monitor (after_close (λ a b. a == b) who))) (ensure (holds_events who (f d)) EBADF) r (f d) (f d')
      → Answers (ev_close_of (machine_by f clock ts ds) k who) (machine_by f clock ts ds) r (Some (machine_by f clock ts (set ds k d')))
  unfolding ev_close_of
  told_ev_close who r t = told_acts (with_site (with_monitor (after_close (λ a b. a == b) who))) (λ st. ensure (holds_events who st) EBADF) r t

  pub told_writes : (size : ℕ) (id : MemberId) (bytes : List ℕ) (r : Result ℕ No)
      → Acts (λ st. record st { members = map (writes id (scans_of size bytes)) st.members }) (write_scans_at (f d) id size bytes) r (f d) (f d')
      → Answers (unless (λ st. record st { members = map (writes id (scans_of size bytes)) st.members }) k (machine_by f clock ts ds)
      (write_scans_at (station_at (machine_by f clock ts ds) k) id size bytes)) (machine_by f clock ts ds) r (Some (machine_by f clock ts (set ds k d')))
  told_writes size id bytes r t =
      told_acts (λ st. record st { members = map (writes id (scans_of size bytes)) st.members }) (λ st. write_scans_at st id size bytes) r t

  -- takes
  told_gives : (id : MemberId) (given : List (List ℕ)) (left : List (List ℕ) → List (List ℕ))
      → f d' ≡ record (f d) { totals = with_given given (f d).totals; members = with_scans id (left (scans_in id (f d).members)) (f d).members }
      → Some (machine_by f clock ts (set ds k d')) ≡ Some (with_queue (machine_by f clock ts ds) k id given (left (queue_of (machine_by f clock ts ds) k id)))
  unfolding with_queue
  told_gives id given left e = search (rules, queue_is, some_changed, with_scans)

  pub told_take : (id : MemberId) (took : Took) (scan : List ℕ) → TakesAt id took scan (f d) (f d')
      → Takes (machine_by f clock ts ds) k id took scan (Some (machine_by f clock ts (set ds k d')))
  told_take id Scan scan t = (rw (queue_is f clock ts ds k d at id) t.0, told_gives id (scan ∷ []) (drop 1) t.1)
  told_take id Empty scan t = (queue_is f clock ts ds k d at id ∙ t.0, plugged_is f clock ts ds k d at ∙ t.1, some_same t.2)
  told_take id Gone scan t = (queue_is f clock ts ds k d at id ∙ t.0, plugged_is f clock ts ds k d at ∙ t.1, some_same t.2)

  -- takes of many scans, by a seat without a trace
  pub told_take_scans : (s : SeatRecord) (most : ℕ) (took : Took) (before after : List ℕ) → s.trace ≡ None
      → TakesScansAt (seat_id s) most took before after (f d) (f d')
      → TakesScans k most (reading (Some (machine_by f clock ts ds)) s before) (reading (Some (machine_by f clock ts (set ds k d'))) s after) took
  told_take_scans s most took before after untold t = grind (arith, common_steps, queue_is, told_gives, plugged_is, some_same)

-- ---- reads

-- the front of devices
abbrev pub fronts_by : {D : Type 0} → (D → DeviceHead) → List ℕ → List TriggerDesc → List D → Front
fronts_by face context triggers ds = record { context = context; triggers = triggers; devices = map face ds }

module _ {D : Type 0} (face : D → DeviceHead) (context : List ℕ) (triggers : List TriggerDesc) (ds : List D) (k : ℕ) (d : D)
    (at : slice_get ds k ≡ Some d) where
  pub name_is : device_name (fronts_by face context triggers ds) k ≡ (face d).name
  unfolding device_name
  name_is = ap (λ (o : Option DeviceHead). option_map_or (λ (x : DeviceHead). x.name) o []) (map_at face ds k d at)

  pub shape_is : shape_at (fronts_by face context triggers ds) k ≡ (face d).shape
  unfolding shape_at
  shape_is = ap (λ (o : Option DeviceHead). option_map_or (λ (x : DeviceHead). x.shape) o no_shape) (map_at face ds k d at)

  pub kind_is : kind_at (fronts_by face context triggers ds) k ≡ (face d).kind
  unfolding kind_at
  kind_is = ap (λ (o : Option DeviceHead). option_map_or (λ (x : DeviceHead). x.kind) o Input) (map_at face ds k d at)

  pub size_is : (mask : ℕ) → size_at (fronts_by face context triggers ds) k mask ≡ scan_size (face d).shape mask
  size_is mask = ap (λ (shape : ShapeRecord). scan_size shape mask) shape_is

  module _ (f : D → Station) (clock : ℤ) (ts : List Trigger) (d' : D) (channel : Option ℕ) (a : Attr) where
    asked_at : (b : Bool) (r : Result Value No) (answer : Result Value Errno) → Turns answer (cond b (with_site sampled (f d)) (f d)) r (f d) (f d')
        → Answers (record { answer = answer; machine = cond b (with_station (with_site sampled) k (machine_by f clock ts ds)) (machine_by f clock ts ds) })
        (machine_by f clock ts ds) r (Some (machine_by f clock ts (set ds k d')))
    asked_at true (Ok x) answer t = (t.0, ap (λ (m : Machine). Some m) (told_changed f clock ts ds k d d' at (with_site sampled) t.1))
    asked_at true (Err (NoErrno e)) answer t = (t.0, ap (λ (m : Machine). Some m) (told_changed f clock ts ds k d d' at (with_site sampled) t.1))
    asked_at true (Err NoMem) answer t = ap (λ (m : Machine). Some m) (told_same f clock ts ds k d d' at t)
    asked_at false (Ok x) answer t = (t.0, ap (λ (m : Machine). Some m) (told_same f clock ts ds k d d' at t.1))
    asked_at false (Err (NoErrno e)) answer t = (t.0, ap (λ (m : Machine). Some m) (told_same f clock ts ds k d d' at t.1))
    asked_at false (Err NoMem) answer t = ap (λ (m : Machine). Some m) (told_same f clock ts ds k d d' at t)

    told_read_at : (r : Result Value No) → Reads (face d) clock channel a (f d) r (f d')
        → Answers (read_attr_of (fronts_by face context triggers ds) (machine_by f clock ts ds) k channel a) (machine_by f clock ts ds) r
        (Some (machine_by f clock ts (set ds k d')))
    unfolding read_attr_of
    told_read_at r t = rw (name_is, kind_is, shape_is, station_is f clock ts ds k d at) (asked_at (is_asking (face d).kind channel a (f d)) r _ t)

    pub told_read : (t : ℤ) (r : Result Value No) → t ≡ clock → Reads (face d) t channel a (f d) r (f d')
        → Answers (read_attr_of (fronts_by face context triggers ds) (machine_by f clock ts ds) k channel a) (machine_by f clock ts ds) r
        (Some (machine_by f clock ts (set ds k d')))
    told_read t r e reads = told_read_at r (subst (λ (x : ℤ). Reads (face d) x channel a (f d) r (f d')) e reads)

  module _ (f : D → Station) (clock : ℤ) (ts : List Trigger) (d' : D) where
    pub told_written : (id : MemberId) (bytes : List ℕ) (r : Result ℕ No)
        → Acts (λ st. record st { members = map (writes id (scans_of (scan_size (face d).shape id.mask) bytes)) st.members })
        (write_scans_at (f d) id (scan_size (face d).shape id.mask) bytes) r (f d) (f d')
        → Answers (write_scans_of (fronts_by face context triggers ds) (machine_by f clock ts ds) k id bytes) (machine_by f clock ts ds) r
        (Some (machine_by f clock ts (set ds k d')))
    unfolding write_scans_of
    told_written id bytes r t = rw (size_is id.mask) (told_writes f clock ts ds k d d' at (scan_size (face d).shape id.mask) id bytes r t)

pub name_there : (front : Front) (t : ℕ) (x : TriggerDesc) → slice_get front.triggers t ≡ Some x → x.name ≡ trigger_name front t
unfolding trigger_name
name_there front t x at = ap (λ (o : Option TriggerDesc). option_map_or (λ (y : TriggerDesc). y.name) o []) (sym at)

pub name_past : (front : Front) (t n : ℕ) → n ≡ length front.triggers → n ≤ t → [] ≡ trigger_name front t
unfolding trigger_name
name_past front t n e past = search (rules, slice_get_past)
