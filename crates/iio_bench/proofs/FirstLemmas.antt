-- A bench that is made, one device after another.
use Rattle.std.proofs.Common.{◌≡◌, ℕ, zero, suc, ◌+◌, ◌-◌, ◌<◌, ◌≤◌, true, false, not, List, [], ◌∷◌, ◌++◌, map, fold, length, slice_get, slice_index_or, take, Option, Some, IfSome, option_map, refl, sym, ap, subst, ◌∙◌, arith, rules}
use Rattle.std.proofs.lemmas.Grind.{common_steps}
use Rattle.std.specs.Prelude.{All}
use Rattle.std.specs.List.{list_any}
use Rattle.std.proofs.lemmas.List.{length-append}
use Rattle.iio_sensor.specs.Driver.{Driver}
use Rattle.iio_desc.specs.Description.{AverageRecord, DeviceHead, DeviceRecord, OutputRecord, average_head, average_shape, input_head, output_head, shape_of_means}
use Rattle.iio_desc.specs.Kind.{Input, Average, is_average}
use Rattle.iio_desc.specs.WellFormed.{IsWellFormedAverage}
use Rattle.iio_kfifo.specs.Queue.{Queue}
use Rattle.iio_device.specs.declared.membership.Membership.{Membership}
use Rattle.iio_device.specs.declared.plug.Plug.{Plug}
use Rattle.iio_device.specs.Device.{DeviceView, new_view, view_of}
use Rattle.iio_text.specs.declared.values.Fixed.{Fixed}
use Rattle.iio_attr.specs.declared.attributes.Attr.{Attr}
use Rattle.iio_attr.specs.declared.attributes.Attr.TheVariants as attr
use Rattle.iio_layout.specs.Shape.{ShapeRecord}
use Rattle.iio_desc.specs.declared.description.AttrDesc.{AttrDesc}
use Rattle.iio_device.specs.Site.{Site, is_empty, new_site, number_in, site_written, with_attr}
use Rattle.iio_trigger.specs.Trigger.{State}
use Rattle.iio_desc.specs.declared.description.TriggerDesc.{TriggerDesc}
use Rattle.iio_desc.specs.declared.limits.TheConstants.{MAX_TRIGGERS, MAX_DEVICES}
use Rattle.iio_core.specs.Calls.{is_inner_of}
use Rattle.iio_core.specs.Machine.{Member, Station, station_in}
use Rattle.iio_probe.specs.Devices.{first_devices, first_driver}
use Rattle.iio_core.specs.Trigger.{Trigger, first_trigger}
use Rattle.iio_bench.specs.First.{first_state, first_station, mean_head_over, mean_station_over, means_over}
use Rattle.iio_bench.specs.Averages.{HasBases, IsAveraged, IsBase, kind_in, shape_in}
use Rattle.iio_kinds.specs.MeanStation.{first_mean_station, new_mean_station}
use Rattle.iio_kinds.specs.OutStation.{first_out_station}
use Rattle.iio_bench.specs.Triggers.{IsBench, IsNumbered, places_from}
use Rattle.iio_kinds.specs.Places.{has_in_hand, trigger_of}
use Rattle.iio_kinds.specs.declared.in_device.InDevice.{InDevice}
use Rattle.iio_kinds.specs.declared.in_device.Inner.{Inner}
use Rattle.iio_kinds.specs.Inner.{with_inner_name}
use Rattle.iio_kinds.specs.Station.{in_station, member_of, station_by, station_of}
use Rattle.iio_bench.proofs.ListLemmas.{length_map_is, map_append}
use Rattle.iio_bench.proofs.AverageLemmas.{average_there}
use Rattle.iio_bench.proofs.BenchLemmas.{none_attached, on_one}

-- ---- the devices

-- what no call changes of a device, in its view
abbrev front_in : DeviceView Queue → DeviceHead
front_in v = record { name = v.name; kind = Input; shape = v.standing.shape }

module _ {D : Type 0} (view : D → DeviceView Queue) (drivers : List Driver) where
  pub stations_made : (n : ℕ) (ds : List D) (descs : List DeviceRecord) → map view ds ≡ first_devices drivers n descs
      → map (λ (d : D). station_of (view d)) ds ≡ map (first_station drivers) descs
  stations_made n [] [] e = refl
  stations_made n [] (x ∷ xs) e = absurd (cc)
  stations_made n (d ∷ ds) [] e = absurd (cc)
  stations_made n (d ∷ ds) (x ∷ xs) e =
      let head : view d ≡ new_view x n (first_driver drivers x) = cc in
      let tail : map view ds ≡ first_devices drivers (suc n) xs = cc in
      ap (λ (v : DeviceView Queue). station_of v ∷ map (λ (d : D). station_of (view d)) ds) head
      ∙ ap (λ (sts : List Station). first_station drivers x ∷ sts) (stations_made (suc n) ds xs tail)

  pub fronts_made : (n : ℕ) (ds : List D) (descs : List DeviceRecord) → map view ds ≡ first_devices drivers n descs
      → map (λ (d : D). front_in (view d)) ds ≡ map input_head descs
  fronts_made n [] [] e = refl
  fronts_made n [] (x ∷ xs) e = absurd (cc)
  fronts_made n (d ∷ ds) [] e = absurd (cc)
  fronts_made n (d ∷ ds) (x ∷ xs) e =
      let head : view d ≡ new_view x n (first_driver drivers x) = cc in
      let tail : map view ds ≡ first_devices drivers (suc n) xs = cc in
      ap (λ (v : DeviceView Queue). front_in v ∷ map (λ (d : D). front_in (view d)) ds) head
      ∙ ap (λ (fs : List DeviceHead). input_head x ∷ fs) (fronts_made (suc n) ds xs tail)

  -- of devices that have their numbers and captures
  module _ {A : Type 0} (f : A → ℕ) where
    numbered_from : (n : ℕ) (devices : List A) (ds : List D) (descs : List DeviceRecord) → map f devices ≡ map (λ (d : D). (view d).number) ds
        → map view ds ≡ first_devices drivers n descs
        → (k : ℕ) (a : A) → slice_get devices k ≡ Some a → f a ≡ n + k
    numbered_from n [] ds descs same e k a at = absurd (cc)
    numbered_from n (b ∷ bs) [] descs same e k a at = absurd (cc)
    numbered_from n (b ∷ bs) (c ∷ ds) [] same e k a at = absurd (cc)
    numbered_from n (b ∷ bs) (c ∷ ds) (x ∷ xs) same e zero a at = search rules
    numbered_from n (b ∷ bs) (c ∷ ds) (x ∷ xs) same e (suc k) a at =
        let tail : map view ds ≡ first_devices drivers (suc n) xs = cc in
        let others : map f bs ≡ map (λ (d : D). (view d).number) ds = cc in
        let number : f a ≡ suc n + k = numbered_from (suc n) bs ds xs others tail k a at in
        omega (arith, number)

    pub numbered_made : (devices : List A) (ds : List D) (descs : List DeviceRecord) → map f devices ≡ map (λ (d : D). (view d).number) ds
        → map view ds ≡ first_devices drivers 0 descs → IsNumbered f devices
    numbered_made devices ds descs same e k a at = let number : f a ≡ 0 + k = numbered_from 0 devices ds descs same e k a at in omega (arith, number)

    pub captures_made : (n : ℕ) (devices : List A) (ds : List D) (descs : List DeviceRecord)
        → map f devices ≡ map (λ (d : D). (view d).standing.captures) ds → map view ds ≡ first_devices drivers n descs → All (λ (a : A). f a ≡ 0) devices
    captures_made n [] ds descs same e i a within = absurd (omega (arith, within))
    captures_made n (b ∷ bs) [] descs same e i a within = absurd (cc)
    captures_made n (b ∷ bs) (c ∷ ds) [] same e i a within = absurd (cc)
    captures_made n (b ∷ bs) (c ∷ ds) (x ∷ xs) same e zero a within = search rules
    captures_made n (b ∷ bs) (c ∷ ds) (x ∷ xs) same e (suc i) a within =
        let tail : map view ds ≡ first_devices drivers (suc n) xs = cc in
        let others : map f bs ≡ map (λ (d : D). (view d).standing.captures) ds = cc in
        captures_made (suc n) bs ds xs others tail i a (omega (arith, within))

-- an input device without inner members is told as it is
unnamed : (ms : List (Membership Queue)) → map (with_inner_name []) (map member_of ms) ≡ map member_of ms
unnamed [] = refl
unnamed (m ∷ ms) = ap (λ (xs : List Member). member_of m ∷ xs) (unnamed ms)

module _ {X : Type 0} {V : X → Type 0} (driver : Plug X V → Driver) where
  pub in_first : (d : InDevice X V) → d.inners.items ≡ [] → in_station driver d ≡ station_by driver d.device
  in_first d none =
      ap (λ (inners : List Inner).
      (let st : Station = record (station_by driver d.device) { members = map (with_inner_name inners) (station_by driver d.device).members }
      in st)) none
      ∙ ap (λ (ms : List Member). (let st : Station = record (station_by driver d.device) { members = ms } in st))
      (unnamed (view_of driver d.device).standing.members)

-- the devices so far, and another one
pub pushed : {A D B : Type 0} (f : A → B) (h : D → B) (xs ys : List A) (ds : List D) (a : A) (d : D) → ys ≡ xs ++ a ∷ [] → map f xs ≡ map h ds → f a ≡ h d
    → map f ys ≡ map h (ds ++ d ∷ [])
pushed f h xs ys ds a d more same own = search (rules, map_append)

-- the first elements, and the next one
pub take_next : {A : Type 0} (xs : List A) (n : ℕ) (x : A) → slice_get xs n ≡ Some x → take (n + 1) xs ≡ take n xs ++ x ∷ []
take_next {A} xs n x at = ap (λ (k : ℕ). take k xs) (let one : n + 1 ≡ suc n = omega arith in one) ∙ by xs n at
  where
    by : (ys : List A) (k : ℕ) → slice_get ys k ≡ Some x → take (suc k) ys ≡ take k ys ++ x ∷ []
    by [] k e = absurd (cc)
    by (y ∷ ys) zero e = let same : y ≡ x = cc in ap (λ (z : A). z ∷ []) same
    by (y ∷ ys) (suc k) e = ap (λ (zs : List A). y ∷ zs) (by ys k e)

-- ---- devices that are added, one after another

append_one : {A : Type 0} (xs ys : List A) (x : A) → (xs ++ x ∷ []) ++ ys ≡ xs ++ x ∷ ys
append_one [] ys x = refl
append_one {A} (z ∷ zs) ys x = ap (λ (ws : List A). z ∷ ws) (append_one zs ys x)

appended : {A : Type 0} (xs ys zs : List A) → (xs ++ ys) ++ zs ≡ xs ++ (ys ++ zs)
appended [] ys zs = refl
appended {A} (x ∷ xs) ys zs = ap (λ (ws : List A). x ∷ ws) (appended xs ys zs)

longer : {A : Type 0} (xs : List A) (x : A) → length (xs ++ x ∷ []) ≡ suc (length xs)
longer [] x = refl
longer (z ∷ zs) x = ap (λ (n : ℕ). suc n) (longer zs x)

left_of : {A : Type 0} (P : A → Type 0) (xs ys : List A) → All P (xs ++ ys) → All P ys
left_of P [] ys all = all
left_of P (x ∷ xs) ys all = left_of P xs ys (λ j e inside. all (suc j) e (omega (arith, inside)))

module _ {A : Type 0} where
  numbered_more : (f : A → ℕ) (n : ℕ) (xs : List A) (a : A) → ((k : ℕ) (x : A) → slice_get xs k ≡ Some x → f x ≡ n + k) → f a ≡ n + length xs
      → (k : ℕ) (x : A) → slice_get (xs ++ a ∷ []) k ≡ Some x → f x ≡ n + k
  numbered_more f n [] a each own zero x at = let same : a ≡ x = cc in ap f (sym same) ∙ own
  numbered_more f n [] a each own (suc k) x at = absurd (cc)
  numbered_more f n (y ∷ ys) a each own zero x at = each zero x at
  numbered_more f n (y ∷ ys) a each own (suc k) x at =
      search (rules, numbered_more f (suc n) ys a (λ i z e. (let h : f z ≡ n + suc i = each (suc i) z e in omega (arith, h))) (omega (arith, own)) k x at)

  unmoved_more : (f : A → ℕ) (xs : List A) (a : A) → All (λ (x : A). f x ≡ 0) xs → f a ≡ 0 → All (λ (x : A). f x ≡ 0) (xs ++ a ∷ [])
  unmoved_more f [] a all own zero d within = own
  unmoved_more f [] a all own (suc i) d within = absurd (omega arith)
  unmoved_more f (y ∷ ys) a all own zero d within = all zero d (omega arith)
  unmoved_more f (y ∷ ys) a all own (suc i) d within = unmoved_more f ys a (λ j e inside. all (suc j) e (omega (arith, inside))) own i d (omega (arith, within))

  -- that many are there, after those before
  pub record Adding {E : Type 0} (made : E → Station) (headed : E → DeviceHead) (f : A → Station) (face : A → DeviceHead) (number captures : A → ℕ)
      (descs : List E) (before : List A) (done left : List E) (devices : List A) : Type 0 where
    pub whole : done ++ left ≡ descs
    pub many : length devices ≡ length before + length done
    pub stations : map f devices ≡ map f before ++ map made done
    pub fronts : map face devices ≡ map face before ++ map headed done
    pub numbered : IsNumbered number devices
    pub unmoved : All (λ (d : A). captures d ≡ 0) devices

  module _ {E : Type 0} (made : E → Station) (headed : E → DeviceHead) (f : A → Station) (face : A → DeviceHead) (number captures : A → ℕ) (descs : List E)
      (before : List A) where
    module _ (done rest left : List E) (devices devices' : List A) (x : E) (next : rest ≡ x ∷ left)
        (adding : Adding made headed f face number captures descs before done rest devices) where
      there : done ++ x ∷ left ≡ descs
      there = ap (λ (xs : List E). done ++ xs) (sym next) ∙ adding.whole

      -- it is one of the description's, and has a number
      pub one_next : (P : E → Type 0) → All P descs → P x
      one_next P all = left_of P done (x ∷ left) (subst (λ (xs : List E). All P xs) (sym there) all) 0 x (omega arith)

      pub added : (d : A) → devices' ≡ devices ++ d ∷ [] → f d ≡ made x → face d ≡ headed x → number d ≡ length devices → captures d ≡ 0
          → Adding made headed f face number captures descs before (done ++ x ∷ []) left devices'
      added d pushed station head own still =
          subst (λ (ds : List A). Adding made headed f face number captures descs before (done ++ x ∷ []) left ds) (sym pushed)
          (record {
            whole = append_one done left x ∙ there;
            many = (let a = longer devices d in let b = longer done x in omega (arith, a, b, adding.many));
            stations = grind (arith, common_steps);
            fronts = grind (arith, common_steps);
            numbered =
                λ k a at. (let h : number a ≡ 0 + k =
                numbered_more number 0 devices d (λ i z e. (let n : number z ≡ i = adding.numbered i z e in omega (arith, n))) (omega (arith, own)) k a at in
                omega (arith, h));
            unmoved = unmoved_more captures devices d adding.unmoved still;
          })

module _ {A : Type 0} (f : A → Station) (face : A → DeviceHead) (number captures : A → ℕ) (before : List A) where
  -- the channels of a device that was there before
  pub base_shape : (devices : List A) (more : List DeviceHead) (k : ℕ) (a : A) → map face devices ≡ map face before ++ more → k < length before
      → a ≡ slice_index_or devices k a → shape_in (map face before) k ≡ (face a).shape
  base_shape devices more k a e within at = by before devices k e within at
    where
      by : (bs ds : List A) (k : ℕ) → map face ds ≡ map face bs ++ more → k < length bs → a ≡ slice_index_or ds k a
          → shape_in (map face bs) k ≡ (face a).shape
      by [] ds k e within at = absurd (omega (arith, within))
      by (b ∷ bs) [] k e within at = absurd (cc)
      by (b ∷ bs) (d ∷ ds) zero e within at = cc
      by (b ∷ bs) (d ∷ ds) (suc k) e within at =
          let tail : map face ds ≡ map face bs ++ more = cc in
          by bs ds k tail (omega (arith, within)) at

  -- an averaging device is well formed
  pub formed_next : (made : AverageRecord → Station) (headed : AverageRecord → DeviceHead) (n : ℕ) (descs done rest left : List AverageRecord)
      (devices : List A) (x : AverageRecord) → rest ≡ x ∷ left
      → Adding made headed f face number captures descs before done rest devices → All (IsWellFormedAverage n) descs → IsWellFormedAverage n x
  formed_next made headed n descs done rest left devices x next adding all =
      one_next made headed f face number captures descs before done rest left devices devices x next adding (IsWellFormedAverage n) all

-- ---- what holds of the bench

-- no station has a member
abbrev pub AreBare : List Station → Type 0
AreBare [] = Unit {0}
AreBare (st ∷ sts) = (is_empty st.members ≡ true) × AreBare sts

outputs_seat_state : (descs : List OutputRecord) → AreBare (map first_out_station descs)
outputs_seat_state [] = tt
outputs_seat_state (x ∷ xs) = (refl, outputs_seat_state xs)

averages_seat_state : (made : AverageRecord → Station) → ((x : AverageRecord) → (made x).members ≡ []) → (means : List AverageRecord) → AreBare (map made means)
averages_seat_state made none [] = tt
averages_seat_state made none (x ∷ xs) = (ap (λ (ms : List Member). is_empty ms) (none x), averages_seat_state made none xs)

seat_state_both : (xs ys : List Station) → AreBare xs → AreBare ys → AreBare (xs ++ ys)
seat_state_both [] ys xs-bare ys-bare = ys-bare
seat_state_both (x ∷ xs) ys xs-bare ys-bare = (xs-bare.0, seat_state_both xs ys xs-bare.1 ys-bare)

inputs_seat_state : (drivers : List Driver) (inputs : List DeviceRecord) → AreBare (map (first_station drivers) inputs)
inputs_seat_state drivers [] = tt
inputs_seat_state drivers (x ∷ xs) = (refl, inputs_seat_state drivers xs)

pub first_seat_state : (drivers : List Driver) (inputs : List DeviceRecord) (outputs : List OutputRecord) (means : List AverageRecord)
    → AreBare (map (first_station drivers) inputs ++ (map first_out_station outputs ++ map (first_mean_station inputs) means))
first_seat_state drivers inputs outputs means =
    grind (arith, common_steps, seat_state_both, first_station, inputs_seat_state, outputs_seat_state, averages_seat_state)

module _ {D : Type 0} (f h : D → Station) (same : (d : D) → is_empty (h d).members ≡ is_empty (f d).members) where
  none_placed : (dev t : ℕ) (ds : List D) → AreBare (map f ds) → places_from dev t (map h ds) ≡ []
  none_placed dev t [] bare = refl
  none_placed dev t (d ∷ ds) bare = rw (none_attached t (h d) (same d ∙ bare.0)) (none_placed (suc dev) t ds bare.1)

  first_at : (ts : List TriggerDesc) (t : ℕ) (s : State) → slice_get (map first_state ts) t ≡ Some s → (s.attached ≡ []) × (has_in_hand s.outstanding ≡ false)
  first_at [] t s e = absurd (cc)
  first_at (x ∷ xs) zero s e = let same : s ≡ first_state x = cc in (ap (λ (y : State). y.attached) same, ap (λ (y : State). has_in_hand y.outstanding) same)
  first_at (x ∷ xs) (suc t) s e = first_at xs t s e

  same_places : (ts : List TriggerDesc) → map (λ (s : State). s.places) (map first_state ts) ≡ map (λ (t : TriggerDesc). t.places) ts
  same_places [] = refl
  same_places (t ∷ ts) = ap (λ (ns : List ℕ). t.places ∷ ns) (same_places ts)

  pub first_bench : (ts : List TriggerDesc) (states : List State) (ds : List D) (sts : List Station) → length ts ≤ MAX_TRIGGERS → length sts ≤ MAX_DEVICES
      → states ≡ map first_state ts → map f ds ≡ sts → AreBare sts
      → IsBench ts states (map h ds)
  first_bench ts states ds sts few most made e none =
      let bare : AreBare (map f ds) = subst (λ (xs : List Station). AreBare xs) (sym e) none in
      record {
        few = few;
        devices = rw (length_map_is h ds ∙ sym (length_map_is f ds) ∙ ap (λ (xs : List Station). length xs) e) most;
        places = ap (λ (ss : List State). map (λ (s : State). s.places) ss) made ∙ same_places ts;
        each = λ t s at. (
            let fresh = first_at ts t s (ap (λ (ss : List State). slice_get ss t) (sym made) ∙ at) in
            record { attached = fresh.0 ∙ sym (none_placed 0 t ds bare); idle = fresh.1 }
            );
      }

pub firsts_few : (drivers : List Driver) (inputs : List DeviceRecord) (outputs : List OutputRecord) (means : List AverageRecord) (n : ℕ)
    → length inputs + length outputs + length means ≤ n
    → length (map (first_station drivers) inputs ++ (map first_out_station outputs ++ map (first_mean_station inputs) means)) ≤ n
firsts_few drivers inputs outputs means n few = grind (arith, common_steps)

-- ---- what concerns averaging devices

-- the base of an averaging device is one of the input devices
kind_input : (inputs : List DeviceRecord) (rest : List DeviceHead) (k : ℕ) → k < length inputs → kind_in (map input_head inputs ++ rest) k ≡ Input
kind_input [] rest k within = absurd (omega (arith, within))
kind_input (x ∷ xs) rest zero within = refl
kind_input (x ∷ xs) rest (suc k) within = kind_input xs rest k (omega (arith, within))

pub shape_input : (inputs : List DeviceRecord) (rest : List DeviceHead) (k : ℕ) → k < length inputs
    → shape_of_means (Some (shape_in (map input_head inputs ++ rest) k)) ≡ shape_of_means (option_map (λ (d : DeviceRecord). d.shape) (slice_get inputs k))
shape_input [] rest k within = absurd (omega (arith, within))
shape_input (x ∷ xs) rest zero within = refl
shape_input (x ∷ xs) rest (suc k) within = shape_input xs rest k (omega (arith, within))

-- heads without one of an averaging device
abbrev ArePlain : List DeviceHead → Type 0
ArePlain [] = Unit {0}
ArePlain (h ∷ hs) = (is_average h.kind ≡ false) × ArePlain hs

inputs_plain : (xs : List DeviceRecord) → ArePlain (map input_head xs)
inputs_plain [] = tt
inputs_plain (x ∷ xs) = (refl, inputs_plain xs)

outputs_plain : (xs : List OutputRecord) → ArePlain (map output_head xs)
outputs_plain [] = tt
outputs_plain (x ∷ xs) = (refl, outputs_plain xs)

plain_both : (xs ys : List DeviceHead) → ArePlain xs → ArePlain ys → ArePlain (xs ++ ys)
plain_both [] ys a b = b
plain_both (x ∷ xs) ys a b = (a.0, plain_both xs ys a.1 b)

module _ (inputs : List DeviceRecord) where
  plain_before : (hs : List DeviceHead) (means : List AverageRecord) (k : ℕ) → ArePlain hs → k < length hs
      → is_average (kind_in (hs ++ map (average_head inputs) means) k) ≡ false
  plain_before [] means k plain less = absurd (omega (arith, less))
  plain_before (h ∷ hs) means zero plain less = plain.0
  plain_before (h ∷ hs) means (suc k) plain less = plain_before hs means k plain.1 (omega (arith, less))

  average_after : (hs : List DeviceHead) (means : List AverageRecord) (k : ℕ) → length hs ≤ k → k < length (hs ++ map (average_head inputs) means)
      → is_average (kind_in (hs ++ map (average_head inputs) means) k) ≡ true
  average_after [] [] k past within = absurd (omega (arith, within))
  average_after [] (x ∷ xs) zero past within = refl
  average_after [] (x ∷ xs) (suc k) past within = average_after [] xs k (omega arith) (omega (arith, within))
  average_after (h ∷ hs) means zero past within = absurd (omega (arith, past))
  average_after (h ∷ hs) means (suc k) past within = average_after hs means k (omega (arith, past)) (omega (arith, within))

  -- an averaging device is one of the description's
  one_of : (hs : List DeviceHead) (means : List AverageRecord) (k base window : ℕ) → ArePlain hs
      → kind_in (hs ++ map (average_head inputs) means) k ≡ Average base window
      → (x : AverageRecord) × (i : ℕ) × (slice_get means i ≡ Some x) × (x.base ≡ base)
      × (shape_in (hs ++ map (average_head inputs) means) k ≡ average_shape inputs x)
  one_of [] [] k base window plain is = absurd (cc)
  one_of [] (x ∷ xs) zero base window plain is = search rules
  one_of [] (x ∷ xs) (suc k) base window plain is = let more = one_of [] xs k base window plain is in (more.0, suc more.1, more.2, more.3, more.4)
  one_of (h ∷ hs) means zero base window plain is = absurd (let none : is_average h.kind ≡ true = ap is_average is in let no = plain.0 in cc)
  one_of (h ∷ hs) means (suc k) base window plain is = one_of hs means k base window plain.1 is

pub first_bases : (inputs : List DeviceRecord) (outputs : List OutputRecord) (means : List AverageRecord) (first : ℕ) → first ≡ length inputs + length outputs
    → All (IsWellFormedAverage (length inputs)) means
    → HasBases first (map input_head inputs ++ (map output_head outputs ++ map (average_head inputs) means))
first_bases inputs outputs means first many formed =
    subst (λ (hs : List DeviceHead). HasBases first hs) (appended (map input_head inputs) (map output_head outputs) (map (average_head inputs) means))
    (record {
      within = (let a = all_count in omega (arith, a, front_count, many));
      others = λ k less. plain_before inputs fronts means k plain (omega (arith, less, front_count, many));
      averages = λ k past within. average_after inputs fronts means k (omega (arith, past, front_count, many)) within;
      bases = λ j base window is. base_of_one j base window (one_of inputs fronts means j base window plain is);
    })
  where
    fronts : List DeviceHead
    fronts = map input_head inputs ++ map output_head outputs

    front_count : length fronts ≡ length inputs + length outputs
    front_count = grind (arith, common_steps)

    all_count : length fronts ≤ length (fronts ++ map (average_head inputs) means)
    all_count = let a = length-append fronts (map (average_head inputs) means) in omega (arith, a)

    plain : ArePlain fronts
    plain = plain_both (map input_head inputs) (map output_head outputs) (inputs_plain inputs) (outputs_plain outputs)

    over : (xs : List AverageRecord) (i : ℕ) (x : AverageRecord) → All (IsWellFormedAverage (length inputs)) xs → slice_get xs i ≡ Some x
        → IsWellFormedAverage (length inputs) x
    over [] i x all at = absurd (cc)
    over (y ∷ ys) zero x all at = let one : y ≡ x = cc in subst (IsWellFormedAverage (length inputs)) one (all 0 y (omega arith))
    over (y ∷ ys) (suc i) x all at = over ys i x (λ j e inside. all (suc j) e (omega (arith, inside))) at

    base_of_one : (j base window : ℕ)
        → (x : AverageRecord) × (i : ℕ) × (slice_get means i ≡ Some x) × (x.base ≡ base)
        × (shape_in (fronts ++ map (average_head inputs) means) j ≡ average_shape inputs x)
        → IsBase first (fronts ++ map (average_head inputs) means) (shape_in (fronts ++ map (average_head inputs) means) j) base
    base_of_one j base window one =
        let is = over means one.1 one.0 formed one.2 in
        let within : base < length inputs = (let w = is.over in let e = one.3 in omega (arith, w, e)) in
        let heads : fronts ++ map (average_head inputs) means ≡ map input_head inputs ++ (map output_head outputs ++ map (average_head inputs) means)
        = appended (map input_head inputs) (map output_head outputs) (map (average_head inputs) means) in
        record {
          before = omega (arith, within, many);
          input = search (rules, kind_input);
          shape = search (rules, shape_input);
        }

-- the averaging devices that were added are those of the description
module _ (inputs : List DeviceRecord) (outputs : List OutputRecord) where
  means_shape : (x : AverageRecord) → IsWellFormedAverage (length inputs) x
      → means_over (map input_head inputs ++ map output_head outputs) x.base ≡ average_shape inputs x
  means_shape x is = shape_input inputs (map output_head outputs) x.base is.over

  pub means_stations : (means : List AverageRecord) → All (IsWellFormedAverage (length inputs)) means
      → map (mean_station_over (map input_head inputs ++ map output_head outputs)) means ≡ map (first_mean_station inputs) means
  means_stations [] all = refl
  means_stations (x ∷ xs) all =
      ap (λ (s : ShapeRecord). new_mean_station s ∷ map (mean_station_over (map input_head inputs ++ map output_head outputs)) xs)
      (means_shape x (all 0 x (omega arith)))
      ∙ ap (λ (sts : List Station). first_mean_station inputs x ∷ sts) (means_stations xs (λ i d within. all (suc i) d (omega (arith, within))))

  pub means_heads : (means : List AverageRecord) → All (IsWellFormedAverage (length inputs)) means
      → map (mean_head_over (map input_head inputs ++ map output_head outputs)) means ≡ map (average_head inputs) means
  means_heads [] all = refl
  means_heads (x ∷ xs) all =
      ap (λ (s : ShapeRecord). (let h : DeviceHead = record { name = x.name; kind = Average x.base x.window; shape = s } in h)
      ∷ map (mean_head_over (map input_head inputs ++ map output_head outputs)) xs) (means_shape x (all 0 x (omega arith)))
      ∙ ap (λ (hs : List DeviceHead). average_head inputs x ∷ hs) (means_heads xs (λ i d within. all (suc i) d (omega (arith, within))))

  -- all devices that were made
  pub added_stations : (drivers : List Driver) (means : List AverageRecord) (heads : List DeviceHead) (first sts all : List Station)
      → All (IsWellFormedAverage (length inputs)) means
      → first ≡ map (first_station drivers) inputs → sts ≡ first ++ map first_out_station outputs → heads ≡ map input_head inputs ++ map output_head outputs
      → all ≡ sts ++ map (mean_station_over heads) means
      → all ≡ map (first_station drivers) inputs ++ (map first_out_station outputs ++ map (first_mean_station inputs) means)
  added_stations drivers means heads first sts all formed is_first is_sts is_heads is_all = search (rules, first_station, means_stations, appended)

  pub added_heads : (means : List AverageRecord) (first heads all : List DeviceHead) → All (IsWellFormedAverage (length inputs)) means
      → first ≡ map input_head inputs → heads ≡ first ++ map output_head outputs
      → all ≡ heads ++ map (mean_head_over heads) means → all ≡ map input_head inputs ++ (map output_head outputs ++ map (average_head inputs) means)
  added_heads means first heads all formed is_first is_heads is_all = search (rules, means_heads, appended)

-- the same with more devices
pub formed_more : (n m : ℕ) (means : List AverageRecord) → n ≤ m → All (IsWellFormedAverage n) means → All (IsWellFormedAverage m) means
formed_more n m means less all = search rules

-- each device is plugged, has one of the first n triggers or none, and has made no capture
abbrev pub AreFresh : ℕ → List Station → Type 0
AreFresh n [] = Unit {0}
AreFresh n (st ∷ sts) = (st.captures ≡ 0) × (st.site.plugged ≡ true) × IfSome st.site.trigger (λ t. t < n) × AreFresh n sts

attr_plugged : (site : Site ℕ) (channel : Option ℕ) (a : Attr) (v : Fixed) → (site_written channel a v site).plugged ≡ site.plugged
attr_plugged site channel a v = search rules

attrs_plugged : (site : Site ℕ) (attrs : List AttrDesc) → (fold with_attr site attrs).plugged ≡ site.plugged
attrs_plugged site [] = refl
attrs_plugged site (a ∷ attrs) = attrs_plugged (with_attr site a) attrs ∙ attr_plugged site a.channel a.attr (number_in a.value)

attr_trigger : (site : Site ℕ) (channel : Option ℕ) (a : Attr) (v : Fixed) → (site_written channel a v site).trigger ≡ site.trigger
attr_trigger site channel a v = search rules

attrs_trigger : (site : Site ℕ) (attrs : List AttrDesc) → (fold with_attr site attrs).trigger ≡ site.trigger
attrs_trigger site [] = refl
attrs_trigger site (a ∷ attrs) = attrs_trigger (with_attr site a) attrs ∙ attr_trigger site a.channel a.attr (number_in a.value)

module _ (n : ℕ) where
  fresh_both : (xs ys : List Station) → AreFresh n xs → AreFresh n ys → AreFresh n (xs ++ ys)
  fresh_both [] ys a b = b
  fresh_both (x ∷ xs) ys a b = (a.0, a.1, a.2, fresh_both xs ys a.3 b)

  fresh_inputs : (drivers : List Driver) (xs : List DeviceRecord) → All (λ x. IfSome x.trigger (λ t. t < n)) xs → AreFresh n (map (first_station drivers) xs)
  fresh_inputs drivers [] on = tt
  fresh_inputs drivers (x ∷ xs) on =
      let site = new_site x.shape x.trigger (first_driver drivers x) in (
        refl,
        attrs_plugged site x.attrs,
        subst (λ (o : Option ℕ). IfSome o (λ t. t < n)) (sym (attrs_trigger site x.attrs)) (on zero x (omega arith)),
        fresh_inputs drivers xs (λ i y within. on (suc i) y (omega (arith, within))),
      )

  fresh_outputs : (xs : List OutputRecord) → All (λ x. IfSome x.trigger (λ t. t < n)) xs → AreFresh n (map first_out_station xs)
  fresh_outputs [] on = tt
  fresh_outputs (x ∷ xs) on = (refl, refl, on zero x (omega arith), fresh_outputs xs (λ i y within. on (suc i) y (omega (arith, within))))

  fresh_means : (inputs : List DeviceRecord) (xs : List AverageRecord) → AreFresh n (map (first_mean_station inputs) xs)
  fresh_means inputs [] = tt
  fresh_means inputs (x ∷ xs) = (refl, refl, tt, fresh_means inputs xs)

  pub first_fresh : (drivers : List Driver) (inputs : List DeviceRecord) (outputs : List OutputRecord) (means : List AverageRecord)
      → All (λ x. IfSome x.trigger (λ t. t < n)) inputs → All (λ x. IfSome x.trigger (λ t. t < n)) outputs
      → AreFresh n (map (first_station drivers) inputs ++ (map first_out_station outputs ++ map (first_mean_station inputs) means))
  first_fresh drivers inputs outputs means h1 h2 = grind (arith, common_steps, fresh_both, first_station, fresh_inputs, fresh_outputs, fresh_means)

  fresh_captures : (sts : List Station) (i : ℕ) → AreFresh n sts → (station_in sts i).captures ≡ 0
  fresh_captures [] i fresh = refl
  fresh_captures (x ∷ xs) zero fresh = fresh.0
  fresh_captures (x ∷ xs) (suc i) fresh = fresh_captures xs i fresh.3

  fresh_plugged : (sts : List Station) (i : ℕ) → i < length sts → AreFresh n sts → (station_in sts i).site.plugged ≡ true
  fresh_plugged [] i less fresh = absurd (omega (arith, less))
  fresh_plugged (x ∷ xs) zero less fresh = fresh.1
  fresh_plugged (x ∷ xs) (suc i) less fresh = fresh_plugged xs i (omega (arith, less)) fresh.3

  fresh_on : (sts : List Station) (i : ℕ) → AreFresh n sts → IfSome (station_in sts i).site.trigger (λ t. t < n)
  fresh_on [] i fresh = tt
  fresh_on (x ∷ xs) zero fresh = fresh.2
  fresh_on (x ∷ xs) (suc i) fresh = fresh_on xs i fresh.3

-- before the first step no averaging device has a member
pub first_averaged : (triggers first : ℕ) (heads : List DeviceHead) (sts : List Station) → HasBases first heads → length sts ≡ length heads → AreBare sts
    → AreFresh triggers sts → IsAveraged triggers first heads sts
first_averaged triggers first heads sts bases many bare fresh = record {
  bases = bases;
  hosted =
      λ dev plain. on_one triggers (station_in sts dev).site.trigger (is_empty (station_in sts dev).members) (fresh_on triggers sts dev fresh)
      (seat_state_at sts dev bare);
  inners = λ j base window is. record {
    plugged =
        plugged j (let less = average_there heads j base window is in omega (arith, less, many))
        ∙ sym (plugged base (let less = (bases.bases j base window is).before in let within = bases.within in omega (arith, less, within, many)));
    inner = no_inner j (station_in sts base).members (seat_state_at sts base bare) ∙ sym (ap not (seat_state_at sts j bare));
    fewer = (let a = none j in let b = none base in omega (arith, a, b));
    most = (let b = none base in omega (arith, b));
  };
}
  where
    plugged : (i : ℕ) → i < length sts → (station_in sts i).site.plugged ≡ true
    plugged i less = fresh_plugged triggers sts i less fresh

    none : (i : ℕ) → (station_in sts i).captures ≡ 0
    none i = fresh_captures triggers sts i fresh

    seat_state_at : (xs : List Station) (i : ℕ) → AreBare xs → is_empty (station_in xs i).members ≡ true
    seat_state_at [] i bare = refl
    seat_state_at (x ∷ xs) zero bare = bare.0
    seat_state_at (x ∷ xs) (suc i) bare = seat_state_at xs i bare.1

    no_inner : (j : ℕ) (ms : List Member) → is_empty ms ≡ true → list_any (is_inner_of j) ms ≡ false
    no_inner j ms e = search rules

pub first_told : (ts : List TriggerDesc) → map trigger_of (map first_state ts) ≡ map (λ (t : TriggerDesc). first_trigger) ts
first_told [] = refl
first_told (t ∷ ts) = ap (λ (xs : List Trigger). first_trigger ∷ xs) (first_told ts)
