-- The refusals of another member at a bench are those by its triggers.
use Rattle.std.proofs.Common.{◌≡◌, ℕ, zero, suc, ◌-◌, Bool, true, false, List, [], ◌∷◌, map, length, slice_get, Option, Some, None, refl, ap, ◌∙◌, arith, rules}
use Rattle.std.specs.Prelude.{◌&&◌, ◌||◌, nat_lt, is_none}
use Rattle.std.specs.Option.{option_map_or}
use Rattle.std.proofs.lemmas.Bool.Decides.{nat_tests}
use Rattle.iio_base.specs.Refusals.{first_refusal}
use Rattle.iio_layout.specs.Shape.{ShapeRecord}
use Rattle.iio_desc.specs.declared.description.TriggerDesc.{TriggerDesc}
use Rattle.iio_desc.specs.Kind.{Kind}
use Rattle.iio_trigger.specs.Trigger.{State, holds_place}
use Rattle.iio_device.specs.Device.{has_no_place as has_no_place_for}
use Rattle.iio_device.specs.Site.{is_empty}
use Rattle.iio_core.specs.Attached.{attached_count, has_no_place}
use Rattle.iio_core.specs.Front.{Front, place_count}
use Rattle.iio_core.specs.Machine.{Station, masks_of, attachments_of}
use Rattle.iio_core.specs.Opening.{own_host}
use Rattle.iio_core.specs.Calls.{open_refusals}
use Rattle.iio_kinds.specs.Faults.{any_refusals, lacks_place}
use Rattle.iio_bench.specs.Triggers.{IsBench}
use Rattle.iio_bench.proofs.PlaceLemmas.{holds_place-places_from, length-places_from}
use Rattle.iio_bench.proofs.BenchLemmas.{none_attached}

places_by : (triggers : List TriggerDesc) (states : List State) (t : ℕ) → map (λ (s : State). s.places) states ≡ map (λ (d : TriggerDesc). d.places) triggers
    → option_map_or (λ (d : TriggerDesc). d.places) (slice_get triggers t) 0 ≡ option_map_or (λ (s : State). s.places) (slice_get states t) 0
places_by [] [] t e = refl
places_by [] (s ∷ ss) t e = absurd (cc)
places_by (d ∷ ds) [] t e = absurd (cc)
places_by (d ∷ ds) (s ∷ ss) zero e = cc
places_by (d ∷ ds) (s ∷ ss) (suc t) e = places_by ds ss t (cc)

module _ (front : Front) (states : List State) (sts : List Station) (k : ℕ) (st : Station) (bench : IsBench front.triggers states sts)
    (at : slice_get sts k ≡ Some st) (empty : is_empty st.members ≡ true) where
  lacks_at : (t : ℕ) (o : Option State) → slice_get states t ≡ o → has_no_place front (attachments_of sts) (Some t) ≡ option_map_or (has_no_place_for k) o true
  lacks_at t (Some s) e =
      let trigger = bench.each t s e in
      let none : holds_place k s.attached ≡ false =
      ap (λ ps. holds_place k ps) trigger.attached ∙ holds_place-places_from t 0 sts k k st at (omega arith) (none_attached t st empty) in
      let many : length s.attached ≡ attached_count t (attachments_of sts) = ap (λ ps. length ps) trigger.attached ∙ length-places_from t 0 sts in
      let room : place_count front t ≡ s.places =
      places_by front.triggers states t bench.places ∙ ap (λ (o : Option State). option_map_or (λ (s : State). s.places) o 0) e in
      rw (none, many, room) refl
  lacks_at t None e =
      let room : place_count front t ≡ 0 =
      places_by front.triggers states t bench.places ∙ ap (λ (o : Option State). option_map_or (λ (s : State). s.places) o 0) e in
      let nowhere : nat_lt (attached_count t (attachments_of sts)) 0 ≡ false = grind (arith, nat_tests) in
      rw (room, nowhere) refl

  pub lacks_is : (trigger : Option ℕ) → has_no_place front (attachments_of sts) trigger ≡ lacks_place k states trigger
  lacks_is trigger = search (rules, lacks_at)

full_same : (b x y z : Bool) → (b ≡ true → y ≡ x) → (((b && y) || z) || z) ≡ ((b && x) || z)
full_same b x y z same = search rules

-- the refusals by the plain state are those by the triggers
pub refusals_any : (front : Front) (states : List State) (sts : List Station) (k : ℕ) (kind : Kind) (shape : ShapeRecord) (st : Station) (mask : ℕ)
    → IsBench front.triggers states sts → slice_get sts k ≡ Some st
    → first_refusal (open_refusals front sts kind (own_host st shape mask (masks_of st.members)) st)
    ≡ first_refusal (any_refusals (lacks_place k states st.site.trigger) kind shape st mask)
refusals_any front states sts k kind shape st mask bench at = search (rules, is_none, full_same, lacks_is)
