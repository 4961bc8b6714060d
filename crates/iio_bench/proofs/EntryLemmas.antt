-- What the handling of an entry keeps of a device's standing.
use Rattle.std.proofs.Common.{◌≡◌, ℕ, ◌+◌, ◌-◌, Bool, map, Option, refl, cond, arith, rules}
use Rattle.std.proofs.lemmas.Grind.{common_steps}
use Rattle.std.specs.Prelude.{ℤ}
use Rattle.iio_layout.specs.Shape.{ShapeRecord}
use Rattle.iio_desc.specs.Kind.{Kind, Input, Output, Average}
use Rattle.iio_derive.specs.Window.{no_window}
use Rattle.iio_sensor.specs.Driver.{ask_fails, values_of}
use Rattle.iio_trigger.specs.Trigger.{Handed}
use Rattle.iio_core.specs.Calls.{is_inner_of}
use Rattle.iio_core.specs.Machine.{Member, Station}
use Rattle.iio_core.specs.Moves.{Capture, asked_once, station_after_capture, gives, station_after_giving, offered_to, station_after_entry}
use Rattle.iio_kinds.proofs.EmptyLemmas.{is_empty-map}
use Rattle.iio_kinds.proofs.StandingLemmas.{KeepsInner, inner_kept}
use Rattle.iio_bench.proofs.BenchLemmas.{inner_mapped}

-- ---- what handling keeps

pub offered_inner : (shape : ShapeRecord) (c : Capture) (j : ℕ) (x : Member) → is_inner_of j (offered_to shape c x) ≡ is_inner_of j x
offered_inner shape c j x = search rules

asked_kept : (shape : ShapeRecord) (c : Capture) (t : ℤ) (st : Station) (b : Bool)
    → KeepsInner st (cond b (asked_once shape t st)
    (record (asked_once shape t st) { captures = st.captures + 1; members = map (offered_to shape c) st.members; window = no_window }))
asked_kept shape c t st b = search (rules, inner_kept, is_empty-map, inner_mapped, offered_inner)

given_kept : (shape : ShapeRecord) (st : Station) → KeepsInner st (station_after_giving shape st)
given_kept shape st = grind (arith, common_steps, inner_kept, is_empty-map, gives, inner_mapped)

capture_kept : (kind : Kind) (shape : ShapeRecord) (t : ℤ) (st : Station) → KeepsInner st (station_after_capture kind shape t st)
capture_kept Input shape t st = asked_kept shape (record { moment = t; values = values_of st.site.driver shape t }) t st (ask_fails st.site.driver)
capture_kept Output shape t st = given_kept shape st
capture_kept (Average base window) shape t st = inner_kept st st refl refl refl refl (λ j. refl)

pub current_kept : (b : Bool) (st w : Station) → KeepsInner st w → KeepsInner st (cond b w st)
current_kept b st w kept = search rules

pub entry_kept : (kind : Kind) (o : Option Handed) (shape : ShapeRecord) (st : Station) → KeepsInner st (station_after_entry kind shape o st)
entry_kept kind o shape st = search (rules, inner_kept, current_kept, capture_kept)
