-- What the calls of a device of any kind are at each kind.
use Rattle.std.proofs.Common.{◌≡◌, ℕ, ◌-◌, Bool, true, false, Option, Some, None, IfSome, Result, refl, sym, subst, ◌∙◌, cond, List, [], ◌∷◌, map, ap, arith, rules}
use Rattle.std.proofs.lemmas.Grind.{common_steps}
use Rattle.std.specs.Prelude.{◌&&◌}
use Rattle.std.specs.List.{list_any}
use Rattle.iio_desc.specs.Description.{DeviceHead}
use Rattle.iio_desc.specs.Kind.{Output, Average, is_input, Kind}
use Rattle.iio_layout.specs.Shape.{ShapeRecord}
use Rattle.iio_trigger.specs.Trigger.{Handed, State}
use Rattle.iio_core.specs.declared.became.Became.{Became}
use Rattle.iiod_commands.specs.declared.iio.No.{No}
use Rattle.iio_core.specs.Calls.{is_inner_of}
use Rattle.iio_core.specs.Machine.{Member, Station}
use Rattle.iio_core.specs.Moves.{Capture, is_due}
use Rattle.iio_device.specs.declared.handling.Handled.TheVariants.{Idle}
use Rattle.iio_core.specs.declared.became.Became.TheVariants.{Asked}
use Rattle.iio_derive.specs.declared.members.Membership.{Membership}
use Rattle.iio_sensor.specs.Driver.{Driver}
use Rattle.iio_device.specs.declared.plug.Plug.{Plug}
use Rattle.iio_kinds.specs.declared.any_device.AnyDevice.{AnyDevice}
use Rattle.iio_kinds.specs.declared.any_device.AnyDevice.TheVariants as any
use Rattle.iio_kinds.specs.declared.in_device.InDevice.{InDevice}
use Rattle.iio_kinds.specs.declared.mean_device.MeanSeat.{MeanSeat}
use Rattle.iio_kinds.specs.declared.seat.Seat.{Seat}
use Rattle.iio_kinds.specs.Faults.{Joining, JoinsAny, MayHaveInner}
use Rattle.iio_kinds.specs.Handling.{IsTakenWhole, entry_capture, entry_station, entry_became, unless_ended}
use Rattle.iio_kinds.specs.MeanStation.{mean_member}
use Rattle.iio_kinds.specs.Station.{any_station}

pub joins_once : (w : Joining) (result : Result Seat No) (old new : Station) (trigger trigger' : State) → (w.cyclic && true) ≡ false
    → JoinsAny (record w { cyclic = false }) result old new trigger trigger' → JoinsAny w result old new trigger trigger'
joins_once w result old new trigger trigger' once joins = search rules

pub joins_output : (d : DeviceHead) (st : Station) (w : Joining) (result : Result Seat No) (old new : Station) (trigger trigger' : State)
    → is_input d.kind ≡ false → IfSome w.inner (MayHaveInner d w.mask.bits w.capacity st)
    → JoinsAny (record w { inner = None }) result old new trigger trigger' → JoinsAny w result old new trigger trigger'
joins_output d st w result old new trigger trigger' other may joins = search rules

-- a choice between two that are the same
pub either : {A : Type 0} (b : Bool) (x : A) → cond b x x ≡ x
either b x = search rules

none_whole : (shape : ShapeRecord) (o : Option Capture) (members : List Member) (scan : List ℕ) → o ≡ None → IsTakenWhole shape o members scan
none_whole shape o members scan none = subst (λ (x : Option Capture). IsTakenWhole shape x members scan) (sym none) tt

-- if there is no entry, there is no capture, and nothing changes
pub nothing_whole : (kind : Kind) (ended : Bool) (shape : ShapeRecord) (st : Station) (members : List Member) (scan : List ℕ)
    → IsTakenWhole shape (entry_capture kind None ended shape st) members scan
nothing_whole kind ended shape st members scan = none_whole shape _ members scan (either ended None)

pub nothing_stays : (kind : Kind) (ended : Bool) (shape : ShapeRecord) (st : Station) → st ≡ entry_station kind None ended shape st
nothing_stays kind ended shape st = sym (either ended st)

-- an output device makes no capture
pub output_whole : (e : Handed) (ended : Bool) (shape : ShapeRecord) (st : Station) (members : List Member) (scan : List ℕ)
    → IsTakenWhole shape (entry_capture Output (Some e) ended shape st) members scan
output_whole e ended shape st members scan = search rules

-- an averaging device makes no capture
pub average_whole : (base window : ℕ) (e : Handed) (ended : Bool) (shape : ShapeRecord) (st : Station) (members : List Member) (scan : List ℕ)
    → IsTakenWhole shape (entry_capture (Average base window) (Some e) ended shape st) members scan
average_whole base window e ended shape st members scan = search rules

-- the entries of an averaging device change nothing
pub average_stays : (base window : ℕ) (e : Handed) (ended : Bool) (shape : ShapeRecord) (st : Station)
    → st ≡ entry_station (Average base window) (Some e) ended shape st
average_stays base window e ended shape st = sym (ap (λ (x : Station). unless_ended ended st x) (either (is_due e st) st) ∙ either ended st)

pub average_idle : (base window : ℕ) (e : Handed) (ended : Bool) (st : Station)
    → Some (Asked Idle) ≡ entry_became (Average base window) (Some e) ended st
average_idle base window e ended st = sym (ap (λ (x : Became). Some x) (either ended (Asked Idle)))

-- an averaging device has no inner member
pub mean_inner : (j : ℕ) (slots : List (Option Membership)) (seats : List MeanSeat) → false ≡ list_any (is_inner_of j) (map (mean_member slots) seats)
mean_inner j slots [] = refl
mean_inner j slots (s ∷ ss) = mean_inner j slots ss

pub plain_inner : {X : Type 0} {V : X → Type 0} (drive : Plug X V → Driver) (j : ℕ) (d : AnyDevice X V) → ((x : InDevice X V) → d ≡ any.Input x → ⊥)
    → false ≡ list_any (is_inner_of j) (any_station drive d).members
plain_inner drive j d other = grind (arith, common_steps, mean_inner)
