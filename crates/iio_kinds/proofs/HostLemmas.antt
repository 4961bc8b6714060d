-- The trigger by which a member joins, or why it can't join by it.
use Rattle.std.proofs.Common.{◌≡◌, ℕ, true, List, slice_get, Option, Some, None, Result, Ok, Err, refl, ap, ◌∙◌, rules}
use Rattle.std.specs.Prelude.{⊤}
use Rattle.std.specs.Option.{option_map_or}
use Rattle.iio_base.specs.Refusals.{first_refusal, unless_refused}
use Rattle.iio_kfifo.specs.Queue.{Queue}
use Rattle.iio_trigger.specs.Trigger.{State}
use Rattle.iio_device.specs.declared.roster.JoinFault.{JoinFault}
use Rattle.iio_device.specs.Device.{DeviceView, has_no_place, join_faults}
use Rattle.iio_kinds.specs.Faults.{faults_at, lacks_place}

abbrev pub joining_of : Option JoinFault → Result ⊤ JoinFault
joining_of o = unless_refused tt o

pub err_is : (o : Option JoinFault) (f : JoinFault) → Err f ≡ joining_of o → o ≡ Some f
err_is o f e = search rules

pub ok_is : (o : Option JoinFault) (u : ⊤) → Ok u ≡ joining_of o → o ≡ None
ok_is o u e = search rules

module _ (states : List State) (d : DeviceView Queue) (mask t : ℕ) (own : d.site.trigger ≡ Some t) where
  lacks_is : (o : Option State) → slice_get states t ≡ o → lacks_place d.number states d.site.trigger ≡ option_map_or (has_no_place d.number) o true
  lacks_is o e = ap (λ (x : Option ℕ). lacks_place d.number states x) own ∙ ap (λ (x : Option State). option_map_or (has_no_place d.number) x true) e

  pub host_there : (s : State) → slice_get states t ≡ Some s → first_refusal (faults_at states d mask) ≡ first_refusal (join_faults d mask (Some s))
  host_there s there = rw (lacks_is (Some s) there) refl

  pub host_err : (s : State) (f : JoinFault) → slice_get states t ≡ Some s → Err f ≡ joining_of (first_refusal (join_faults d mask (Some s)))
      → first_refusal (faults_at states d mask) ≡ Some f
  host_err s f there e = host_there s there ∙ err_is _ f e

  pub host_ok : (s : State) (u : ⊤) → slice_get states t ≡ Some s → Ok u ≡ joining_of (first_refusal (join_faults d mask (Some s)))
      → first_refusal (faults_at states d mask) ≡ None
  host_ok s u there e = host_there s there ∙ ok_is _ u e
