-- Members that leave one after another.
use Rattle.std.proofs.Common.{◌≡◌, ℕ, suc, ◌<◌, ◌≤◌, List, [], ◌∷◌, length, Option, Some, None, refl, sym, ap, ◌∙◌, arith, rules}
use Rattle.std.specs.Prelude.{option_map}
use Rattle.iio_trigger.specs.Trigger.{State}
use Rattle.iio_device.specs.declared.membership.Member.{Member}
use Rattle.iio_device.specs.declared.membership.Membership.{Membership}
use Rattle.iio_device.specs.Ends.{writer_end}
use Rattle.iio_device.specs.Device.{DeviceView, LeavesDevice}
use Rattle.iio_device.specs.Members.{first_number, without}
use Rattle.iio_kfifo.specs.Ends.{WriterEnd}
use Rattle.iiod_bank.specs.Jobs.{Emptied, Left, gone}
use Rattle.iiod_bank.specs.Kept.{Kept}
use Rattle.iiod_bank.proofs.JobLemmas.{kept_along, kept_left, kept_same}

pub kept_twice : (a b c : DeviceView WriterEnd) → Kept a b → Kept b c → Kept a c
kept_twice a b c k l = record { name = l.name ∙ k.name; number = l.number ∙ k.number; shape = l.shape ∙ k.shape }

pub kept_gone : (a b : DeviceView WriterEnd) → b ≡ gone a → Kept a b
kept_gone a b e = kept_along a (gone a) b e (record { name = refl; number = refl; shape = refl })

fewer_by : (number : ℕ) (ms : List (Membership WriterEnd)) → length (without number ms) ≤ length ms
fewer_by number [] = omega arith
fewer_by number (m ∷ ms) = search (rules, fewer_by number ms)

pub fewer : (number : ℕ) (ms : List (Membership WriterEnd)) → first_number ms ≡ Some number → length (without number ms) < length ms
fewer number ms e = search (rules, fewer_by)

pub first_is : (ms : List (Membership WriterEnd)) (o : Option Member) (m : Member) → option_map (λ (x : Member). x.number) o ≡ first_number ms → o ≡ Some m
    → first_number ms ≡ Some m.number
first_is ms o m e d = sym e ∙ ap (λ (p : Option Member). option_map (λ (x : Member). x.number) p) d

pub none_left : (ms : List (Membership WriterEnd)) (o : Option Member) → option_map (λ (x : Member). x.number) o ≡ first_number ms → o ≡ None → ms ≡ []
none_left ms o e d = search rules

pub record IsEmptying (a : DeviceView WriterEnd) (s : State) (b : DeviceView WriterEnd) (t : State) : Type 0 where
  pub members : ℕ
  pub left : Left members a s b t
  pub kept : Kept a b

pub begins : (a : DeviceView WriterEnd) (s : State) → IsEmptying a s a s
begins a s = record { members = 0; left = (refl, refl); kept = kept_same a a refl }

pub goes_on : (a : DeviceView WriterEnd) (s : State) (c : DeviceView WriterEnd) (u : State) (b : DeviceView WriterEnd) (t : State) (number : ℕ)
    (tail : WriterEnd)
    → IsEmptying a s c u → first_number c.standing.members ≡ Some number → LeavesDevice writer_end number (Some tail) c b u t → IsEmptying a s b t
goes_on a s c u b t number tail now first left = record {
  members = suc now.members;
  left = (c, u, now.left, record { number = number; tail = tail; first = first; left = left });
  kept = kept_twice a c b now.kept (kept_left number (Some tail) c b u t left);
}

pub smaller : (c b : DeviceView WriterEnd) (u t : State) (number : ℕ) (tail : WriterEnd) → first_number c.standing.members ≡ Some number
    → LeavesDevice writer_end number (Some tail) c b u t → length b.standing.members < length c.standing.members
smaller c b u t number tail first left = rw (ap (λ (v : DeviceView WriterEnd). v.standing.members) left.1) (fewer number c.standing.members first)

pub emptied : (a : DeviceView WriterEnd) (s : State) (x b : DeviceView WriterEnd) (t : State) → x ≡ gone a → IsEmptying x s b t → b.standing.members ≡ []
    → Emptied a s b t
emptied a s x b t e now none = search rules
