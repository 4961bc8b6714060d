-- What jobs keep of a device.
use Rattle.std.proofs.Common.{◌≡◌, ℕ, Bool, cond, Option, Some, Result, Err, refl, rules}
use Rattle.std.specs.Prelude.{ℤ, ⊤}
use Rattle.iio_base.specs.Refusals.{first_refusal, unless_refused}
use Rattle.iio_attr.specs.declared.attributes.Attr.{Attr}
use Rattle.iio_attr.specs.declared.attributes.Attr.TheVariants as attr
use Rattle.iio_attr.specs.declared.values.Value.{Value}
use Rattle.iio_trigger.specs.Trigger.{State}
use Rattle.iio_device.specs.declared.roster.JoinFault.{JoinFault}
use Rattle.iio_device.specs.declared.roster.JoinFault.TheVariants as fault
use Rattle.iio_device.specs.Ends.{writer_end}
use Rattle.iio_device.specs.Device.{DeviceView, LeavesDevice, after_trigger, is_idle, join_faults}
use Rattle.iio_device.specs.Site.{Site}
use Rattle.iiod_commands.specs.declared.iio.No.{No}
use Rattle.iiod_commands.specs.No.{no_of}
use Rattle.iio_kfifo.specs.Ends.{WriterEnd}
use Rattle.iiod_bank.specs.Jobs.{Buffer, OpenMakes, ReadMakes, after_value}
use Rattle.iiod_bank.specs.Kept.{Kept}

pub kept_along : (a x b : DeviceView WriterEnd) → b ≡ x → Kept a x → Kept a b
kept_along a x b e k = rw e k

pub kept_same : (a b : DeviceView WriterEnd) → b ≡ a → Kept a b
kept_same a b e = kept_along a a b e (record { name = refl; number = refl; shape = refl })

-- a device whose site changed, or which stayed as it was
pub kept_site : (site : Site ℕ) (c : Bool) (a b : DeviceView WriterEnd) → b ≡ cond c (record a { site = site }) a → Kept a b
kept_site site c a b e = search rules

pub kept_retriggered : (trigger : Option ℕ) (a b : DeviceView WriterEnd) → b ≡ after_trigger trigger a → Kept a b
kept_retriggered trigger a b e = kept_site (record a.site { trigger = trigger }) (is_idle a) a b e

pub kept_left : (number : ℕ) (o : Option WriterEnd) (a b : DeviceView WriterEnd) (s t : State) → LeavesDevice writer_end number o a b s t → Kept a b
kept_left number o a b s t left = search rules

-- ---- refusals of OPEN

module _ (buffer : Buffer) where
  pub refused_by : (f : JoinFault) (r : No) (a b : DeviceView WriterEnd) (s t : Option State) → r ≡ no_of f
      → first_refusal (join_faults a buffer.mask.bits s) ≡ Some f → b ≡ a → t ≡ s → OpenMakes buffer a s (Err r) b t
  refused_by f r a b s t is refused same kept = search rules

pub kept_read : (channel : Option ℕ) (t : Attr) (a b : DeviceView WriterEnd) → b ≡ after_value channel t a → Kept a b
kept_read channel t a b e = search rules

abbrev pub unit : ⊤
unit = tt

-- the fault of a refusal is the stated one
pub stated : (o : Option JoinFault) (f : JoinFault) → Err f ≡ unless_refused unit o → o ≡ Some f
stated o f e = search rules

-- a READ at the same moment, of the same channel
pub read_along : (t u : ℤ) (channel channel' : Option ℕ) (s : Attr) (a b : DeviceView WriterEnd) (o : Result Value No) → u ≡ t → channel ≡ channel'
    → ReadMakes u channel' s a o b → ReadMakes t channel s a o b
read_along t u channel channel' s a b o e d made = search rules
