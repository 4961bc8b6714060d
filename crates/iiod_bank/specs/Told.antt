-- What a bank tells of its state, and what a job makes of it.
use Rattle.std.specs.Prelude.{◌≡◌, ℕ, ℤ, Bool, false, List, slice_get, slice_set, Option, Some, None, IfSome}
use Rattle.std.specs.Option.{option_map_or}
use Rattle.iio_trigger.specs.Trigger.{State}
use Rattle.iio_layout.specs.Shape.{ShapeRecord}
use Rattle.iio_device.specs.Device.{DeviceView}
use Rattle.iio_kfifo.specs.Ends.{WriterEnd}

-- the devices, the 16 triggers, and the moment that the clock shows
pub record Told : Type 0 where
  pub devices : List (DeviceView WriterEnd)
  pub triggers : List State
  pub clock : ℤ

-- the trigger of a number, if there is one
abbrev pub trigger_at : List State → Option ℕ → Option State
trigger_at triggers None = None
trigger_at triggers (Some n) = slice_get triggers n

abbrev pub with_trigger : List State → Option ℕ → Option State → List State
with_trigger triggers (Some n) (Some t) = slice_set triggers n t
with_trigger triggers (Some n) None = triggers
with_trigger triggers None t = triggers

-- whether a device is plugged, and the number of its trigger
abbrev pub is_plugged_at : Told → ℕ → Bool
is_plugged_at b dev = option_map_or (λ (a : DeviceView WriterEnd). a.site.plugged) (slice_get b.devices dev) false

abbrev pub trigger_number_at : Told → ℕ → Option ℕ
trigger_number_at b dev = option_map_or (λ (a : DeviceView WriterEnd). a.site.trigger) (slice_get b.devices dev) None

module _ {O : Type 0} where
  -- an answer that a job may give at a device of that number at which it may run: this is known over every bank
  pub record Allowed (may : ShapeRecord → Type 0) (makes : DeviceView WriterEnd → Option State → O → DeviceView WriterEnd → Option State → Type 0) (dev : ℕ)
      (o : O) : Type 0 where
    pub a : DeviceView WriterEnd
    pub s : Option State
    pub b : DeviceView WriterEnd
    pub t : Option State
    pub number : a.number ≡ dev
    pub fit : may a.standing.shape
    pub made : makes a s o b t

  -- a job was run once at a device and its trigger
  pub record Ran (makes : DeviceView WriterEnd → Option State → O → DeviceView WriterEnd → Option State → Type 0) (dev : ℕ) (b : Told) (o : O) (c : Told) : Type
      0 where
    pub old : DeviceView WriterEnd
    pub at : slice_get b.devices dev ≡ Some old
    pub new : DeviceView WriterEnd
    pub t : Option State
    pub made : makes old (trigger_at b.triggers old.site.trigger) o new t
    pub after : c ≡ record b { devices = slice_set b.devices dev new; triggers = with_trigger b.triggers old.site.trigger t }

  -- a job that leaves the trigger alone
  abbrev pub Only : (DeviceView WriterEnd → O → DeviceView WriterEnd → Type 0) → DeviceView WriterEnd → Option State → O → DeviceView WriterEnd → Option State
      → Type 0
  Only does a s o b t = (t ≡ s) × does a o b

  pub record AllowedAt (makes : State → O → State → Type 0) (o : O) : Type 0 where
    pub s : State
    pub t : State
    pub made : makes s o t

  -- a job was run once at a trigger
  pub record RanAt (makes : State → O → State → Type 0) (n : ℕ) (b : Told) (o : O) (c : Told) : Type 0 where
    pub old : State
    pub at : slice_get b.triggers n ≡ Some old
    pub new : State
    pub made : makes old o new
    pub after : c ≡ record b { triggers = slice_set b.triggers n new }

-- the told state moves by a relation, if it is told
abbrev pub Moves : Option Told → Option Told → (Told → Told → Type 0) → Type 0
Moves old new R = IfSome old (λ b. (c : Told) × (new ≡ Some c) × R b c)
