-- What the calls that read a line return: what the reading by definitions gives, its refusal, or lack of memory.
use Rattle.std.specs.Prelude.{◌≡◌, Result, Ok, Err}
use Rattle.iio_text.specs.declared.refusals.Why.{Why}
use Rattle.iio_text.specs.declared.faults.LineFault.{LineFault}
use Rattle.iio_text.specs.declared.faults.LineFault.TheVariants.{Why as Refused, Mem}

-- a fault is the refusal of a reading, or lack of memory
abbrev pub Tells : {A : Type 0} → LineFault → Result A Why → Type 0
Tells (Refused why) reading = reading ≡ Err why
Tells Mem reading = Unit {0}

-- a call gives what the reading gives, or its refusal, or lack of memory
abbrev pub Gives : {A : Type 0} → Result A LineFault → Result A Why → Type 0
Gives (Ok x) reading = reading ≡ Ok x
Gives (Err fault) reading = Tells fault reading

-- a call makes of a value what the reading gives; otherwise it returns a fault as above, and the value stays
abbrev pub Becomes : {A R : Type 0} → Result R LineFault → (old new : A) → Result A Why → Type 0
Becomes (Ok r) old new reading = reading ≡ Ok new
Becomes (Err fault) old new reading = Tells fault reading × (new ≡ old)
