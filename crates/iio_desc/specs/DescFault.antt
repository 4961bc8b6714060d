-- Why a description isn't read.
use Rattle.std.specs.Prelude.{◌≡◌, ℕ, Result, Ok, Err}
use Rattle.iio_text.specs.declared.refusals.Why.{Why}
use Rattle.iio_text.specs.declared.faults.LineFault.{LineFault}
use Rattle.iio_text.specs.declared.faults.LineFault.TheVariants as line
use Rattle.iio_desc.specs.declared.reader.DescFault.{DescFault}
use Rattle.iio_desc.specs.declared.reader.DescFault.TheVariants.{Line, Mem}

-- what keeps line n from being read
abbrev pub fault_at : ℕ → LineFault → DescFault
fault_at n (line.Why why) = Line n why
fault_at n line.Mem = Mem

-- what line n says, or its refusal
abbrev pub at_line : {A : Type 0} → ℕ → Result A Why → Result A DescFault
at_line n (Ok x) = Ok x
at_line n (Err why) = Err (Line n why)

-- a fault is the one of a reading, or lack of memory
abbrev pub Locates : {A : Type 0} → DescFault → Result A DescFault → Type 0
Locates (Line n why) reading = reading ≡ Err (Line n why)
Locates Mem reading = Unit {0}
