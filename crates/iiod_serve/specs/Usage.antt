-- What the program prints if its words aren't a command. (This project's own.)
use Rattle.std.specs.Prelude.{◌≡◌, ◌⊎◌, List, ℕ, [], ◌∷◌, ◌++◌, codes, Option, Some}
use Rattle.iio_io.specs.Bytes.{WritesPart}
use Rattle.iio_script.specs.declared.status.Status.{Status}
use Rattle.iio_script.specs.declared.status.Status.TheVariants.{Usage, WriteFault}

-- the line that names the commands
abbrev pub usage_line : List ℕ
usage_line = codes "usage: play | solo NAME | layout DEVICE MASK | gen N" ++ 10 ∷ []

-- for words that aren't a command the status is `Usage`, unless a write failed
abbrev pub IsUsage : Status → Type 0
IsUsage status = (status ≡ Usage) ⊎ (status ≡ WriteFault)

-- the line was appended in full at `Usage`, and a front part of it if a write failed
abbrev pub PrintsUsage : List ℕ → Status → Option (List ℕ) → Type 0
PrintsUsage before Usage after = after ≡ Some (before ++ usage_line)
PrintsUsage before WriteFault after = WritesPart before usage_line after
PrintsUsage before status after = ⊥
