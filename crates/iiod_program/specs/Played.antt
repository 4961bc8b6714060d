-- What the program plays with the drivers that it hands in. (This project's own.)
use Rattle.std.specs.Prelude.{◌≡◌, ℕ, ⊤, List, [], ◌∷◌, map, Option, Result, Ok, Err}
use Rattle.iio_base.specs.declared.Mem.{Mem}
use Rattle.iio_sensor.specs.Driver.{Driver}
use Rattle.iio_history.specs.Outcome.{outcome_of}
use Rattle.iio_script.specs.Ends.{Writes}
use Rattle.iio_script.specs.declared.status.Status.{Status}
use Rattle.iiod_program.specs.declared.exit.End.{End}
use Rattle.iiod_program.specs.declared.exit.End.TheVariants.{Run, Serve}

-- the program's four drivers, each given by the numbers of its asks that fail
abbrev pub AreHandedIn : List Driver → Type 0
AreHandedIn drivers = map (λ (d : Driver). d.fails) drivers ≡ [] ∷ [] ∷ (2 ∷ []) ∷ (2 ∷ []) ∷ []

-- what is written for an input that is played with them
pub record PlaysHandedIn (input before : List ℕ) (status : Status) (after : Option (List ℕ)) : Type 0 where
  pub drivers : List Driver
  pub handed : AreHandedIn drivers
  pub writes : Writes (outcome_of drivers input) before status after

-- the same, unless memory ran out before the drivers were made
abbrev pub EndsPlayed : (input before : List ℕ) → Result End Mem → Option (List ℕ) → Type 0
EndsPlayed input before (Ok (Run status)) after = PlaysHandedIn input before status after
EndsPlayed input before (Ok (Serve status)) after = ⊥
EndsPlayed input before (Err e) after = ⊤
