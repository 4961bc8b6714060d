-- What the commands that want only the description of an input read of it. (This project's own.)
use Rattle.std.specs.Prelude.{◌≡◌, ℕ, List, Result, Ok, Err}
use Rattle.iio_desc.specs.declared.reader.DescFault.TheVariants.{Line, Mem}
use Rattle.iio_desc.specs.Description.{Description}
use Rattle.iio_history.specs.Outcome.{Cut, Described, Faulty, Head, Outcome, head_of, only_ending}
use Rattle.iio_history.specs.Script.{Finished, Refused, TooLong}
use Rattle.iio_script.specs.declared.status.Status.{Status}
use Rattle.iio_script.specs.declared.status.Status.TheVariants.{Done, Usage}

-- what is printed for an input by its head: nothing for a description that is read, and otherwise why it isn't
abbrev pub read_head : Head → Outcome
read_head (Described desc first lines) = only_ending Finished
read_head (Faulty (Line n why)) = only_ending (Refused n why)
read_head (Faulty Mem) = only_ending Finished
read_head Cut = only_ending TooLong

-- what is printed for an input that is to be served; its description may use `drivers` drivers
abbrev pub served_of : (drivers : ℕ) (input : List ℕ) → Outcome
served_of drivers input = read_head (head_of drivers input)

-- a head has that description, whatever comes after it
abbrev pub Says : Description → Head → Type 0
Says desc (Described said first lines) = desc ≡ said
Says desc head = ⊥

-- the status of a reading: `Done` if it gave a description, and otherwise its own
abbrev pub ended : {A : Type 0} → Result A Status → Status
ended (Ok desc) = Done
ended (Err status) = status

-- the statuses of a reading that gave no description
abbrev pub IsStop : Status → Type 0
IsStop Done = ⊥
IsStop Usage = ⊥
IsStop status = Unit {0}
