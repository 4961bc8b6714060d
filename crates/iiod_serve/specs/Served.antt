-- How `serve` ends, what it writes, and what it does to its door. (This project's own.)
use Rattle.std.specs.Prelude.{◌≡◌, ◌⊎◌, ℕ, ◌≤◌, List, [], ◌∷◌, ◌++◌, codes, Option, Some, IfSome}
use Rattle.iio_base.specs.Faults.{Rose}
use Rattle.iio_history.specs.Outcome.{Outcome}
use Rattle.iio_history.specs.Script.{Ending, Finished}
use Rattle.iio_history.specs.Script as ending
use Rattle.iio_script.specs.Ends.{Writes, WritesFront}
use Rattle.iio_script.specs.declared.status.Status.{Status}
use Rattle.iio_script.specs.declared.status.Status.TheVariants as run
use Rattle.iiod_serve.specs.declared.serve_status.ServeStatus.{ServeStatus}
use Rattle.iiod_serve.specs.declared.serve_status.ServeStatus.TheVariants.{DoorEnd, DoorFault, Memory, NoAddress, ReadFault, Refused, TooLong, Usage, WriteFault}

-- the exit code of a process
abbrev pub serve_code : ServeStatus → ℕ
serve_code DoorEnd = 0
serve_code (Refused line why) = 1
serve_code Usage = 2
serve_code ReadFault = 3
serve_code WriteFault = 4
serve_code Memory = 5
serve_code TooLong = 6
serve_code NoAddress = 7
serve_code DoorFault = 8

-- the status that a run would have for this input: if the door decided, the description was read
abbrev pub as_run : ServeStatus → Status
as_run DoorEnd = run.Done
as_run (Refused line why) = run.Refused line why
as_run Usage = run.Usage
as_run ReadFault = run.ReadFault
as_run WriteFault = run.WriteFault
as_run Memory = run.Memory
as_run TooLong = run.TooLong
as_run NoAddress = run.Done
as_run DoorFault = run.Done

-- the status of a server that ended like a run
abbrev pub of_run : Status → ServeStatus
of_run run.Done = DoorEnd
of_run (run.Refused line why) = Refused line why
of_run run.Usage = Usage
of_run run.ReadFault = ReadFault
of_run run.WriteFault = WriteFault
of_run run.Memory = Memory
of_run run.TooLong = TooLong

-- the line that is printed if the door couldn't be opened
abbrev pub no_address_line : List ℕ
no_address_line = codes "no address" ++ 10 ∷ []

-- what is written for a description with this outcome: the outcome; or, if the description was read and the door can't be
-- opened, the line that says so; or a front part of either if a write failed
abbrev pub ServesLines : Outcome → (before : List ℕ) → ServeStatus → Option (List ℕ) → Type 0
ServesLines outcome before NoAddress after = (outcome.ending ≡ Finished) × (after ≡ Some (before ++ no_address_line))
ServesLines outcome before WriteFault after =
    WritesFront before outcome.printed after ⊎ ((outcome.ending ≡ Finished) × WritesFront before no_address_line after)
ServesLines outcome before status after = Writes outcome before (as_run status) after

-- the statuses of a server whose description was read
abbrev pub IsServed : ServeStatus → Type 0
IsServed DoorEnd = Unit {0}
IsServed WriteFault = Unit {0}
IsServed Memory = Unit {0}
IsServed NoAddress = Unit {0}
IsServed DoorFault = Unit {0}
IsServed status = ⊥

-- the door, by the status: at its end it gave no further connection, and none is left if that is visible; or it failed, and
-- its count rose; or it failed before a connection was asked for, and as many are left as before, which also holds if a write
-- failed or memory ran out; otherwise nothing was asked of it
abbrev pub ShowsDoor : {D : Type 0} → (left : D → Option ℕ) → (faults : D → ℕ) → ServeStatus → (old new : D) → Type 0
ShowsDoor left faults DoorEnd old new = (IfSome (left new) (λ n. n ≡ 0)) × (faults new ≡ faults old)
ShowsDoor left faults DoorFault old new = Rose (faults old) (faults new)
ShowsDoor left faults NoAddress old new = Rose (faults old) (faults new) × (left new ≡ left old)
ShowsDoor left faults WriteFault old new = (faults old ≤ faults new) × (left new ≡ left old)
ShowsDoor left faults Memory old new = (faults new ≡ faults old) × (left new ≡ left old)
ShowsDoor left faults status old new = new ≡ old

-- the status that a description's end gives if nothing fails: a description that is read is served to the door's end
abbrev pub end_of : Ending → ServeStatus
end_of Finished = DoorEnd
end_of (ending.Refused line why) = Refused line why
end_of ending.TooLong = TooLong

-- that status, unless memory ran out
abbrev pub EndsServed : Outcome → ServeStatus → Type 0
EndsServed outcome status = (status ≡ end_of outcome.ending) ⊎ (status ≡ Memory)
