-- An output device as callers see it, and how each call changes it. (This project's own; what a full and a cyclic writer
-- answer is after the kernel's output buffers, driver-api/iio.)
use Rattle.std.specs.Prelude.{◌≡◌, ℕ, ◌*◌, ◌+◌, ◌-◌, ◌^◌, min, Bool, true, false, ⊤, List, [], ◌∷◌, ◌++◌, length, is_some, unwrap_or, Option, Some, None, Result, Ok, Err, if◌then◌else◌, ℤ}
use Rattle.iio_base.specs.Refusals.{first_refusal}
use Rattle.iio_layout.specs.Layout.{scan_size}
use Rattle.iio_layout.specs.Shape.{ShapeRecord}
use Rattle.iio_output.specs.declared.out.OutFault.{OutFault}
use Rattle.iio_output.specs.declared.out.OutFault.TheVariants.{Busy, Mem}
use Rattle.iio_output.specs.declared.writer.Next.{Next}
use Rattle.iio_output.specs.declared.writer.Next.TheVariants.{Given, Underrun}
use Rattle.iio_output.specs.declared.writer.Wrote.{Wrote}
use Rattle.iio_output.specs.declared.writer.Wrote.TheVariants.{Bytes, BadSize, Standing, Full}
use Rattle.iio_output.specs.Last.{GivenScan, first_last, last_with}
use Rattle.iio_output.specs.Written.{after_given, is_bad_size, is_full, is_standing, scans_of, taken_of, underruns_after}

-- a writer: the mask of its scans, the bytes of one, the most that wait, whether it is cyclic, and the scans that wait; a
-- cyclic writer's are those of its cycle, from the one that is given next on
pub record WriterRecord : Type 0 where
  pub mask : ℕ
  pub size : ℕ
  pub capacity : ℕ
  pub cyclic : Bool
  pub scans : List (List ℕ)

-- an output device: its channels, element 0 of each in the last scan with that channel that it was given, how often none waited
-- since the writer's start, and its writer
pub record OutRecord : Type 0 where
  pub shape : ShapeRecord
  pub last : List ℤ
  pub underruns : ℕ
  pub writer : Option WriterRecord

-- a device that was given nothing, without a writer
abbrev pub new_output : ShapeRecord → OutRecord
new_output shape = record { shape = shape; last = first_last shape; underruns = 0; writer = None }

-- ---- starting and stopping

-- a writer that has written nothing
abbrev pub new_writer : (mask size capacity : ℕ) → Bool → WriterRecord
new_writer mask size capacity cyclic = record { mask = mask; size = size; capacity = capacity; cyclic = cyclic; scans = [] }

-- a writer's start: underruns are counted from 0 again
abbrev pub with_writer : (mask capacity : ℕ) → Bool → OutRecord → OutRecord
with_writer mask capacity cyclic o = record o { underruns = 0; writer = Some (new_writer mask (scan_size o.shape mask) capacity cyclic) }

-- a start is refused exactly if there is a writer, apart from lack of memory
abbrev pub IsStartFault : OutFault → OutRecord → Type 0
IsStartFault Busy o = is_some o.writer ≡ true
IsStartFault Mem o = is_some o.writer ≡ false

abbrev pub Starts : (mask capacity : ℕ) → Bool → Result ⊤ OutFault → OutRecord → OutRecord → Type 0
Starts mask capacity cyclic (Ok x) old new = (is_some old.writer ≡ false) × (new ≡ with_writer mask capacity cyclic old)
Starts mask capacity cyclic (Err fault) old new = IsStartFault fault old × (new ≡ old)

-- the writer ends; what was given last stays
abbrev pub without_writer : OutRecord → OutRecord
without_writer o = record o { writer = None }

-- ---- writing

-- why nothing of a payload is taken, in the order of the checks
abbrev pub write_faults : WriterRecord → List ℕ → List (Bool × Wrote)
write_faults w bytes =
    (is_bad_size w.cyclic w.capacity w.size (length bytes), BadSize)
    ∷ (is_standing w.cyclic w.scans, Standing)
    ∷ (is_full w.cyclic w.capacity w.scans (scans_of w.size bytes), Full)
    ∷ []

-- the scans of a payload that are taken if nothing is refused: the first ones that fit
abbrev pub taken_by : WriterRecord → List ℕ → List (List ℕ)
taken_by w bytes = taken_of w.cyclic w.capacity w.scans (scans_of w.size bytes)

-- the refusal, or how many bytes are taken
abbrev pub write_answer : WriterRecord → List ℕ → Wrote
write_answer w bytes = unwrap_or (first_refusal (write_faults w bytes)) (Bytes (w.size * length (taken_by w bytes)))

-- the scans of a payload that are taken: none if it is refused
abbrev pub accepted_of : WriterRecord → List ℕ → List (List ℕ)
accepted_of w bytes = if is_some (first_refusal (write_faults w bytes)) then [] else taken_by w bytes

-- what is taken waits after what waited
abbrev pub after_write : WriterRecord → List ℕ → WriterRecord
after_write w bytes = record w { scans = w.scans ++ accepted_of w bytes }

-- ---- giving

-- what is given, and what the room for it has then: the first scan that waits, or what was there
abbrev pub next_answer : List (List ℕ) → Next
next_answer [] = Underrun
next_answer (x ∷ xs) = Given

abbrev pub room_after : List (List ℕ) → List ℕ → List ℕ
room_after [] room = room
room_after (x ∷ xs) room = x

-- the scan that is given
abbrev pub given_scan : (mask : ℕ) → List (List ℕ) → Option GivenScan
given_scan mask [] = None
given_scan mask (x ∷ xs) = Some (record { mask = mask; bytes = x })

-- a writer whose first scan was given
abbrev pub after_next : WriterRecord → WriterRecord
after_next w = record w { scans = after_given w.cyclic w.scans }

-- the device was given the first scan that waits, or none waited
abbrev pub after_giving : WriterRecord → OutRecord → OutRecord
after_giving w o = record o { last = last_with o.shape (given_scan w.mask w.scans) o.last; writer = Some (after_next w) }

-- an underrun is counted, up to 2^64 - 1
abbrev pub underruns_with : Next → ℕ → ℕ
underruns_with Given n = n
underruns_with Underrun n = min (n + 1) (2 ^ 64 - 1)

-- the device after an entry: what is given, and the underrun if none waits
abbrev pub with_given : WriterRecord → OutRecord → OutRecord
with_given w o = record (after_giving w o) { underruns = underruns_after w.scans o.underruns }
