-- Playback: what a membership of an output device was given, as a function of the plain list of what was written and of how
-- many scans were given. (This project's own.)
use Rattle.std.specs.Prelude.{◌≡◌, ℕ, suc, ◌+◌, ◌-◌, ◌%◌, ◌^◌, ◌≤◌, min, Bool, true, false, List, [], ◌++◌, take, drop, length, Option, Some, None, IfSome, is_some, slice_get, if◌then◌else◌}
use Rattle.iio_base.specs.Refusals.{first_refusal}
use Rattle.iio_output.specs.declared.writer.Next.{Next}
use Rattle.iio_output.specs.declared.writer.Next.TheVariants.{Given, Underrun}
use Rattle.iio_output.specs.Out.{OutRecord, WriterRecord, write_faults}
use Rattle.iio_output.specs.Written.{is_none_left, scans_of}

-- the scans that were written, which are those taken from the payloads, in order; how many of them were given, round and
-- round for a cyclic writer; and how often none waited
pub record Outgoing : Type 0 where
  pub written : List (List ℕ)
  pub given : ℕ
  pub underruns : ℕ

-- a membership that has just begun
abbrev pub nothing_written : Outgoing
nothing_written = record { written = []; given = 0; underruns = 0 }

-- the entry after g given scans is given the one at place g of those written; for a cyclic writer the one at g mod their number
abbrev pub given_at : (cyclic : Bool) → Outgoing → Option (List ℕ)
given_at true x = slice_get x.written (x.given % length x.written)
given_at false x = slice_get x.written x.given

-- the entry is given a scan, or is an underrun
abbrev pub after_entry : Option (List ℕ) → Outgoing → Outgoing
after_entry None x = record x { underruns = x.underruns + 1 }
after_entry (Some scan) x = record x { given = suc x.given }

-- how many scans are written and not given; for a cyclic writer all that are written
abbrev pub waiting_of : (cyclic : Bool) → Outgoing → ℕ
waiting_of true x = length x.written
waiting_of false x = length x.written - x.given

-- the scans of a payload that are taken: as many as the capacity less those written and not given; for a cyclic writer all of
-- the payload, once
abbrev pub taken_at : (cyclic : Bool) → (capacity : ℕ) → Outgoing → List (List ℕ) → List (List ℕ)
taken_at true capacity x scans = if is_none_left x.written then scans else []
taken_at false capacity x scans = take (capacity - (length x.written - x.given)) scans

-- the scans taken are put after those written
abbrev pub with_written : List (List ℕ) → Outgoing → Outgoing
with_written scans x = record x { written = x.written ++ scans }

-- a payload at the device's writer: none of its scans is taken if it is refused
abbrev pub after_payload : Option WriterRecord → (bytes : List ℕ) → Outgoing → Outgoing
after_payload None bytes x = x
after_payload (Some w) bytes x =
    if is_some (first_refusal (write_faults w bytes)) then x else with_written (taken_at w.cyclic w.capacity x (scans_of w.size bytes)) x

-- the scans that are to be given, from the next one on; for a cyclic writer its cycle from there, once round
abbrev pub scans_to_give : (cyclic : Bool) → Outgoing → List (List ℕ)
scans_to_give true x = drop (x.given % length x.written) x.written ++ take (x.given % length x.written) x.written
scans_to_give false x = drop x.given x.written

-- nothing was given that wasn't written
abbrev pub IsWritten : (cyclic : Bool) → Outgoing → Type 0
IsWritten true x = x.written ≡ [] → x.given ≡ 0
IsWritten false x = x.given ≤ length x.written

-- a writer, with the device's count of underruns, that has this membership; the count stays at 2^64 - 1
pub record IsPlaying (w : WriterRecord) (underruns : ℕ) (x : Outgoing) : Type 0 where
  pub waiting : w.scans ≡ scans_to_give w.cyclic x
  pub counted : underruns ≡ min x.underruns (2 ^ 64 - 1)
  pub written : IsWritten w.cyclic x

-- the device's writer has this membership
abbrev pub Plays : Outgoing → OutRecord → Type 0
Plays x o = IfSome o.writer (λ w. IsPlaying w o.underruns x)

-- what an entry gives: that scan; or it is an underrun, and the room stays as it was
abbrev pub GivesAt : Option (List ℕ) → Next → (room room' : List ℕ) → Type 0
GivesAt None answer room room' = (answer ≡ Underrun) × (room' ≡ room)
GivesAt (Some scan) answer room room' = (answer ≡ Given) × (room' ≡ scan)
