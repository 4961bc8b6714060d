-- How a run ends, and what it has written by then. (This project's own.)
use Rattle.std.specs.Prelude.{◌≡◌, ℕ, ◌≤◌, List, ◌++◌, Option, Some, None, IfNone, IfSome}
use Rattle.iio_base.specs.Faults.{Rose}
use Rattle.iio_history.specs.Script.{Ending}
use Rattle.iio_history.specs.Script as ending
use Rattle.iio_history.specs.Outcome.{Outcome}
use Rattle.iio_script.specs.declared.status.Status.{Status}
use Rattle.iio_script.specs.declared.status.Status.TheVariants.{Done, Refused, TooLong, ReadFault, WriteFault, Memory}

-- the status of a run that came to that end
abbrev pub status_of : Ending → Status
status_of ending.Finished = Done
status_of (ending.Refused line why) = Refused line why
status_of ending.TooLong = TooLong

-- the statuses of a run that reached its own end: no failed read or write, no lack of memory, no wrong words
abbrev pub IsEnd : Status → Type 0
IsEnd Done = Unit {0}
IsEnd (Refused line why) = Unit {0}
IsEnd TooLong = Unit {0}
IsEnd status = ⊥

-- a run that ended with this outcome has printed all of it
pub record Finishes (outcome : Outcome) (status : Status) (before after : List ℕ) : Type 0 where
  pub end : IsEnd status
  pub ends : status ≡ status_of outcome.ending
  pub printed : after ≡ before ++ outcome.printed

-- a front part of a text was written
pub record WritesFront (before text : List ℕ) (after : Option (List ℕ)) : Type 0 where
  pub front : List ℕ
  pub rest : List ℕ
  pub parts : text ≡ front ++ rest
  pub written : after ≡ Some (before ++ front)

-- the whole text was written, and the status is the outcome's
pub record WritesWhole (before : List ℕ) (outcome : Outcome) (status : Status) (after : Option (List ℕ)) : Type 0 where
  pub ends : status ≡ status_of outcome.ending
  pub written : after ≡ Some (before ++ outcome.printed)

-- what a run with this outcome writes: a front part of the printed text
-- if a read or a write failed or memory ran out, and otherwise all of it
abbrev pub Writes : Outcome → (before : List ℕ) → Status → Option (List ℕ) → Type 0
Writes outcome before ReadFault after = WritesFront before outcome.printed after
Writes outcome before WriteFault after = WritesFront before outcome.printed after
Writes outcome before Memory after = WritesFront before outcome.printed after
Writes outcome before status after = WritesWhole before outcome status after

-- the status of a run with this outcome: the outcome's, unless a read or a write failed or memory ran out
abbrev pub HasStatus : Outcome → Status → Type 0
HasStatus outcome ReadFault = Unit {0}
HasStatus outcome WriteFault = Unit {0}
HasStatus outcome Memory = Unit {0}
HasStatus outcome status = status ≡ status_of outcome.ending

-- how a source and a sink are seen: the visible bytes of each, and its count of faults
pub record Views (S K : Type 0) : Type 0 where
  pub left : S → Option (List ℕ)
  pub reads : S → ℕ
  pub written : K → Option (List ℕ)
  pub writes : K → ℕ

abbrev pub views_of : {S K : Type 0} → (S → Option (List ℕ)) → (S → ℕ) → (K → Option (List ℕ)) → (K → ℕ) → Views S K
views_of left reads written writes = record { left = left; reads = reads; written = written; writes = writes }

-- what the status of a run shows of its source and its sink: a failed read or write is returned only if
-- such a fault came, lack of memory only if none came; no count falls, and what isn't visible stays so
pub record ShowsFaults {S K : Type 0} (views : Views S K) (status : Status) (source source' : S) (sink sink' : K) : Type 0 where
  pub read_fault : status ≡ ReadFault → Rose (views.reads source) (views.reads source')
  pub write_fault : status ≡ WriteFault → Rose (views.writes sink) (views.writes sink')
  pub memory : status ≡ Memory → (views.reads source' ≡ views.reads source) × (views.writes sink' ≡ views.writes sink)
  pub counted : (views.reads source ≤ views.reads source') × (views.writes sink ≤ views.writes sink')
  pub silent : (IfNone (views.left source) (views.left source' ≡ None)) × (IfNone (views.written sink) (views.written sink' ≡ None))

-- a front part of the bytes `kept` was written, and `rest` is left
pub record Sends (before after : Option (List ℕ)) (kept rest : List ℕ) : Type 0 where
  pub sent : List ℕ
  pub parts : kept ≡ sent ++ rest
  pub writes : IfSome before (λ xs. after ≡ Some (xs ++ sent))
