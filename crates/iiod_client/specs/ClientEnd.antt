-- How a reading of a device ends: what was heard, sent and printed, and what the counts of faults show.
use Rattle.std.specs.Prelude.{◌≡◌, ◌⊎◌, ℕ, List, ◌++◌}
use Rattle.iio_base.specs.Faults.{Rose}
use Rattle.iiod_client.specs.declared.client_end.ClientEnd.{ClientEnd}
use Rattle.iiod_client.specs.declared.client_end.ClientEnd.TheVariants.{Done, Refused, LinkFault, WriteFault, Memory, Malformed, Cut}
use Rattle.iiod_client.specs.Ask.{Wanted}
use Rattle.iiod_client.specs.Awaited.{IsRefused, IsWrong, IsUnfinished}
use Rattle.iiod_client.specs.Point.{Point, Goes, Stops, IsAtEnd}
use Rattle.iiod_client.specs.Printed.{refused_line}
use Rattle.iiod_client.specs.Talk.{Read, Stage, Leaving, IsStage, IsLeaving, heard_at, sent_at, printed_at, awaits}

-- all that was wanted came, was confirmed, and was printed
pub record IsWhole (w : Wanted) (a b : Point) : Type 0 where
  pub reads : List Read
  pub is_stage : IsStage w (Leaving reads)
  pub goes : Goes a (heard_at (Leaving reads)) (sent_at w (Leaving reads)) (printed_at w (Leaving reads)) b

-- the answer that was awaited at a stage is a refusal, and this was printed for it
pub record EndsRefused (w : Wanted) (n : ℕ) (printed : List ℕ) (a b : Point) : Type 0 where
  pub stage : Stage
  pub is_stage : IsStage w stage
  pub text : List ℕ
  pub refused : IsRefused (awaits w stage) n text
  pub goes : Goes a (heard_at stage ++ text) (sent_at w stage) (printed_at w stage ++ printed) b

-- what came instead of the answer that was awaited at a stage isn't an answer
pub record EndsMalformed (w : Wanted) (a b : Point) : Type 0 where
  pub stage : Stage
  pub is_stage : IsStage w stage
  pub text : List ℕ
  pub wrong : IsWrong (awaits w stage) text
  pub goes : Goes a (heard_at stage ++ text) (sent_at w stage) (printed_at w stage) b

-- the link ended within the answer that was awaited at a stage
pub record EndsCut (w : Wanted) (a b : Point) : Type 0 where
  pub stage : Stage
  pub is_stage : IsStage w stage
  pub text : List ℕ
  pub unfinished : IsUnfinished (awaits w stage) text
  pub goes : Goes a (heard_at stage ++ text) (sent_at w stage) (printed_at w stage) b
  pub at_end : IsAtEnd b

-- a call failed or memory ran out at a stage: front parts of what is sent and printed up to there were sent and printed
pub record EndsEarly (w : Wanted) (a b : Point) : Type 0 where
  pub stage : Stage
  pub is_stage : IsStage w stage
  pub goes : Stops a (heard_at stage) (sent_at w stage) (printed_at w stage) b

-- a call failed or memory ran out while a refusal was printed
pub record EndsRefusing (w : Wanted) (a b : Point) : Type 0 where
  pub stage : Stage
  pub is_stage : IsStage w stage
  pub n : ℕ
  pub text : List ℕ
  pub refused : IsRefused (awaits w stage) n text
  pub goes : Stops a (heard_at stage ++ text) (sent_at w stage) (printed_at w stage ++ refused_line n) b

-- how a reading ended
abbrev pub Ends : Wanted → ClientEnd → (a b : Point) → Type 0
Ends w Done a b = IsWhole w a b
Ends w (Refused n) a b = EndsRefused w n (refused_line n) a b
Ends w Malformed a b = EndsMalformed w a b
Ends w Cut a b = EndsCut w a b
Ends w LinkFault a b = EndsEarly w a b
Ends w WriteFault a b = EndsEarly w a b ⊎ EndsRefusing w a b
Ends w Memory a b = EndsEarly w a b ⊎ EndsRefusing w a b

-- the counts of faults of the link and of the output: each rose exactly if the end says so
abbrev pub Faults : ClientEnd → (link link' output output' : ℕ) → Type 0
Faults LinkFault link link' output output' = Rose link link' × (output' ≡ output)
Faults WriteFault link link' output output' = (link' ≡ link) × Rose output output'
Faults end link link' output output' = (link' ≡ link) × (output' ≡ output)

-- ---- the end to which the answers over a link come

-- at a stage, the bytes that follow lead to this end: nothing more is awaited; or they begin with a refusal, or with what
-- isn't an answer; or they end within the answer
abbrev pub EndsAt : Wanted → Stage → (following : List ℕ) → ClientEnd → Type 0
EndsAt w stage following Done = IsLeaving stage
EndsAt w stage following (Refused n) = (text : List ℕ) × (more : List ℕ) × (following ≡ text ++ more) × IsRefused (awaits w stage) n text
EndsAt w stage following Malformed = (text : List ℕ) × (more : List ℕ) × (following ≡ text ++ more) × IsWrong (awaits w stage) text
EndsAt w stage following Cut = IsUnfinished (awaits w stage) following
EndsAt w stage following end = ⊥

-- the end to which the bytes of a link come: they begin with the answers to all lines before a stage's, and what follows ends
-- the reading there. At `Done` they begin with `0`, whole answers until all wanted scans came, and `0`
pub record ComesTo (w : Wanted) (bytes : List ℕ) (end : ClientEnd) : Type 0 where
  pub stage : Stage
  pub is_stage : IsStage w stage
  pub following : List ℕ
  pub bytes_are : bytes ≡ heard_at stage ++ following
  pub ends : EndsAt w stage following end

-- the ends after a failed call or lack of memory
abbrev pub IsFailure : ClientEnd → Type 0
IsFailure LinkFault = Unit {0}
IsFailure WriteFault = Unit {0}
IsFailure Memory = Unit {0}
IsFailure end = ⊥

-- how a reading ended over a link with these bytes: with the end to which they come, unless a call failed or memory ran out
abbrev pub EndsBy : Wanted → (bytes : List ℕ) → ClientEnd → Type 0
EndsBy w bytes end = (due : ClientEnd) → ComesTo w bytes due → (end ≡ due) ⊎ IsFailure end
