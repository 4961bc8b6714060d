-- What `readdev` does for an input, and what it then prints and sends.
-- (This project's own; the reading over the link is that of `iiod_client`.)
use Rattle.std.specs.Prelude.{◌≡◌, ◌⊎◌, ℕ, suc, List, Option, Some, IfSome, Result, Ok, Err}
use Rattle.iio_text.specs.declared.refusals.Why.{Why}
use Rattle.iio_desc.specs.declared.reader.DescFault.TheVariants.{Line, Mem}
use Rattle.iio_desc.specs.Description.{Description}
use Rattle.iio_history.specs.Outcome.{Cut, Described, Faulty, Head, Outcome, head_of, only_ending}
use Rattle.iio_history.specs.Script.{Refused}
use Rattle.iio_script.specs.Ends.{HasStatus, Writes}
use Rattle.iio_script.specs.LineReader.{TakesBlocks, TakesNear}
use Rattle.iio_script.specs.declared.status.Status.{Status}
use Rattle.iio_script.specs.declared.status.Status.TheVariants as run_status
use Rattle.iiod_serve.specs.Reading.{IsStop, Says, served_of}
use Rattle.iiod_serve.specs.Served.{no_address_line}
use Rattle.iiod_serve.specs.Usage.{IsUsage, PrintsUsage}
use Rattle.iiod_client.specs.declared.client_end.ClientEnd.{ClientEnd}
use Rattle.iiod_client.specs.Ask.{Wanted}
use Rattle.iiod_client.specs.ClientEnd.{ComesTo, Ends}
use Rattle.iiod_client.specs.Point.{Point, Wrote, WroteFront}
use Rattle.iiod_readdev.specs.declared.read_status.ReadStatus.{ReadStatus}
use Rattle.iiod_readdev.specs.declared.read_status.ReadStatus.TheVariants as status
use Rattle.iiod_readdev.specs.ReadStatus.{of_client, of_run}
use Rattle.iiod_readdev.specs.Wanted.{wanted_of}
use Rattle.iiod_readdev.specs.Words.{ReaddevWords}

-- nothing came or went over the link
pub record IsUntouched (a b : Point) : Type 0 where
  pub left : b.left ≡ a.left
  pub pending : b.pending ≡ a.pending
  pub sent : b.sent ≡ a.sent

-- it ended like a run with this outcome, and nothing came or went over the link; if a read failed, nothing was printed
pub record EndsAsRun (outcome : Outcome) (end : ReadStatus) (a b : Point) : Type 0 where
  pub run : Status
  pub ends : end ≡ of_run run
  pub stops : IsStop run
  pub status : HasStatus outcome run
  pub lines : IfSome a.printed (λ ys. Writes outcome ys run b.printed)
  pub nothing : run ≡ run_status.ReadFault → b.printed ≡ a.printed
  pub untouched : IsUntouched a b

-- the connection couldn't be begun: the line for that is printed, or a front part of it if a write failed
abbrev pub EndsUndialled : ReadStatus → (a b : Point) → Type 0
EndsUndialled status.NoAddress a b = Wrote a.printed no_address_line b.printed × IsUntouched a b
EndsUndialled status.WriteFault a b = WroteFront a.printed no_address_line b.printed × IsUntouched a b
EndsUndialled end a b = ⊥

-- the device was read over the link
pub record EndsRead (w : Wanted) (end : ReadStatus) (a b : Point) : Type 0 where
  pub client : ClientEnd
  pub ends : end ≡ of_client client
  pub read : Ends w client a b

-- what the words do for a description: they are refused at line 0, or what they want is read
abbrev pub ReadsFrom : Result Wanted Why → ReadStatus → (a b : Point) → Type 0
ReadsFrom (Err why) end a b = EndsAsRun (only_ending (Refused 0 why)) end a b
ReadsFrom (Ok w) end a b = EndsUndialled end a b ⊎ EndsRead w end a b

-- the head of an input was read as a description
pub record ReadsDescribed (head : Head) (said : ReaddevWords) (end : ReadStatus) (a b : Point) : Type 0 where
  pub desc : Description
  pub says : Says desc head
  pub reads : ReadsFrom (wanted_of desc said) end a b

-- what the words do for an input, whose description may use `drivers` drivers
abbrev pub ReadsInput : (drivers : ℕ) → ReaddevWords → (input : List ℕ) → ReadStatus → (a b : Point) → Type 0
ReadsInput drivers said input end a b = EndsAsRun (served_of drivers input) end a b ⊎ ReadsDescribed (head_of drivers input) said end a b

-- if a line of the description is refused, not much more was taken than up to its end; line 0 stands for the program's words
abbrev pub TakesForLine : ReadStatus → List ℕ → Option (List ℕ) → Type 0
TakesForLine (status.Refused (suc n) why) left remaining = TakesNear (suc n) left remaining
TakesForLine end left remaining = Unit {0}

-- the line that names the commands was printed
pub record NamesCommands (end : ReadStatus) (before after : Option (List ℕ)) : Type 0 where
  pub run : Status
  pub ends : end ≡ of_run run
  pub usage : IsUsage run
  pub line : IfSome before (λ ys. PrintsUsage ys run after)

-- the ends after a description was read. Only private functions cite this
abbrev pub IsDescribed : ReadStatus → Type 0
IsDescribed status.Usage = ⊥
IsDescribed status.ReadFault = ⊥
IsDescribed status.TooLong = ⊥
IsDescribed (status.Refused (suc n) why) = ⊥
IsDescribed end = Unit {0}

-- ---- the status to which an input and the answers over a link come

-- what is wanted of a description leads to this status, over a link with these bytes left, if they are visible: the words are
-- refused at line 0, or the bytes come to the end of a reading
abbrev pub WantedComesTo : Result Wanted Why → (left : Option (List ℕ)) → ReadStatus → Type 0
WantedComesTo (Err why) left due = due ≡ status.Refused 0 why
WantedComesTo (Ok w) left due = (bytes : List ℕ) × (left ≡ Some bytes) × (end : ClientEnd) × (due ≡ of_client end) × ComesTo w bytes end

-- the head of an input leads to this status: a line of the description is refused, or it is too long, or it is a description
abbrev pub HeadComesTo : Head → ReaddevWords → (left : Option (List ℕ)) → ReadStatus → Type 0
HeadComesTo (Described desc first lines) said left due = WantedComesTo (wanted_of desc said) left due
HeadComesTo (Faulty (Line n why)) said left due = due ≡ status.Refused n why
HeadComesTo (Faulty Mem) said left due = ⊥
HeadComesTo Cut said left due = due ≡ status.TooLong

-- the statuses after a failed call or lack of memory
abbrev pub IsFailure : ReadStatus → Type 0
IsFailure status.ReadFault = Unit {0}
IsFailure status.WriteFault = Unit {0}
IsFailure status.Memory = Unit {0}
IsFailure status.NoAddress = Unit {0}
IsFailure status.LinkFault = Unit {0}
IsFailure end = ⊥

-- it ended as it should, unless a call failed or memory ran out
abbrev pub IsDueOr : (due end : ReadStatus) → Type 0
IsDueOr due end = (end ≡ due) ⊎ IsFailure end

-- how the words ended at an input, whose description may use `drivers` drivers, over a link with these bytes left
abbrev pub EndsBy : (drivers : ℕ) → ReaddevWords → (input : List ℕ) → (left : Option (List ℕ)) → ReadStatus → Type 0
EndsBy drivers said input left end = (due : ReadStatus) → HeadComesTo (head_of drivers input) said left due → IsDueOr due end

-- what the words did for an input, of which `remaining` is left and whose description may use that many drivers
pub record DoesReaddev (drivers : ℕ) (said : ReaddevWords) (input : List ℕ) (remaining : Option (List ℕ)) (end : ReadStatus) (a b : Point) : Type 0 where
  pub reads : ReadsInput drivers said input end a b
  pub exact : EndsBy drivers said input a.left end
  pub taken : TakesBlocks input remaining
  pub near : TakesForLine end input remaining
