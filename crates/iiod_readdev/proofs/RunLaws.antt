-- `readdev` when it ends like a run.
use Rattle.std.proofs.Common.{◌≡◌, ℕ, List, [], Option, Some, None, IfSome, inl, inr, refl, subst}
use Rattle.iio_text.specs.declared.refusals.Why.{Why}
use Rattle.iio_history.specs.Script as script
use Rattle.iio_script.specs.declared.status.Status.{Status}
use Rattle.iio_script.specs.declared.status.Status.TheVariants as run
use Rattle.iio_script.specs.Ends.{HasStatus, Writes}
use Rattle.iio_script.specs.Plays.{Prints, WritesText}
use Rattle.iio_desc.specs.Description.{Description}
use Rattle.iio_history.specs.Outcome.{Outcome, head_of, only_ending}
use Rattle.iiod_serve.specs.Reading.{IsStop, Says, served_of}
use Rattle.iiod_serve.proofs.HeadLaws.{no_read_fault, printed_writes, status_by, stops_at}
use Rattle.iiod_client.specs.Point.{point}
use Rattle.iiod_readdev.specs.declared.read_status.ReadStatus.{ReadStatus}
use Rattle.iiod_readdev.specs.ReadStatus.{of_run}
use Rattle.iiod_readdev.specs.Reading.{EndsAsRun, IsUntouched, ReadsFrom, ReadsInput}
use Rattle.iiod_readdev.specs.Wanted.{wanted_of}
use Rattle.iiod_readdev.specs.Words.{ReaddevWords}

untouched : (l s o o' : Option (List ℕ)) → IsUntouched (point l [] s o) (point l [] s o')
untouched l s o o' = record { left = refl; pending = refl; sent = refl }

-- ---- refused words

pub refused_ends : (why : Why) (st : Status) (result : ReadStatus) (l s o o' : Option (List ℕ)) → result ≡ of_run st
    → ((text : List ℕ) × WritesText o o' text × Prints (only_ending (script.Refused 0 why)) st text)
    → EndsAsRun (only_ending (script.Refused 0 why)) result (point l [] s o) (point l [] s o')
refused_ends why st result l s o o' is prints =
    let outcome : Outcome = only_ending (script.Refused 0 why) in
    record {
      run = st;
      ends = is;
      stops = stops_at 0 why st o o' prints;
      status = status_by outcome st prints.0 prints.2;
      lines = printed_writes outcome st o o' prints;
      nothing = λ failed. absurd (no_read_fault outcome st prints.0 prints.2 failed);
      untouched = untouched l s o o';
    }

-- ---- an input

as_run : (outcome : Outcome) (st : Status) (result : ReadStatus) (l s o o' : Option (List ℕ)) → result ≡ of_run st → IsStop st → HasStatus outcome st
    → IfSome o (λ ys. Writes outcome ys st o') → (st ≡ run.ReadFault → o' ≡ o) → EndsAsRun outcome result (point l [] s o) (point l [] s o')
as_run outcome st result l s o o' is stop has lines nothing =
    record { run = st; ends = is; stops = stop; status = has; lines = lines; nothing = nothing; untouched = untouched l s o o' }

-- a description that wasn't read
pub stops_reads : (drivers : ℕ) (said : ReaddevWords) (st : Status) (result : ReadStatus) (left l s o o' : Option (List ℕ)) → result ≡ of_run st → IsStop st
    → IfSome left (λ input. HasStatus (served_of drivers input) st) → IfSome left (λ input. IfSome o (λ ys. Writes (served_of drivers input) ys st o'))
    → (st ≡ run.ReadFault → o' ≡ o)
    → IfSome left (λ input. (pending : List ℕ) × ReadsInput drivers said input result (point l [] s o) (point l pending s o'))
stops_reads drivers said st result None l s o o' is stop has lines nothing = tt
stops_reads drivers said st result (Some input) l s o o' is stop has lines nothing =
    ([], inl (as_run (served_of drivers input) st result l s o o' is stop has lines nothing))

-- a description that was read, and nothing was printed for it
pub described_reads : (drivers : ℕ) (said found : ReaddevWords) (desc : Description) (result : ReadStatus) (left l l' s s' o o1 o' : Option (List ℕ))
    → found ≡ said → o1 ≡ o
    → IfSome left (λ input. Says desc (head_of drivers input))
    → ((pending : List ℕ) × ReadsFrom (wanted_of desc found) result (point l [] s o1) (point l' pending s' o'))
    → IfSome left (λ input. (pending : List ℕ) × ReadsInput drivers said input result (point l [] s o) (point l' pending s' o'))
described_reads drivers said found desc result None l l' s s' o o1 o' meant same says reads = tt
described_reads drivers said found desc result (Some input) l l' s s' o o1 o' meant same says reads = (
  reads.0,
  inr (record {
    desc = desc;
    says = says;
    reads = subst (λ (w : ReaddevWords). ReadsFrom (wanted_of desc w) result (point l [] s o) (point l' reads.0 s' o')) meant
        (subst (λ (x : Option (List ℕ)). ReadsFrom (wanted_of desc found) result (point l [] s x) (point l' reads.0 s' o')) same reads.1);
  }),
)
