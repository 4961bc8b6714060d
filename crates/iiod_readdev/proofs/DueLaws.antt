-- The status to which an input and the answers over a link come.
use Rattle.std.proofs.Common.{◌≡◌, ◌⊎◌, ◌∙◌, inl, inr, ℕ, List, [], Option, Some, None, IfSome, Result, Ok, Err, refl, sym, ap, subst}
use Rattle.iio_text.specs.declared.refusals.Why.{Why}
use Rattle.iio_desc.specs.declared.reader.DescFault.TheVariants.{Line, Mem}
use Rattle.iio_desc.specs.Description.{Description}
use Rattle.iio_history.specs.Outcome.{Cut, Described, Faulty, Head, head_of, only_ending}
use Rattle.iio_history.specs.Script as script
use Rattle.iio_script.specs.declared.status.Status.{Status}
use Rattle.iio_script.specs.declared.status.Status.TheVariants as run
use Rattle.iio_script.specs.Ends.{HasStatus}
use Rattle.iio_script.specs.LineReader.{TakesBlocks}
use Rattle.iio_script.specs.Plays.{Prints, WritesText}
use Rattle.iiod_serve.specs.Reading.{IsStop, Says, read_head, served_of}
use Rattle.iiod_serve.proofs.HeadLaws.{status_by}
use Rattle.iiod_client.specs.declared.client_end.ClientEnd.{ClientEnd}
use Rattle.iiod_client.specs.declared.client_end.ClientEnd.TheVariants as client
use Rattle.iiod_client.specs.Ask.{Wanted}
use Rattle.iiod_client.specs.ClientEnd as reading
use Rattle.iiod_client.specs.Point.{point}
use Rattle.iiod_readdev.specs.declared.read_status.ReadStatus.{ReadStatus}
use Rattle.iiod_readdev.specs.declared.read_status.ReadStatus.TheVariants as status
use Rattle.iiod_readdev.specs.ReadStatus.{of_client, of_run}
use Rattle.iiod_readdev.specs.Reading.{DoesReaddev, EndsBy, HeadComesTo, IsDueOr, IsFailure, ReadsInput, TakesForLine, WantedComesTo}
use Rattle.iiod_readdev.specs.Wanted.{wanted_of}
use Rattle.iiod_readdev.specs.Words.{ReaddevWords}

due_at : (due due' end end' : ReadStatus) → due ≡ due' → end ≡ end' → IsDueOr due' end' → IsDueOr due end
due_at due due' end end' e f (inl same) = inl (f ∙ same ∙ sym e)
due_at due due' end end' e f (inr failed) = inr (subst IsFailure (sym f) failed)

-- ---- a reading over the link

failure_of : (end : ClientEnd) → reading.IsFailure end → IsFailure (of_client end)
failure_of client.Done f = absurd f
failure_of (client.Refused n) f = absurd f
failure_of client.LinkFault f = tt
failure_of client.WriteFault f = tt
failure_of client.Memory f = tt
failure_of client.Malformed f = absurd f
failure_of client.Cut f = absurd f

of_reading : (due end : ClientEnd) → (end ≡ due) ⊎ reading.IsFailure end → IsDueOr (of_client due) (of_client end)
of_reading due end (inl same) = inl (ap of_client same)
of_reading due end (inr failed) = inr (failure_of end failed)

pub read_due : (w : Wanted) (end : ClientEnd) (result due : ReadStatus) (left left' : Option (List ℕ)) → left' ≡ left → result ≡ of_client end
    → IfSome left' (λ bytes. reading.EndsBy w bytes end) → WantedComesTo (Ok w) left due → IsDueOr due result
read_due w end result due left left' same is exact (bytes, told, at, e, comes) =
    let by = subst (λ (x : Option (List ℕ)). IfSome x (λ bs. reading.EndsBy w bs end)) (same ∙ told) exact in
    due_at due (of_client at) result (of_client end) e is (of_reading at end (by at comes))

-- ---- if the reading of the description gave the status

refused_due : (line : ℕ) (why : Why) (st : Status) → HasStatus (only_ending (script.Refused line why)) st → IsDueOr (status.Refused line why) (of_run st)
refused_due line why run.Done has = absurd cc
refused_due line why (run.Refused n w) has = inl (ap of_run has)
refused_due line why run.Usage has = absurd cc
refused_due line why run.ReadFault has = inr tt
refused_due line why run.WriteFault has = inr tt
refused_due line why run.Memory has = inr tt
refused_due line why run.TooLong has = absurd cc

cut_due : (st : Status) → HasStatus (only_ending script.TooLong) st → IsDueOr status.TooLong (of_run st)
cut_due run.Done has = absurd cc
cut_due (run.Refused n w) has = absurd cc
cut_due run.Usage has = absurd cc
cut_due run.ReadFault has = inr tt
cut_due run.WriteFault has = inr tt
cut_due run.Memory has = inr tt
cut_due run.TooLong has = inl refl

-- for a description that is read, only a failure gives a status
read_fails : (st : Status) → IsStop st → HasStatus (only_ending script.Finished) st → IsFailure (of_run st)
read_fails run.Done stop has = absurd stop
read_fails (run.Refused n w) stop has = absurd cc
read_fails run.Usage stop has = absurd stop
read_fails run.ReadFault stop has = tt
read_fails run.WriteFault stop has = tt
read_fails run.Memory stop has = tt
read_fails run.TooLong stop has = absurd cc

-- words that are refused
pub words_due : (why : Why) (st : Status) (wanted : Result Wanted Why) (result due : ReadStatus) (left before after : Option (List ℕ)) → result ≡ of_run st
    → wanted ≡ Err why
    → ((text : List ℕ) × WritesText before after text × Prints (only_ending (script.Refused 0 why)) st text) → WantedComesTo wanted left due
    → IsDueOr due result
words_due why st wanted result due left before after is refused prints comes =
    let e : due ≡ status.Refused 0 why = subst (λ (w : Result Wanted Why). WantedComesTo w left due) refused comes in
    due_at due (status.Refused 0 why) result (of_run st) e is (refused_due 0 why st (status_by (only_ending (script.Refused 0 why)) st prints.0 prints.2))

-- a description that wasn't read
pub stops_due : (drivers : ℕ) (said : ReaddevWords) (st : Status) (result : ReadStatus) (input left : Option (List ℕ)) → result ≡ of_run st → IsStop st
    → IfSome input (λ xs. HasStatus (served_of drivers xs) st) → IfSome input (λ xs. EndsBy drivers said xs left result)
stops_due drivers said st result None left is stop has = tt
stops_due drivers said st result (Some xs) left is stop has = λ due comes. by (head_of drivers xs) due has comes
  where
    by : (head : Head) (due : ReadStatus) → HasStatus (read_head head) st → HeadComesTo head said left due → IsDueOr due result
    by (Described desc first lines) due has comes = inr (subst IsFailure (sym is) (read_fails st stop has))
    by (Faulty (Line n why)) due has comes = due_at due (status.Refused n why) result (of_run st) comes is (refused_due n why st has)
    by (Faulty Mem) due has comes = absurd comes
    by Cut due has comes = due_at due status.TooLong result (of_run st) comes is (cut_due st has)

-- a description that was read
pub described_due : (drivers : ℕ) (said found : ReaddevWords) (desc : Description) (result : ReadStatus) (input left : Option (List ℕ)) → found ≡ said
    → IfSome input (λ xs. Says desc (head_of drivers xs)) → ((due : ReadStatus) → WantedComesTo (wanted_of desc found) left due → IsDueOr due result)
    → IfSome input (λ xs. EndsBy drivers said xs left result)
described_due drivers said found desc result None left meant says exact = tt
described_due drivers said found desc result (Some xs) left meant says exact = λ due comes. by (head_of drivers xs) due says comes
  where
    by : (head : Head) (due : ReadStatus) → Says desc head → HeadComesTo head said left due → IsDueOr due result
    by (Described other first lines) due says comes =
        exact due (subst (λ (w : ReaddevWords). WantedComesTo (wanted_of desc w) left due) (sym meant)
        (subst (λ (d : Description). WantedComesTo (wanted_of d said) left due) (sym says) comes))
    by (Faulty fault) due says comes = absurd says
    by Cut due says comes = absurd says

-- ---- what the words did

pub does : (drivers : ℕ) (said : ReaddevWords) (end : ReadStatus) (input remaining left : Option (List ℕ)) (s o : Option (List ℕ)) (m t p : Option (List ℕ))
    → IfSome input (λ xs. (pending : List ℕ) × ReadsInput drivers said xs end (point left [] s o) (point m pending t p))
    → IfSome input (λ xs. EndsBy drivers said xs left end)
    → IfSome input (λ xs. TakesBlocks xs remaining) → IfSome input (λ xs. TakesForLine end xs remaining)
    → IfSome input (λ xs. (pending : List ℕ) × DoesReaddev drivers said xs remaining end (point left [] s o) (point m pending t p))
does drivers said end None remaining left s o m t p reads exact taken near = tt
does drivers said end (Some xs) remaining left s o m t p reads exact taken near =
    (reads.0, record { reads = reads.1; exact = exact; taken = taken; near = near })
