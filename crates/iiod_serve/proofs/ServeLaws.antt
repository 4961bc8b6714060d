-- How `serve` ends, by how its parts ended.
use Rattle.std.proofs.Common.{◌≡◌, ◌≤◌, ℕ, List, take, drop, Option, Some, None, IfSome, IfNone, ◌⊎◌, inl, inr, refl, sym, ap, ◌∙◌, subst, arith}
use Rattle.std.proofs.lemmas.List.{take-append-drop}
use Rattle.iio_base.specs.Faults.{Rose}
use Rattle.iio_io.specs.Bytes.{WritesPart}
use Rattle.iio_desc.specs.declared.reader.DescFault.TheVariants.{Line, Mem}
use Rattle.iio_desc.specs.Description.{Description}
use Rattle.iio_history.specs.Outcome.{Cut, Described, Faulty, Head, Outcome, head_of, only_ending}
use Rattle.iio_history.specs.Script.{Ending, Finished}
use Rattle.iio_history.specs.Script as ending
use Rattle.iio_script.specs.declared.status.Status.{Status}
use Rattle.iio_script.specs.declared.status.Status.TheVariants as run
use Rattle.iio_script.specs.Ends.{HasStatus, ShowsFaults, Views, Writes, status_of}
use Rattle.iio_script.specs.Plays.{TakesFor}
use Rattle.iio_script.proofs.EndLaws.{silent_first}
use Rattle.iiod_serve.specs.declared.serve_status.ServeStatus.{ServeStatus}
use Rattle.iiod_serve.specs.declared.serve_status.ServeStatus.TheVariants.{DoorEnd, DoorFault, Memory, NoAddress, ReadFault, Refused, TooLong, Usage, WriteFault}
use Rattle.iiod_serve.specs.Reading.{IsStop, Says, read_head, served_of}
use Rattle.iiod_serve.specs.Served.{EndsServed, IsServed, ServesLines, ShowsDoor, as_run, end_of, no_address_line, of_run}
use Rattle.iiod_serve.specs.Usage.{IsUsage}

-- ---- a server that ended like a run

pub as_of : (st : Status) → as_run (of_run st) ≡ st
as_of run.Done = refl
as_of (run.Refused line why) = refl
as_of run.Usage = refl
as_of run.ReadFault = refl
as_of run.WriteFault = refl
as_of run.Memory = refl
as_of run.TooLong = refl

stop_lines : (outcome : Outcome) (before : List ℕ) (st : Status) (after : Option (List ℕ)) → IsStop st → Writes outcome before st after
    → ServesLines outcome before (of_run st) after
stop_lines outcome before run.Done after stop writes = absurd stop
stop_lines outcome before (run.Refused line why) after stop writes = writes
stop_lines outcome before run.Usage after stop writes = absurd stop
stop_lines outcome before run.ReadFault after stop writes = writes
stop_lines outcome before run.WriteFault after stop writes = inl writes
stop_lines outcome before run.Memory after stop writes = writes
stop_lines outcome before run.TooLong after stop writes = writes

-- the server's status as the run's
as_is : (st : Status) (r : ServeStatus) → r ≡ of_run st → as_run r ≡ st
as_is st r e = ap as_run e ∙ as_of st

-- what holds of the run's status holds of the server's
pub as_ended : (P : Status → Type 0) (st : Status) (r : ServeStatus) → r ≡ of_run st → P st → P (as_run r)
as_ended P st r e holds = subst P (sym (as_is st r e)) holds

pub stops_lines : (outcome : List ℕ → Outcome) (left before : Option (List ℕ)) (st : Status) (r : ServeStatus) (after : Option (List ℕ)) → r ≡ of_run st
    → IsStop st
    → IfSome left (λ input. IfSome before (λ xs. Writes (outcome input) xs st after))
    → IfSome left (λ input. IfSome before (λ xs. ServesLines (outcome input) xs r after))
stops_lines outcome None before st r after e stop writes = tt
stops_lines outcome (Some input) None st r after e stop writes = tt
stops_lines outcome (Some input) (Some xs) st r after e stop writes =
    subst (λ (x : ServeStatus). ServesLines (outcome input) xs x after) (sym e) (stop_lines (outcome input) xs st after stop writes)

pub stops_failed : (st : Status) (r : ServeStatus) → r ≡ of_run st → r ≡ ReadFault → st ≡ run.ReadFault
stops_failed st r e is = sym (as_is st r e) ∙ ap as_run is

pub stops_words : (st : Status) (r : ServeStatus) → r ≡ of_run st → IsStop st → r ≡ Usage → ⊥
stops_words st r e stop is = subst IsStop (sym (as_is st r e) ∙ ap as_run is) stop

-- nothing was asked of the door
unasked : {D : Type 0} (left : D → Option ℕ) (faults : D → ℕ) (st : Status) (door : D) → IsStop st ⊎ IsUsage st → ShowsDoor left faults (of_run st) door door
unasked left faults run.Done door (inl stop) = absurd stop
unasked left faults run.Done door (inr (inl is)) = absurd (cc)
unasked left faults run.Done door (inr (inr is)) = absurd (cc)
unasked left faults (run.Refused line why) door stop = refl
unasked left faults run.Usage door stop = refl
unasked left faults run.ReadFault door stop = refl
unasked left faults run.WriteFault door stop = (omega arith, refl)
unasked left faults run.Memory door stop = (refl, refl)
unasked left faults run.TooLong door stop = refl

pub stops_door : {D : Type 0} (left : D → Option ℕ) (faults : D → ℕ) (st : Status) (r : ServeStatus) (door : D) → r ≡ of_run st → IsStop st ⊎ IsUsage st
    → ShowsDoor left faults r door door
stops_door left faults st r door e stop = subst (λ (x : ServeStatus). ShowsDoor left faults x door door) (sym e) (unasked left faults st door stop)

-- words that aren't a command leave the source alone
pub usage_faults : {S K : Type 0} (views : Views S K) (st : Status) (r : ServeStatus) (source : S) (sink sink' : K) → r ≡ of_run st → IsUsage st
    → (st ≡ run.WriteFault → Rose (views.writes sink) (views.writes sink')) → views.writes sink ≤ views.writes sink'
    → IfNone (views.written sink) (views.written sink' ≡ None)
    → ShowsFaults views (as_run r) source source sink sink'
usage_faults views st r source sink sink' e usage write counted silent =
    as_ended (λ (x : Status). ShowsFaults views x source source sink sink') st r e (record {
      read_fault = λ is. absurd (other run.ReadFault usage is (λ a. cc) (λ b. cc));
      write_fault = write;
      memory = λ is. absurd (other run.Memory usage is (λ a. cc) (λ b. cc));
      counted = (omega arith, counted);
      silent = (silent_first (views.left source), silent);
    })
  where
    other : (x : Status) → IsUsage st → st ≡ x → (run.Usage ≡ x → ⊥) → (run.WriteFault ≡ x → ⊥) → ⊥
    other x (inl a) is first second = first (sym a ∙ is)
    other x (inr b) is first second = second (sym b ∙ is)

-- ---- a description that was read

says_read : (desc : Description) (head : Head) → Says desc head → read_head head ≡ only_ending Finished
says_read desc (Described said first lines) is = refl
says_read desc (Faulty (Line n why)) is = absurd is
says_read desc (Faulty Mem) is = absurd is
says_read desc Cut is = absurd is

pub read_lines : (count : ℕ) (desc : Description) (st : ServeStatus) (left before after : Option (List ℕ))
    → IfSome left (λ input. Says desc (head_of count input))
    → IfSome before (λ xs. ServesLines (only_ending Finished) xs st after)
    → IfSome left (λ input. IfSome before (λ xs. ServesLines (served_of count input) xs st after))
read_lines count desc st None before after says lines = tt
read_lines count desc st (Some input) before after says lines =
    subst (λ (o : Outcome). IfSome before (λ xs. ServesLines o xs st after)) (sym (says_read desc (head_of count input) says)) lines

served_status : (st : ServeStatus) → IsServed st → HasStatus (only_ending Finished) (as_run st)
served_status DoorEnd served = refl
served_status WriteFault served = tt
served_status Memory served = tt
served_status NoAddress served = refl
served_status DoorFault served = refl
served_status Usage served = absurd served
served_status ReadFault served = absurd served
served_status TooLong served = absurd served
served_status (Refused line why) served = absurd served

pub read_status : (count : ℕ) (desc : Description) (st : ServeStatus) (left : Option (List ℕ)) → IfSome left (λ input. Says desc (head_of count input))
    → IsServed st
    → IfSome left (λ input. HasStatus (served_of count input) (as_run st))
read_status count desc st None says served = tt
read_status count desc st (Some input) says served =
    subst (λ (o : Outcome). HasStatus o (as_run st)) (sym (says_read desc (head_of count input) says)) (served_status st served)

served_near : (st : ServeStatus) (input : List ℕ) (left : Option (List ℕ)) → IsServed st → TakesFor (as_run st) input left
served_near DoorEnd input left served = tt
served_near WriteFault input left served = tt
served_near Memory input left served = tt
served_near NoAddress input left served = tt
served_near DoorFault input left served = tt
served_near Usage input left served = absurd served
served_near ReadFault input left served = absurd served
served_near TooLong input left served = absurd served
served_near (Refused line why) input left served = absurd served

pub read_near : (st : ServeStatus) (left left' : Option (List ℕ)) → IsServed st → IfSome left (λ input. TakesFor (as_run st) input left')
read_near st None left' served = tt
read_near st (Some input) left' served = served_near st input left' served

pub read_failed : (st : ServeStatus) → IsServed st → as_run st ≡ run.ReadFault → ⊥
read_failed DoorEnd served is = absurd (cc)
read_failed WriteFault served is = absurd (cc)
read_failed Memory served is = absurd (cc)
read_failed NoAddress served is = absurd (cc)
read_failed DoorFault served is = absurd (cc)
read_failed Usage served is = served
read_failed ReadFault served is = served
read_failed TooLong served is = served
read_failed (Refused line why) served is = served

pub as_write_fault : (st : ServeStatus) → as_run st ≡ run.WriteFault → st ≡ WriteFault
as_write_fault WriteFault is = refl
as_write_fault DoorEnd is = absurd (cc)
as_write_fault Memory is = absurd (cc)
as_write_fault NoAddress is = absurd (cc)
as_write_fault DoorFault is = absurd (cc)
as_write_fault Usage is = absurd (cc)
as_write_fault ReadFault is = absurd (cc)
as_write_fault TooLong is = absurd (cc)
as_write_fault (Refused line why) is = absurd (cc)

pub as_memory : (st : ServeStatus) → as_run st ≡ run.Memory → st ≡ Memory
as_memory Memory is = refl
as_memory WriteFault is = absurd (cc)
as_memory DoorEnd is = absurd (cc)
as_memory NoAddress is = absurd (cc)
as_memory DoorFault is = absurd (cc)
as_memory Usage is = absurd (cc)
as_memory ReadFault is = absurd (cc)
as_memory TooLong is = absurd (cc)
as_memory (Refused line why) is = absurd (cc)

-- ---- if the door couldn't be opened

-- a front part of the line that says so was written
unopened_part : (before : List ℕ) (after : Option (List ℕ)) → WritesPart before no_address_line after
    → ServesLines (only_ending Finished) before WriteFault after
unopened_part before after part =
    inr (
      refl,
      record {
        front = take part.count no_address_line;
        rest = drop part.count no_address_line;
        parts =
            sym (take-append-drop part.count no_address_line);
        written = part.appended;
      },
    )

pub unopened_told : (before after : Option (List ℕ)) → IfSome before (λ xs. WritesPart xs no_address_line after)
    → IfSome before (λ xs. ServesLines (only_ending Finished) xs WriteFault after)
unopened_told None after part = tt
unopened_told (Some xs) after part = unopened_part xs after part

-- ---- if no count rose

done_end : (e : Ending) → run.Done ≡ status_of e → DoorEnd ≡ end_of e
done_end Finished is = refl
done_end (ending.Refused line why) is = absurd (cc)
done_end ending.TooLong is = absurd (cc)

refused_end : (e : Ending) (line : ℕ) (why : _) → run.Refused line why ≡ status_of e → Refused line why ≡ end_of e
refused_end Finished line why is = absurd (cc)
refused_end (ending.Refused n w) line why is = ap of_run is
refused_end ending.TooLong line why is = absurd (cc)

long_end : (e : Ending) → run.TooLong ≡ status_of e → TooLong ≡ end_of e
long_end Finished is = absurd (cc)
long_end (ending.Refused line why) is = absurd (cc)
long_end ending.TooLong is = refl

ends : {D : Type 0} (doors : D → Option ℕ) (faults : D → ℕ) (outcome : Outcome) (st : ServeStatus) (reads reads' writes writes' : ℕ) (door door' : D)
    → HasStatus outcome (as_run st) → (st ≡ Usage → ⊥) → (as_run st ≡ run.ReadFault → Rose reads reads') → (as_run st ≡ run.WriteFault → Rose writes writes')
    → ShowsDoor doors faults st door door' → reads ≡ reads' → writes ≡ writes' → faults door ≡ faults door' → EndsServed outcome st
ends doors faults outcome DoorEnd reads reads' writes writes' door door' has words read write shows r w d = inl (done_end outcome.ending has)
ends doors faults outcome (Refused line why) reads reads' writes writes' door door' has words read write shows r w d =
    inl (refused_end outcome.ending line why has)
ends doors faults outcome TooLong reads reads' writes writes' door door' has words read write shows r w d = inl (long_end outcome.ending has)
ends doors faults outcome Usage reads reads' writes writes' door door' has words read write shows r w d = absurd (words refl)
ends doors faults outcome ReadFault reads reads' writes writes' door door' has words read write shows r w d = absurd (omega (arith, read refl))
ends doors faults outcome WriteFault reads reads' writes writes' door door' has words read write shows r w d = absurd (omega (arith, write refl))
ends doors faults outcome Memory reads reads' writes writes' door door' has words read write shows r w d = inr refl
ends doors faults outcome NoAddress reads reads' writes writes' door door' has words read write shows r w d = absurd (omega (arith, shows.0))
ends doors faults outcome DoorFault reads reads' writes writes' door door' has words read write shows r w d = absurd (omega (arith, shows))

pub ends_told : {D : Type 0} (doors : D → Option ℕ) (faults : D → ℕ) (outcome : List ℕ → Outcome) (left : Option (List ℕ)) (st : ServeStatus)
    (reads reads' writes writes' : ℕ) (door door' : D)
    → IfSome left (λ input. HasStatus (outcome input) (as_run st)) → (st ≡ Usage → ⊥) → (as_run st ≡ run.ReadFault → Rose reads reads')
    → (as_run st ≡ run.WriteFault → Rose writes writes')
    → ShowsDoor doors faults st door door' → reads ≡ reads' → writes ≡ writes' → faults door ≡ faults door'
    → IfSome left (λ input. EndsServed (outcome input) st)
ends_told doors faults outcome None st reads reads' writes writes' door door' has words read write shows r w d = tt
ends_told doors faults outcome (Some input) st reads reads' writes writes' door door' has words read write shows r w d =
    ends doors faults (outcome input) st reads reads' writes writes' door door' has words read write shows r w d
