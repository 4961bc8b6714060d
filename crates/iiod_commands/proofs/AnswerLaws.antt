-- What a command is answered, and what is printed for it.
use Rattle.std.proofs.Common.{◌≡◌, ◌≢◌, ◌⊎◌, ℕ, List, ◌++◌, Option, Some, None, Result, Ok, Err, IsOk, OnErr, OnOk, refl, ap, rules}
use Rattle.std.specs.Prelude.{⊤, pos}
use Rattle.iio_base.specs.declared.Mem.{Mem}
use Rattle.iio_text.specs.declared.errors.Errno.TheVariants.{EINVAL}
use Rattle.iiod_grammar.specs.declared.command.Refused.{Refused}
use Rattle.iiod_grammar.specs.declared.command.Refused.TheVariants.{Empty, Unknown, Shape, Number as BadNumber}
use Rattle.iiod_grammar.specs.Command.{Command, Place, Target, Help, Version, Print, Timeout, Read, GetTrig, EvRead}
use Rattle.iiod_grammar.specs.Stream.{Item, Said, Written}
use Rattle.iiod_reply.specs.Reply.{Reply, Nothing, Number, Refusal, Value, NoMemory, text_of}
use Rattle.iiod_commands.specs.declared.answers.Answer.{Answer}
use Rattle.iiod_commands.specs.declared.answers.Answer.TheVariants as answer
use Rattle.iiod_commands.specs.declared.iio.No.{No}
use Rattle.iiod_commands.specs.declared.iio.No.TheVariants.{Errno as NoErrno, Mem as NoMem}
use Rattle.iiod_commands.specs.declared.manner.Manner.{Manner}
use Rattle.iiod_commands.specs.declared.manner.Progress.TheVariants.{Done}
use Rattle.iiod_commands.specs.Acts.{act, help_reply, only, version_reply, zero_reply}
use Rattle.iiod_commands.specs.Answers.{Fits, IsEvent, IsLong, IsText, IsTrigger, Prints, ServesBy, answer_by, reply_of}
use Rattle.iiod_commands.specs.Client.{ClientRecord, State, Answering, answering}
use Rattle.iio_core.specs.Front.{Front}
use Rattle.iio_core.specs.Machine.{Machine}
use Rattle.iiod_commands.specs.Moves.{AnswersAlone, AnswersAs, Moves, Serves}
use Rattle.iiod_commands.specs.Performs.{IsAllowed, IsAnswerOf, IsAtOnce, Performs, reply_by}
use Rattle.iiod_commands.specs.Targets.{written_by}

-- ---- items that change nothing

-- memory ran out before anything had changed
pub serves_short : (front : Front) (a : State) (item : Item) → AnswersAlone front a.client item NoMemory → Moves front a item NoMemory a
    → Serves front a item NoMemory a
serves_short front a item alone moves = search rules

-- ---- HELP, VERSION, PRINT and TIMEOUT

help_is : (front : Front) (m : Machine) (client : ClientRecord) → act front m client (Said (Ok Help)) ≡ only help_reply m client
unfolding act
help_is front m client = refl

version_is : (front : Front) (m : Machine) (client : ClientRecord) → act front m client (Said (Ok Version)) ≡ only version_reply m client
unfolding act
version_is front m client = refl

print_is : (front : Front) (m : Machine) (client : ClientRecord) → act front m client (Said (Ok Print)) ≡ only (Value front.context) m client
unfolding act
print_is front m client = refl

timeout_is : (front : Front) (m : Machine) (client : ClientRecord) (n : ℕ) → act front m client (Said (Ok (Timeout n))) ≡ only zero_reply m client
unfolding act
timeout_is front m client n = refl

pub help_serves : (front : Front) (a : State) → ServesBy front a (Said (Ok Help)) (Ok answer.Help) a
help_serves front a = search (rules, help_is)

pub version_serves : (front : Front) (a : State) → ServesBy front a (Said (Ok Version)) (Ok answer.Version) a
version_serves front a = search (rules, version_is)

pub print_serves : (front : Front) (a : State) → ServesBy front a (Said (Ok Print)) (Ok answer.Context) a
print_serves front a = search (rules, print_is)

pub timeout_serves : (front : Front) (a : State) (n : ℕ) → ServesBy front a (Said (Ok (Timeout n))) (Ok (answer.Number 0)) a
timeout_serves front a n = search (rules, timeout_is)

-- ---- a line that is no command

empty_is : (front : Front) (m : Machine) (client : ClientRecord) → act front m client (Said (Err Empty)) ≡ only Nothing m client
unfolding act
empty_is front m client = refl

pub empty_performs : (manner : Manner) (front : Front) (x : Answering) → Performs manner front x (Said (Err Empty)) x Done
empty_performs manner front x = search (rules, empty_is)

refused_is : (front : Front) (m : Machine) (client : ClientRecord) (why : Refused) → why ≢ Empty
    → act front m client (Said (Err why)) ≡ only (Refusal EINVAL) m client
unfolding act
refused_is front m client why some = search rules

pub has_word : (why : Refused) → (why ≡ Unknown) ⊎ ((why ≡ Shape) ⊎ (why ≡ BadNumber)) → why ≢ Empty
has_word why h1 = search rules

pub serves_refused : (front : Front) (a : State) (why : Refused) → why ≢ Empty → Serves front a (Said (Err why)) (Refusal EINVAL) a
serves_refused front a why some = search (rules, refused_is)

-- ---- the answers to a command at a device

-- 0
pub by_zero : (front : Front) (a b : State) (item : Item) (r : Result ⊤ No)
    → Serves front a item (reply_by r) b → ServesBy front a item (answer_by 0 r) b
by_zero front a b item r s = search rules

-- the number of a payload's bytes
pub by_count : (front : Front) (a b : State) (item : Item) (n : ℕ) (r : Result ⊤ No)
    → Serves front a item (written_by n r) b → ServesBy front a item (answer_by n r) b
by_count front a b item n r s = search rules

-- a refusal
pub by_no : (front : Front) (a b : State) (item : Item) (why : No)
    → Serves front a item (reply_by (Err why)) b → ServesBy front a item (Err why) b
by_no front a b item why s = record { served = s; short = λ long. absurd long }

-- the number of the bytes that were taken
pub by_taken : (front : Front) (a b : State) (item : Item) (n : ℕ)
    → Serves front a item (Number (pos n)) b
    → ServesBy front a item (Ok (answer.Number n)) b
by_taken front a b item n s = record { served = s; short = λ long. absurd long }

-- the value of an attribute
not_text : (r : Result Answer No) → IsText r → IsLong r → ⊥
not_text r t long = search rules

pub by_text : (front : Front) (a b : State) (item : Item) (r : Result Answer No)
    → IsText r
    → Serves front a item (reply_of front r) b → ServesBy front a item r b
by_text front a b item r t s = record { served = s; short = λ long. absurd (not_text r t long) }

pub text_fits : (r : Result Answer No) → IsText r → Fits r
text_fits r t = search rules

pub text_formed : (front : Front) (device : List ℕ) (place : Place) (name : Option (List ℕ)) (r : Result Answer No) → IsText r
    → AnswersAs front (Said (Ok (Read device place name))) (reply_of front r)
text_formed front device place name r t = search rules

-- an event
not_event : (r : Result Answer No) → IsEvent r → IsLong r → ⊥
not_event r t long = search rules

pub by_event : (front : Front) (a b : State) (item : Item) (r : Result Answer No)
    → IsEvent r
    → Serves front a item (reply_of front r) b → ServesBy front a item r b
by_event front a b item r t s = record { served = s; short = λ long. absurd (not_event r t long) }

pub event_fits : (r : Result Answer No) → IsEvent r → Fits r
event_fits r t = search rules

pub event_formed : (front : Front) (device : List ℕ) (r : Result Answer No) → IsEvent r → AnswersAs front (Said (Ok (EvRead device))) (reply_of front r)
event_formed front device r t = search rules

-- a trigger
pub trigger_fits : (r : Result Answer No) → IsTrigger r → Fits r
trigger_fits r t = search rules

pub trigger_formed : (front : Front) (device : List ℕ) (r : Result Answer No) → IsTrigger r → AnswersAs front (Said (Ok (GetTrig device))) (reply_of front r)
trigger_formed front device (Ok (answer.Number n)) t = (None, ap (λ k. Number (pos k)) t)
trigger_formed front device (Ok (answer.Trigger k)) t = (Some k, refl)
trigger_formed front device (Ok answer.Help) t = absurd t
trigger_formed front device (Ok answer.Version) t = absurd t
trigger_formed front device (Ok answer.Context) t = absurd t
trigger_formed front device (Ok (answer.Fixed digits)) t = absurd t
trigger_formed front device (Ok (answer.Int n)) t = absurd t
trigger_formed front device (Ok (answer.Count n)) t = absurd t
trigger_formed front device (Ok (answer.Name bytes)) t = absurd t
trigger_formed front device (Ok (answer.Event event)) t = absurd t
trigger_formed front device (Err (NoErrno e)) t = tt
trigger_formed front device (Err NoMem) t = tt

-- ---- printing

-- what has room doesn't fail; of what may be long it needn't be known
pub never_errs : (P : Type 0) (r : Result ⊤ Mem) → IsOk r → OnErr r P
never_errs P r ok = search rules

pub may_err : {P : Type 0} (r : Result ⊤ Mem) → P → OnErr r P
may_err r p = search rules

pub prints_no : (manner : Manner) (front : Front) (why : No) (before after : List ℕ) (r : Result ⊤ Mem)
    → OnOk r (after ≡ before ++ text_of (reply_by (Err why))) → OnOk r (IsAllowed manner (reply_by (Err why)))
    → OnOk r (Prints manner front (Err why) before after)
prints_no manner front why before after r t a = search rules

pub prints_text : (manner : Manner) (front : Front) (a : Answer) (before after : List ℕ) → after ≡ before ++ text_of (reply_of front (Ok a))
    → Prints manner front (Ok a) before after
prints_text manner front a before after t = search rules

-- a long text that there was no memory for
pub prints_short : (manner : Manner) (front : Front) (a : Answer) (before mid after : List ℕ) (r : Result ⊤ Mem) → IsLong (Ok a) → mid ≡ before
    → OnOk r (after ≡ mid ++ text_of NoMemory) → OnOk r (IsAllowed manner NoMemory) → OnOk r (Prints manner front (Ok a) before after)
prints_short manner front a before mid after r long m t x = search rules

-- ---- an item with its answer

pub performed : (manner : Manner) (front : Front) (x : Answering) (item : Item) (y : Answering) (r : Result Answer No)
    → ((reply : Reply) → IsAnswerOf item manner reply) → ServesBy front x.state item r y.state → Prints manner front r x.out y.out
    → Performs manner front x item y Done
performed manner front x item y r any s p = search rules

pub performs : (manner : Manner) (front : Front) (x : Answering) (item : Item) (y : Answering) (r : Result Answer No) (printed : Result ⊤ Mem)
    → ((reply : Reply) → IsAnswerOf item manner reply) → ServesBy front x.state item r y.state → OnOk printed (Prints manner front r x.out y.out)
    → OnOk printed (Performs manner front x item y Done)
performs manner front x item y r printed any s p = search rules

-- a command that is answered at once doesn't wait
pub at_once_answer : (manner : Manner) (said : Result Command Refused) → IsAtOnce said → (reply : Reply) → IsAnswerOf (Said said) manner reply
at_once_answer manner said once reply = search rules

-- ---- memory runs out before anything is done

pub performs_short : (manner : Manner) (front : Front) (a : State) (command : Command) (before after : List ℕ) (r : Result ⊤ Mem) → IsAtOnce (Ok command)
    → OnOk r (after ≡ before ++ text_of NoMemory) → OnOk r (IsAllowed manner NoMemory)
    → OnOk r (Performs manner front (answering a before) (Said (Ok command)) (answering a after) Done)
performs_short manner front a command before after r once t may = search rules

pub short_written : (front : Front) (client : ClientRecord) (device : List ℕ) (target : Option Target) (payload : List ℕ)
    → AnswersAlone front client (Written device target payload) NoMemory
short_written front client device target payload = search rules
