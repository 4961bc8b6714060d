-- What is read of an input of which only the description is wanted, by what its head was read as.
use Rattle.std.proofs.Common.{◌≡◌, ℕ, List, [], ◌++◌, Option, Some, None, IfSome, IfOk, Result, Ok, Err, refl, sym, ap, ◌∙◌, subst, append-nil, arith}
use Rattle.iio_text.specs.declared.refusals.Why.{Why}
use Rattle.iio_desc.specs.Description.{Description}
use Rattle.iio_history.specs.Outcome.{Head, Outcome, head_of, only_ending}
use Rattle.iio_history.specs.Script as script
use Rattle.iio_script.specs.declared.opening.Opening.{Opening}
use Rattle.iio_script.specs.declared.opening.Opening.TheVariants.{Alone, Cut, Described, Refused}
use Rattle.iio_script.specs.declared.status.Status.{Status}
use Rattle.iio_script.specs.declared.status.Status.TheVariants as status
use Rattle.iio_script.specs.Ends.{HasStatus, Writes, status_of}
use Rattle.iio_script.specs.LineReader.{Hand, TakesBlocks, TakesNear}
use Rattle.iio_script.specs.Plays.{Prints, TakesFor, WritesText}
use Rattle.iio_script.specs.Told.{Opens, told}
use Rattle.iiod_serve.specs.Reading.{IsStop, Says, read_head, served_of}

-- ---- the head of an input

record ToldBy (drivers : ℕ) (input : List ℕ) (opening : Opening) : Type 0 where
  pub next : ℕ
  pub more : List (List ℕ)
  pub head : head_of drivers input ≡ told next more opening

told_by : (drivers : ℕ) (input : List ℕ) (opening : Opening) (h : Hand) (left : Option (List ℕ)) → Opens drivers opening input h left
    → ToldBy drivers input opening
told_by drivers input (Described desc first) h left opens = record { next = 0; more = opens.behind; head = opens.whole }
told_by drivers input (Alone desc) h left opens = record { next = opens.next; more = []; head = opens.head }
told_by drivers input (Refused line why) h left opens = record { next = 0; more = []; head = opens.head }
told_by drivers input Cut h left opens = record { next = 0; more = []; head = opens }

-- ---- what was printed

writes_by : (outcome : Outcome) (st : Status) (text xs : List ℕ) (after : Option (List ℕ)) → Prints outcome st text → after ≡ Some (xs ++ text)
    → Writes outcome xs st after
writes_by outcome status.Done text xs after f writes = record { ends = f.ends; written = writes ∙ ap (λ t. Some (xs ++ t)) f.printed }
writes_by outcome (status.Refused line why) text xs after f writes = record { ends = f.ends; written = writes ∙ ap (λ t. Some (xs ++ t)) f.printed }
writes_by outcome status.TooLong text xs after f writes = record { ends = f.ends; written = writes ∙ ap (λ t. Some (xs ++ t)) f.printed }
writes_by outcome status.Usage text xs after f writes = absurd f
writes_by outcome status.ReadFault text xs after f writes = absurd f
writes_by outcome status.WriteFault text xs after f writes = record { front = text; rest = f.rest; parts = f.parts; written = writes }
writes_by outcome status.Memory text xs after f writes = record { front = text; rest = f.rest; parts = f.parts; written = writes }

pub printed_writes : (outcome : Outcome) (st : Status) (before after : Option (List ℕ))
    → ((text : List ℕ) × WritesText before after text × Prints outcome st text)
    → IfSome before (λ xs. Writes outcome xs st after)
printed_writes outcome st None after prints = tt
printed_writes outcome st (Some xs) after prints = writes_by outcome st prints.0 xs after prints.2 prints.1

pub status_by : (outcome : Outcome) (st : Status) (text : List ℕ) → Prints outcome st text → HasStatus outcome st
status_by outcome status.Done text f = f.ends
status_by outcome (status.Refused line why) text f = f.ends
status_by outcome status.TooLong text f = f.ends
status_by outcome status.Usage text f = absurd f
status_by outcome status.ReadFault text f = tt
status_by outcome status.WriteFault text f = tt
status_by outcome status.Memory text f = tt

-- what is printed if the head was read as this
abbrev pub PrintsHead : Opening → Status → (before after : Option (List ℕ)) → Type 0
PrintsHead opening st before after =
    (next : ℕ) (more : List (List ℕ)) → (text : List ℕ) × WritesText before after text × Prints (read_head (told next more opening)) st text

pub head_writes : (drivers : ℕ) (opening : Opening) (st : Status) (h : Hand) (left left' before after : Option (List ℕ)) → PrintsHead opening st before after
    → IfSome left (λ input. Opens drivers opening input h left') → IfSome left (λ input. IfSome before (λ xs. Writes (served_of drivers input) xs st after))
head_writes drivers opening st h None left' before after prints opens = tt
head_writes drivers opening st h (Some input) left' before after prints opens =
    let by = told_by drivers input opening h left' opens in
    subst (λ (o : Outcome). IfSome before (λ xs. Writes o xs st after)) (sym (ap read_head by.head))
    (printed_writes (read_head (told by.next by.more opening)) st before after (prints by.next by.more))

pub head_status : (drivers : ℕ) (opening : Opening) (st : Status) (h : Hand) (left left' before after : Option (List ℕ)) → PrintsHead opening st before after
    → IfSome left (λ input. Opens drivers opening input h left') → IfSome left (λ input. HasStatus (served_of drivers input) st)
head_status drivers opening st h None left' before after prints opens = tt
head_status drivers opening st h (Some input) left' before after prints opens =
    let by = told_by drivers input opening h left' opens in
    let run = prints by.next by.more in
    subst (λ (o : Outcome). HasStatus o st) (sym (ap read_head by.head)) (status_by (read_head (told by.next by.more opening)) st run.0 run.2)

line_of : (line n : ℕ) (why why' : Why) → status.Refused n why ≡ status_of (only_ending (script.Refused line why')).ending → line ≡ n
line_of line n why why' is = cc

near_by : (input text : List ℕ) (n : ℕ) (why : Why) (drivers : ℕ) (opening : Opening) (h : Hand) (left : Option (List ℕ)) → Opens drivers opening input h left
    → Prints (read_head (told 0 [] opening)) (status.Refused n why) text → TakesNear n input left
near_by input text n why drivers (Described desc first) h left opens prints = absurd (let is = prints.ends in cc)
near_by input text n why drivers (Alone desc) h left opens prints = absurd (let is = prints.ends in cc)
near_by input text n why drivers (Refused line why') h left opens prints =
    subst (λ (k : ℕ). TakesNear k input left) (line_of line n why why' prints.ends) opens.near
near_by input text n why drivers Cut h left opens prints = absurd (let is = prints.ends in cc)

pub head_near : (drivers : ℕ) (opening : Opening) (st : Status) (h : Hand) (left left' before after : Option (List ℕ)) → PrintsHead opening st before after
    → IfSome left (λ input. Opens drivers opening input h left') → IfSome left (λ input. TakesFor st input left')
head_near drivers opening st h None left' before after prints opens = tt
head_near drivers opening st h (Some input) left' before after prints opens = let run = prints 0 [] in by st run.0 run.2
  where
    by : (s : Status) (text : List ℕ) → Prints (read_head (told 0 [] opening)) s text → TakesFor s input left'
    by (status.Refused n why) text prints = near_by input text n why drivers opening h left' opens prints
    by status.Done text prints = tt
    by status.TooLong text prints = tt
    by status.Usage text prints = tt
    by status.ReadFault text prints = tt
    by status.WriteFault text prints = tt
    by status.Memory text prints = tt

-- the description that was read is that of the head
pub head_says : (drivers : ℕ) (opening : Opening) (result : Result Description Status) (h : Hand) (left left' : Option (List ℕ))
    → IfOk result (λ desc. (next : ℕ) (more : List (List ℕ)) → Says desc (told next more opening))
    → IfSome left (λ input. Opens drivers opening input h left') → IfOk result (λ desc. IfSome left (λ input. Says desc (head_of drivers input)))
head_says drivers opening (Err st) h left left' says opens = tt
head_says drivers opening (Ok desc) h None left' says opens = tt
head_says drivers opening (Ok desc) h (Some input) left' says opens =
    let by = told_by drivers input opening h left' opens in subst (λ (head : Head). Says desc head) (sym by.head) (says by.next by.more)

-- what holds whatever was read
pub whatever : {A E : Type 0} (P : Type 0) (result : Result A E) → P → IfOk result (λ _. P)
whatever P (Ok x) holds = holds
whatever P (Err e) holds = tt

-- ---- if nothing was printed

nothing : (before : Option (List ℕ)) → WritesText before before []
nothing None = tt
nothing (Some xs) = ap Some (sym (append-nil xs))

-- if memory ran out, whatever the outcome
pub prints_none : (outcome : Outcome) (before : Option (List ℕ)) → (text : List ℕ) × WritesText before before text × Prints outcome status.Memory text
prints_none outcome before = ([], nothing before, record { rest = outcome.printed; parts = refl })

pub writes_none : (outcome : List ℕ → Outcome) (left before : Option (List ℕ))
    → IfSome left (λ input. IfSome before (λ xs. Writes (outcome input) xs status.Memory before))
writes_none outcome None before = tt
writes_none outcome (Some input) before = printed_writes (outcome input) status.Memory before before (prints_none (outcome input) before)

-- if a read failed
pub writes_failed : (outcome : List ℕ → Outcome) (left before : Option (List ℕ))
    → IfSome left (λ input. IfSome before (λ xs. Writes (outcome input) xs status.ReadFault before))
writes_failed outcome None before = tt
writes_failed outcome (Some input) None = tt
writes_failed outcome (Some input) (Some xs) = record { front = []; rest = (outcome input).printed; parts = refl; written = ap Some (sym (append-nil xs)) }

-- nothing was taken
pub taken_none : (left : Option (List ℕ)) → IfSome left (λ input. TakesBlocks input left)
taken_none None = tt
taken_none (Some input) = record { count = 0; within = omega arith; near = λ m ends. omega arith; rest = refl }

-- ---- which statuses there are

pub no_read_fault : (outcome : Outcome) (st : Status) (text : List ℕ) → Prints outcome st text → st ≡ status.ReadFault → ⊥
no_read_fault outcome st text f is = subst (λ (x : Status). Prints outcome x text) is f

-- a run that is done has neither a refusal nor a cut as its end
refused_stops : (line : ℕ) (why : Why) (st : Status) (text : List ℕ) → Prints (only_ending (script.Refused line why)) st text → IsStop st
refused_stops line why status.Done text f = absurd (let is = f.ends in cc)
refused_stops line why status.Usage text f = f
refused_stops line why (status.Refused n w) text f = tt
refused_stops line why status.TooLong text f = tt
refused_stops line why status.ReadFault text f = tt
refused_stops line why status.WriteFault text f = tt
refused_stops line why status.Memory text f = tt

pub stops_at : (line : ℕ) (why : Why) (st : Status) (before after : Option (List ℕ))
    → ((text : List ℕ) × WritesText before after text × Prints (only_ending (script.Refused line why)) st text) → IsStop st
stops_at line why st before after prints = refused_stops line why st prints.0 prints.2
