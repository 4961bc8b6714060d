-- How a run ends if neither its source nor its sink failed, and that words make one request.
use Rattle.std.proofs.Common.{◌≡◌, ℕ, List, [], Option, Some, None, IfSome, Ok, refl, sym, ap, ◌∙◌, subst, arith, get_or, length, String}
use Rattle.std.specs.Prelude.{codes}
use Rattle.std.proofs.lemmas.Fmt.{decimal_injective}
use Rattle.iio_base.specs.Faults.{Rose}
use Rattle.iio_sensor.specs.Driver.{Driver}
use Rattle.iio_history.specs.Outcome.{Outcome, outcome_of}
use Rattle.iio_script.specs.declared.status.Status.{Status}
use Rattle.iio_script.specs.declared.status.Status.TheVariants.{Done, Refused, Usage, ReadFault, WriteFault, Memory, TooLong}
use Rattle.iio_script.specs.Ends.{Views, Writes}
use Rattle.iio_gen.specs.Summary.{EndsGen}
use Rattle.iiod_program.specs.Complete.{Completes}
use Rattle.iiod_program.specs.declared.exit.End.TheVariants.{Run}
use Rattle.iiod_program.specs.Does.{Does, Streams}
use Rattle.iiod_program.specs.Played.{AreHandedIn, EndsPlayed}
use Rattle.iiod_program.specs.Request.{Request, Play, Solo, Layout, Gen, Other, Asks}
use Rattle.iiod_program.specs.Words.{IsPlay}

completes : (outcome : Outcome) (before : List ℕ) (status : Status) (after : Option (List ℕ)) (reads reads' writes writes' : ℕ)
    → Writes outcome before status after → (status ≡ ReadFault → Rose reads reads') → (status ≡ WriteFault → Rose writes writes') → reads ≡ reads'
    → writes ≡ writes'
    → Completes outcome before status after
completes outcome before Done after reads reads' writes writes' wrote read write r w = wrote
completes outcome before (Refused line why) after reads reads' writes writes' wrote read write r w = wrote
completes outcome before Usage after reads reads' writes writes' wrote read write r w = wrote
completes outcome before ReadFault after reads reads' writes writes' wrote read write r w = absurd (omega (arith, read refl))
completes outcome before WriteFault after reads reads' writes writes' wrote read write r w = absurd (omega (arith, write refl))
completes outcome before Memory after reads reads' writes writes' wrote read write r w = tt
completes outcome before TooLong after reads reads' writes writes' wrote read write r w = wrote

-- if source and sink are visible
pub completes_told : (outcome : List ℕ → Outcome) (left written : Option (List ℕ)) (status : Status) (after : Option (List ℕ)) (reads reads' writes writes' : ℕ)
    → IfSome left (λ xs. IfSome written (λ before. Writes (outcome xs) before status after)) → (status ≡ ReadFault → Rose reads reads')
    → (status ≡ WriteFault → Rose writes writes')
    → reads ≡ reads' → writes ≡ writes' → IfSome left (λ xs. IfSome written (λ before. Completes (outcome xs) before status after))
completes_told outcome None written status after reads reads' writes writes' wrote read write r w = tt
completes_told outcome (Some xs) None status after reads reads' writes writes' wrote read write r w = tt
completes_told outcome (Some xs) (Some before) status after reads reads' writes writes' wrote read write r w =
    completes (outcome xs) before status after reads reads' writes writes' wrote read write r w

-- what holds of each input holds of the visible one
pub each_input : (P : List ℕ → Type 0) (left : Option (List ℕ)) → ((xs : List ℕ) → P xs) → IfSome left P
each_input P None all = tt
each_input P (Some xs) all = all xs

-- ---- of the words `gen N`

gen_no_read_fault : (status : Status) → EndsGen status → status ≡ ReadFault → ⊥
gen_no_read_fault status ends is = subst EndsGen is ends

pub gen_completes : (outcome : Outcome) (written : Option (List ℕ)) (status : Status) (after : Option (List ℕ)) (writes writes' : ℕ) → EndsGen status
    → IfSome written (λ before. Writes outcome before status after) → (status ≡ WriteFault → Rose writes writes') → writes ≡ writes'
    → IfSome written (λ before. Completes outcome before status after)
gen_completes outcome None status after writes writes' ends wrote write w = tt
gen_completes outcome (Some before) status after writes writes' ends wrote write w =
    completes outcome before status after 0 0 writes writes' wrote (λ is. absurd (gen_no_read_fault status ends is)) write refl w

-- ---- words make one request

-- equal lists of words have the same length, and the same second and third words
as_long : (l m : List (List ℕ)) → l ≡ m → length l ≡ length m
as_long l m is = ap (λ (x : List (List ℕ)). length x) is

word_is : (k : ℕ) (l m : List (List ℕ)) → l ≡ m → get_or l k [] ≡ get_or m k []
word_is k l m is = ap (λ (x : List (List ℕ)). get_or x k []) is

gen_no_solo : codes "gen" ≡ codes "solo" → ⊥
gen_no_solo is = omega (arith, ap (λ (l : List ℕ). length l) is)

pub asks_one : {A : Type 0} (words : List (String A)) (r r' : Request) → Asks words r → Asks words r' → r ≡ r'
asks_one words Play Play one other = refl
asks_one words Play (Layout device mask) one other = absurd (omega (arith, as_long _ _ (sym one ∙ other)))
asks_one words Play (Gen n) one other = absurd (omega (arith, as_long _ _ (sym one ∙ other.1)))
asks_one words Play (Solo name) one other = absurd (omega (arith, as_long _ _ (sym one ∙ other.1)))
asks_one words Play Other one other = absurd (other.0 one)
asks_one words (Layout device mask) Play one other = absurd (omega (arith, as_long _ _ (sym one ∙ other)))
asks_one words (Layout device mask) (Layout device' mask') one other =
    let first : device ≡ device' = word_is 1 _ _ (sym one ∙ other) in
    let second : mask ≡ mask' = word_is 2 _ _ (sym one ∙ other) in
    subst (λ (d : List ℕ). Layout device mask ≡ Layout d mask') first (ap (λ (m : List ℕ). Layout device m) second)
asks_one words (Layout device mask) (Solo name) one other = absurd (omega (arith, as_long _ _ (sym one ∙ other.1)))
asks_one words (Layout device mask) (Gen n) one other = absurd (omega (arith, as_long _ _ (sym one ∙ other.1)))
asks_one words (Layout device mask) Other one other = absurd (other.2 device mask one)
asks_one words (Gen n) Play one other = absurd (omega (arith, as_long _ _ (sym one.1 ∙ other)))
asks_one words (Gen n) (Layout device mask) one other = absurd (omega (arith, as_long _ _ (sym one.1 ∙ other)))
asks_one words (Gen n) (Gen n') one other = ap (λ (k : ℕ). Gen k) (decimal_injective n n' one.0 other.0 (word_is 1 _ _ (sym one.1 ∙ other.1)))
asks_one words (Gen n) (Solo name) one other = absurd (gen_no_solo (word_is 0 _ _ (sym one.1 ∙ other.1)))
asks_one words (Gen n) Other one other = absurd (other.3 n one)
asks_one words (Solo name) Play one other = absurd (omega (arith, as_long _ _ (sym one.1 ∙ other)))
asks_one words (Solo name) (Layout device mask) one other = absurd (omega (arith, as_long _ _ (sym one.1 ∙ other)))
asks_one words (Solo name) (Gen n) one other = absurd (gen_no_solo (word_is 0 _ _ (sym other.1 ∙ one.1)))
asks_one words (Solo name) (Solo name') one other = ap (λ (w : List ℕ). Solo w) (word_is 1 _ _ (sym one.1 ∙ other.1))
asks_one words (Solo name) Other one other = absurd (other.1 name one)
asks_one words Other Play one other = absurd (one.0 other)
asks_one words Other (Solo name) one other = absurd (one.1 name other)
asks_one words Other (Layout device mask) one other = absurd (one.2 device mask other)
asks_one words Other (Gen n) one other = absurd (one.3 n other)
asks_one words Other Other one other = refl

-- ... so what is done for the request that was read is done for every request of the words
pub does_asked : {A S K : Type 0} (views : Views S K) (words : List (String A)) (read : Request) (drivers : List Driver) (end : Status) (a b : Streams S K)
    → Asks words read → Does views drivers read end a b → (asked : Request) → Asks words asked → Does views drivers asked end a b
does_asked views words read drivers end a b is does asked asks =
    subst (λ (r : Request). Does views drivers r end a b) (asks_one words read asked is asks) does

-- ---- of the word `play`

pub played_text : {A S K : Type 0} (views : Views S K) (words : List (String A)) (drivers : List Driver) (end : Status) (a b : Streams S K)
    → ((asked : Request) → Asks words asked → Does views drivers asked end a b) → IsPlay words
    → IfSome (views.left a.source) (λ xs. IfSome (views.written a.sink) (λ ys. Writes (outcome_of drivers xs) ys end (views.written b.sink)))
played_text views words drivers end a b does is = (does Play is).transcript

pub ends_played : (drivers : List Driver) (left written : Option (List ℕ)) (status : Status) (after : Option (List ℕ)) → AreHandedIn drivers
    → IfSome left (λ xs. IfSome written (λ ys. Writes (outcome_of drivers xs) ys status after))
    → IfSome left (λ xs. IfSome written (λ ys. EndsPlayed xs ys (Ok (Run status)) after))
ends_played drivers None written status after handed writes = tt
ends_played drivers (Some xs) None status after handed writes = tt
ends_played drivers (Some xs) (Some ys) status after handed writes = record { drivers = drivers; handed = handed; writes = writes }
