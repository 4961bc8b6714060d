-- One item and its answer.
use Rattle.std.proofs.Common.{◌≡◌, ◌⊎◌, ℕ, ◌+◌, ◌≤◌, Bool, true, false, List, ◌++◌, length, arith, inl, Option, Some, None, IfSome, Result, Ok, Err, IfOk, OnOk, refl, sym, ap, ◌∙◌, rules}
use Rattle.std.proofs.lemmas.Grind.{common_steps}
use Rattle.std.specs.Prelude.{⊤}
use Rattle.iio_base.specs.declared.Mem.{Mem}
use Rattle.iio_text.specs.declared.errors.Errno.{Errno}
use Rattle.iio_text.specs.declared.errors.Errno.TheVariants.{EAGAIN, EBADF, EBUSY, ENODEV, ENOSYS}
use Rattle.iio_base.specs.Refusals.{ensure, ◌>>=◌}
use Rattle.iio_desc.specs.Kind.{is_average, is_output}
use Rattle.iio_device.specs.Site.{is_empty}
use Rattle.iiod_grammar.specs.Command.{Command, Open, Close, Read, ReadBuf, GetTrig, SetTrig, SetBuffers, Remask, EvOpen, EvRead, EvClose}
use Rattle.iiod_grammar.specs.Stream.{Item, Said, Streamed}
use Rattle.iiod_reply.specs.Reply.{Reply, Refusal, NoMemory, text_of}
use Rattle.iiod_commands.specs.declared.answers.TheConstants.{SHORT_ANSWER}
use Rattle.iiod_commands.specs.declared.iio.No.{No}
use Rattle.iiod_commands.specs.declared.iio.No.TheVariants.{Errno as NoErrno}
use Rattle.iiod_commands.specs.declared.iio.Took.{Took}
use Rattle.iiod_commands.specs.declared.iio.Took.TheVariants.{Scan, Empty, Gone}
use Rattle.iiod_commands.specs.declared.manner.Manner.{Manner}
use Rattle.iiod_commands.specs.declared.manner.Manner.TheVariants.{Script, Server}
use Rattle.iiod_commands.specs.declared.manner.Progress.{Progress}
use Rattle.iiod_commands.specs.declared.manner.Progress.TheVariants.{Done}
use Rattle.iiod_commands.specs.Acts.{Acted, Acts, act, at_device, refused, retriggered, settled, open_at, close_at, read_at, read_buffer_at, read_attribute_at, ev_close_at, ev_open_at, ev_read_at, get_trigger_at, remask_known, set_buffers_at, set_trigger_at, trigger_named, where_known, write_buffer_at, zero_reply}
use Rattle.iiod_commands.specs.Answers.{IsAt}
use Rattle.iiod_commands.specs.Client.{ClientRecord, place_of, with_count, with_holding, without_holding, State, state, Answering, answering}
use Rattle.iio_core.specs.Front.{Front, find_device, kind_at}
use Rattle.iio_core.specs.Machine.{Machine, is_plugged, station_at}
use Rattle.iio_core.specs.Calls.{set_trigger_of}
use Rattle.iiod_commands.specs.Moves.{Accepts, AnswersAlone, AnswersAs, IsOrShort, Moves, Serves, at_known, at_seat, OpensAt, LeavesAt, RemasksAt}
use Rattle.iiod_commands.specs.Performs.{AnswersRead, Comes, HasRoomAfter, IsAllowed, IsAnswerOf, IsFound, IsWhole, Performs, ReadAt, ReadServedAt, client_by, reply_by, taken_by, MovesBy}
use Rattle.iiod_commands.specs.Seat.{Answers, Trace}

-- an outcome that is the item's
pub comes_acts : (front : Front) (m : Machine) (client client' : ClientRecord) (item : Item) (o : Acted) (reply : Reply) (told' : Option Machine)
    → act front m client item ≡ o
    → Comes m client o reply told' client' → Acts front m client item reply told' client'
comes_acts front m client client' item o reply told' e c = search rules

pub all_comes : (front : Front) (told told' : Option Machine) (client client' : ClientRecord) (item : Item) (o : Machine → Acted) (reply : Reply)
    → ((m : Machine) → act front m client item ≡ o m)
    → IfSome told (λ m. Comes m client (o m) reply told' client') → IfSome told (λ m. Acts front m client item reply told' client')
all_comes front told told' client client' item o reply e c = search rules

-- at a device of a kind that knows the command, and at one of another kind
pub known : (is : Bool) (told told' : Option Machine) (client client' : ClientRecord) (dev : ℕ) (acted : Machine → Acted) (reply : Reply) → is ≡ true
    → IfSome told (λ m. Comes m client (acted m) reply told' client')
    → IfSome told (λ m. Comes m client (where_known is m client dev (acted m)) reply told' client')
known is told told' client client' dev acted reply e c = rw e c

pub not_known : (is : Bool) (told : Option Machine) (client : ClientRecord) (dev : ℕ) (acted : Machine → Acted) (reply : Reply) → is ≡ false
    → ((d : ClientRecord) (a : Acted) → IfSome told (λ m. Comes m d (where_known false m d dev a) reply told d))
    → IfSome told (λ m. Comes m client (where_known is m client dev (acted m)) reply told client)
not_known is None client dev acted reply e u = tt
not_known is (Some m) client dev acted reply e u = rw e (u client (acted m))

-- a refusal changes nothing
pub all_refused : (front : Front) (told : Option Machine) (client : ClientRecord) (item : Item) (e : Errno)
    → ((m : Machine) → act front m client item ≡ refused e m client) → IfSome told (λ m. Acts front m client item (Refusal e) told client)
all_refused front told client item e is = search rules

-- ---- answers over any devices

-- if the connection has no seat at the device
seatless : (p : Option ℕ) (reply : Reply) → (p ≡ None → reply ≡ Refusal EBADF) → IfSome (at_seat p) (λ answer. IsOrShort answer reply)
seatless p reply h = search rules

-- lack of memory, instead of another answer
pub short_at : (o : Option ℕ) → IfSome (at_known (λ dev. None) o) (λ answer. IsOrShort answer NoMemory)
short_at o = search rules

-- a command that is answered by 0 if it isn't refused
pub settles : (front : Front) (item : Item) (r : Result ⊤ No) → Accepts front item zero_reply → AnswersAs front item (reply_by r)
settles front item r a = search rules

-- ---- a command at a device

-- what it makes at the device of that number
abbrev pub on_device : Front → Machine → ClientRecord → Command → ℕ → Acted
on_device front m client (Open device samples text cyclic) = λ dev. open_at front m client dev samples text cyclic
on_device front m client (Close device) = λ dev. close_at front m client (place_of dev client.seats)
on_device front m client (Read device place name) = λ dev. read_attribute_at front m client place name dev
on_device front m client (GetTrig device) = λ dev. get_trigger_at front m client dev
on_device front m client (SetTrig device name) = λ dev. set_trigger_at front m client name dev
on_device front m client (SetBuffers device n) = λ dev. set_buffers_at m client n dev
on_device front m client (Remask device text) = λ dev. remask_known front m client text dev
on_device front m client (EvOpen device) = λ dev. ev_open_at front m client dev
on_device front m client (EvRead device) = λ dev. ev_read_at front m client dev
on_device front m client (EvClose device) = λ dev. ev_close_at front m client dev
on_device front m client command = λ dev. refused ENODEV m client

act_at : (front : Front) (m : Machine) (client : ClientRecord) (o : Option ℕ) (command : Command) → IsAt front o command
    → act front m client (Said (Ok command)) ≡ at_device m client (on_device front m client command) o
unfolding act
act_at front m client o command e = search rules

-- if there is no device of that name
unknown : (front : Front) (a : State) (command : Command) → IsAt front None command
    → AnswersAlone front a.client (Said (Ok command)) (Refusal ENODEV) → Moves front a (Said (Ok command)) (Refusal ENODEV) a
    → Serves front a (Said (Ok command)) (Refusal ENODEV) a
unknown front a command e alone moves =
    record { alone = alone; formed = tt; exact = all_refused front a.told a.client _ ENODEV (λ m. act_at front m a.client None command e); moves = moves }

pub serves_unknown : (front : Front) (a : State) (command : Command) → IsAt front None command → Serves front a (Said (Ok command)) (Refusal ENODEV) a
serves_unknown front a (Open device samples text cyclic) e = unknown front a (Open device samples text cyclic) e (rw (sym e) (inl refl)) (refl, refl)
serves_unknown front a (Close device) e = unknown front a (Close device) e (rw (sym e) (inl refl)) (refl, refl)
serves_unknown front a (Read device place name) e = unknown front a (Read device place name) e (rw (sym e) (inl refl)) (refl, refl)
serves_unknown front a (GetTrig device) e = unknown front a (GetTrig device) e (rw (sym e) (inl refl)) (refl, refl)
serves_unknown front a (SetTrig device name) e = unknown front a (SetTrig device name) e (rw (sym e) (inl refl)) (refl, refl)
serves_unknown front a (SetBuffers device n) e = unknown front a (SetBuffers device n) e (rw (sym e) (inl refl)) (refl, refl)
serves_unknown front a (Remask device text) e = unknown front a (Remask device text) e (rw (sym e) (inl refl)) (refl, refl)
serves_unknown front a (EvOpen device) e = unknown front a (EvOpen device) e (rw (sym e) (inl refl)) (refl, refl)
serves_unknown front a (EvRead device) e = unknown front a (EvRead device) e (rw (sym e) (inl refl)) (refl, refl)
serves_unknown front a (EvClose device) e = unknown front a (EvClose device) e (rw (sym e) (inl refl)) (refl, refl)
serves_unknown front a command e = absurd e

-- if the device is found
pub serves_at : (front : Front) (a b : State) (command : Command) (dev : ℕ) (reply : Reply) → IsAt front (Some dev) command
    → AnswersAlone front a.client (Said (Ok command)) reply → AnswersAs front (Said (Ok command)) reply
    → IfSome a.told (λ m. Comes m a.client (on_device front m a.client command dev) reply b.told b.client)
    → Moves front a (Said (Ok command)) reply b → Serves front a (Said (Ok command)) reply b
serves_at front a b command dev reply e alone formed c moves = record {
  alone = alone;
  formed = formed;
  exact = all_comes front a.told b.told a.client b.client _ (λ m. on_device front m a.client command dev) reply
      (λ m. act_at front m a.client (Some dev) command e) c;
  moves = moves;
}

-- ---- OPEN

pub serves_open : (front : Front) (a b : State) (device : List ℕ) (samples : ℕ) (text : List ℕ) (cyclic : Bool) (dev : ℕ) (r : Result ⊤ No)
    → Some dev ≡ find_device front device
    → IfSome a.told (λ m. Comes m a.client (open_at front m a.client dev samples text cyclic) (reply_by r) b.told b.client)
    → MovesBy (OpensAt front dev samples text cyclic) a r b → Serves front a (Said (Ok (Open device samples text cyclic))) (reply_by r) b
serves_open front a b device samples text cyclic dev r e t j =
    serves_at front a b (Open device samples text cyclic) dev (reply_by r) e (rw (sym e) tt)
    (settles front (Said (Ok (Open device samples text cyclic))) r refl) t (moved r j)
  where
    moved : (r : Result ⊤ No) → MovesBy (OpensAt front dev samples text cyclic) a r b
        → Moves front a (Said (Ok (Open device samples text cyclic))) (reply_by r) b
    moved r j = search rules

-- ---- CLOSE

pub serves_close : (front : Front) (a b : State) (device : List ℕ) (dev : ℕ) (r : Result ⊤ No) → Some dev ≡ find_device front device
    → IfSome a.told (λ m. Comes m a.client (close_at front m a.client (place_of dev a.client.seats)) (reply_by r) b.told b.client)
    → (place_of dev a.client.seats ≡ None → r ≡ Err (NoErrno EBADF))
    → MovesBy (LeavesAt dev) a r b → Serves front a (Said (Ok (Close device))) (reply_by r) b
serves_close front a b device dev r e t none j =
    serves_at front a b (Close device) dev (reply_by r) e
    (rw (sym e) (seatless (place_of dev a.client.seats) (reply_by r) (λ n. ap reply_by (none n)))) (settles front (Said (Ok (Close device))) r refl) t
    (moved r j)
  where
    moved : (r : Result ⊤ No) → MovesBy (LeavesAt dev) a r b → Moves front a (Said (Ok (Close device))) (reply_by r) b
    moved r j = search rules

-- ---- REMASK

pub serves_remask : (front : Front) (a b : State) (device text : List ℕ) (dev : ℕ) (r : Result ⊤ No) → Some dev ≡ find_device front device
    → IfSome a.told (λ m. Comes m a.client (remask_known front m a.client text dev) (reply_by r) b.told b.client)
    → MovesBy (RemasksAt front dev text) a r b → Serves front a (Said (Ok (Remask device text))) (reply_by r) b
serves_remask front a b device text dev r e t j =
    serves_at front a b (Remask device text) dev (reply_by r) e (rw (sym e) tt) (settles front (Said (Ok (Remask device text))) r refl) t (moved r j)
  where
    moved : (r : Result ⊤ No) → MovesBy (RemasksAt front dev text) a r b → Moves front a (Said (Ok (Remask device text))) (reply_by r) b
    moved r j = search rules

-- ---- READBUF

read_is : (front : Front) (client : ClientRecord) (device : List ℕ) (asked dev : ℕ) → find_device front device ≡ Some dev
    → is_output (kind_at front dev) ≡ false
    → (m : Machine)
    → act front m client (Said (Ok (ReadBuf device asked))) ≡ read_at front m client asked (place_of dev client.seats)
unfolding act
read_is front client device asked dev e read m = cc

pub serves_read : (front : Front) (a b : State) (device : List ℕ) (asked dev : ℕ) (reply : Reply)
    → find_device front device ≡ Some dev → is_output (kind_at front dev) ≡ false → b.client ≡ a.client
    → ReadServedAt front dev asked a b reply → Serves front a (Said (Ok (ReadBuf device asked))) reply b
serves_read front a b device asked dev reply e read same r = grind (arith, common_steps, read_is)

unknown_read : (front : Front) (client : ClientRecord) (device : List ℕ) (asked : ℕ) → find_device front device ≡ None → (m : Machine)
    → act front m client (Said (Ok (ReadBuf device asked))) ≡ refused ENODEV m client
unfolding act
unknown_read front client device asked e m = ap (λ o. at_device m client (read_buffer_at front m client asked) o) e

pub no_read : (front : Front) (a : State) (device : List ℕ) (asked : ℕ) → find_device front device ≡ None
    → Serves front a (Said (Ok (ReadBuf device asked))) (Refusal ENODEV) a
no_read front a device asked e = search (rules, unknown_read)

-- ---- the end of an item

pub finished : (manner : Manner) (front : Front) (x : Answering) (item : Item) (y : Answering) (reply : Reply) (r : Result Progress Mem)
    → Serves front x.state item reply y.state
    → IfOk r (λ p. p ≡ Done) → OnOk r (y.out ≡ x.out ++ text_of reply) → OnOk r (IsAllowed manner reply) → IsAnswerOf item manner reply
    → IfOk r (Performs manner front x item y)
finished manner front x item y reply r s d t a i = search rules

pub allowed : (manner : Manner) (reply : Reply) → IsWhole reply → IsAllowed manner reply
allowed manner reply w = search rules

pub found_answer : (device : List ℕ) (asked : ℕ) (manner : Manner) (reply : Reply) → IsFound reply → IsAnswerOf (Said (Ok (ReadBuf device asked))) manner reply
found_answer device asked manner reply f = search rules

pub unread_answer : (device : List ℕ) (asked : ℕ) (manner : Manner) (e : Errno) → (e ≡ ENODEV) ⊎ (e ≡ ENOSYS)
    → IsAnswerOf (Said (Ok (ReadBuf device asked))) manner (Refusal e)
unread_answer device asked manner e h1 = search rules

answered : (manner : Manner) (front : Front) (x y : Answering) (after device : List ℕ) (asked dev : ℕ) (took : Result Took Mem) (p : Progress)
    → find_device front device ≡ Some dev → is_output (kind_at front dev) ≡ false → y.state.client ≡ x.state.client
    → ReadAt front dev asked x y took → AnswersRead manner dev took y.out after p
    → Performs manner front x (Said (Ok (ReadBuf device asked))) (answering y.state after) p
answered manner front x y after device asked dev (Ok Scan) p e read same r a =
    rw a.1 (
      r.0,
      a.0 ∙ r.1,
      allowed manner r.0 r.3.whole,
      found_answer device asked manner r.0 r.2,
      serves_read front x.state y.state device asked dev r.0 e read same
          r.3,
    )
answered manner front x y after device asked dev (Ok Gone) p e read same r a =
    rw a.1 (
      Refusal ENODEV,
      a.0 ∙ ap (λ (xs : List ℕ). xs ++ text_of (Refusal ENODEV)) r.0,
      allowed manner (Refusal ENODEV) tt,
      found_answer device asked manner (Refusal ENODEV) tt,
      serves_read front x.state y.state device asked dev _ e read same r.1,
    )
answered Server front x y after device asked dev (Ok Empty) p e read same r a =
    rw a.1 (a.0 ∙ r.0, refl, e, serves_read front x.state y.state device asked dev _ e read same r.1)
answered Script front x y after device asked dev (Ok Empty) p e read same r a =
    rw a.1 (
      Refusal EAGAIN,
      a.0 ∙ ap (λ (xs : List ℕ). xs ++ text_of (Refusal EAGAIN)) r.0,
      tt,
      tt,
      serves_read front x.state y.state device asked dev _ e read same r.1,
    )
answered manner front x y after device asked dev (Err fault) p e read same r a = search rules

pub answers : (manner : Manner) (front : Front) (x y : Answering) (after device : List ℕ) (asked dev : ℕ) (took : Result Took Mem) (r : Result Progress Mem)
    → find_device front device ≡ Some dev → is_output (kind_at front dev) ≡ false → y.state.client ≡ x.state.client
    → ReadAt front dev asked x y took → IfOk r (AnswersRead manner dev took y.out after)
    → IfOk r (Performs manner front x (Said (Ok (ReadBuf device asked))) (answering y.state after))
answers manner front x y after device asked dev took r e read same h1 a = search (rules, answered)

-- ---- SETTRIG

-- the call of a device that is plugged and has a trigger of its own answers the rest
retriggers : (m : Machine) (client : ClientRecord) (dev : ℕ) (to : Option ℕ) (alone : Bool) → is_plugged m dev ≡ true
    → is_empty (station_at m dev).members ≡ alone
    → retriggered m client dev (ensure alone EBUSY >>= (λ free. Ok to)) ≡ settled client (set_trigger_of m dev to)
unfolding set_trigger_of station_at is_plugged
retriggers m client dev to alone plugged is = search rules

pub set_found : (front : Front) (told told' : Option Machine) (client : ClientRecord) (name : Option (List ℕ)) (dev : ℕ) (to : Option ℕ) (p : Bool)
    (r : Result ⊤ No)
    → IfSome told (λ m. p ≡ is_plugged m dev) → p ≡ true → is_average (kind_at front dev) ≡ false → trigger_named front name ≡ Ok to
    → IfSome told (λ m. Answers (set_trigger_of m dev to) m r told')
    → IfSome told (λ m. Comes m client (set_trigger_at front m client name dev) (reply_by r) told' client)
set_found front told told' client name dev to p r plugged here own named answers = search (rules, retriggers)

pub serves_set_trigger : (front : Front) (a : State) (told' : Option Machine) (device : List ℕ) (name : Option (List ℕ)) (dev : ℕ) (r : Result ⊤ No)
    → Some dev ≡ find_device front device
    → IfSome a.told (λ m. Comes m a.client (set_trigger_at front m a.client name dev) (reply_by r) told' a.client)
    → Serves front a (Said (Ok (SetTrig device name))) (reply_by r) (state told' a.client a.traces)
serves_set_trigger front a told' device name dev r e c =
    serves_at front a (state told' a.client a.traces) (SetTrig device name) dev (reply_by r) e (rw (sym e) tt)
    (settles front (Said (Ok (SetTrig device name))) r refl) c (moved r)
  where
    moved : (r : Result ⊤ No) → Moves front a (Said (Ok (SetTrig device name))) (reply_by r) (state told' a.client a.traces)
    moved r = search rules

-- ---- SET

pub serves_set_buffers : (front : Front) (a : State) (client' : ClientRecord) (traces' : List (Option Trace)) (device : List ℕ) (n dev : ℕ) (r : Result ⊤ No)
    → Some dev ≡ find_device front device → IfSome a.told (λ m. Comes m a.client (set_buffers_at m a.client n dev) (reply_by r) a.told client')
    → client' ≡ client_by (with_count dev n) a.client r → traces' ≡ a.traces
    → Serves front a (Said (Ok (SetBuffers device n))) (reply_by r) (state a.told client' traces')
serves_set_buffers front a client' traces' device n dev r e c changed t =
    serves_at front a (state a.told client' traces') (SetBuffers device n) dev (reply_by r) e (rw (sym e) tt)
    (settles front (Said (Ok (SetBuffers device n))) r refl) c (moved r changed)
  where
    moved : (r : Result ⊤ No) → client' ≡ client_by (with_count dev n) a.client r
        → Moves front a (Said (Ok (SetBuffers device n))) (reply_by r) (state a.told client' traces')
    moved r changed = search rules

-- ---- GETTRIG

pub serves_get_trigger : (front : Front) (a : State) (device : List ℕ) (dev : ℕ) (reply : Reply) → Some dev ≡ find_device front device
    → IfSome a.told (λ m. Comes m a.client (get_trigger_at front m a.client dev) reply a.told a.client) → AnswersAs front (Said (Ok (GetTrig device))) reply
    → Serves front a (Said (Ok (GetTrig device))) reply a
serves_get_trigger front a device dev reply e c formed = serves_at front a a (GetTrig device) dev reply e (rw (sym e) tt) formed c (refl, refl)

-- ---- EVOPEN

pub serves_ev_open : (front : Front) (a b : State) (device : List ℕ) (dev : ℕ) (r : Result ⊤ No) → Some dev ≡ find_device front device
    → IfSome a.told (λ m. Comes m a.client (ev_open_at front m a.client dev) (reply_by r) b.told b.client)
    → b.client ≡ client_by (with_holding dev) a.client r → b.traces ≡ a.traces → Serves front a (Said (Ok (EvOpen device))) (reply_by r) b
serves_ev_open front a b device dev r e c changed t =
    serves_at front a b (EvOpen device) dev (reply_by r) e (rw (sym e) tt) (settles front (Said (Ok (EvOpen device))) r refl) c (moved r changed)
  where
    moved : (r : Result ⊤ No) → b.client ≡ client_by (with_holding dev) a.client r → Moves front a (Said (Ok (EvOpen device))) (reply_by r) b
    moved r changed = search rules

-- ---- EVCLOSE

pub serves_ev_close : (front : Front) (a b : State) (device : List ℕ) (dev : ℕ) (r : Result ⊤ No) → Some dev ≡ find_device front device
    → IfSome a.told (λ m. Comes m a.client (ev_close_at front m a.client dev) (reply_by r) b.told b.client)
    → b.client ≡ client_by (without_holding dev) a.client r → b.traces ≡ a.traces → Serves front a (Said (Ok (EvClose device))) (reply_by r) b
serves_ev_close front a b device dev r e c changed t =
    serves_at front a b (EvClose device) dev (reply_by r) e (rw (sym e) tt) (settles front (Said (Ok (EvClose device))) r refl) c (moved r changed)
  where
    moved : (r : Result ⊤ No) → b.client ≡ client_by (without_holding dev) a.client r → Moves front a (Said (Ok (EvClose device))) (reply_by r) b
    moved r changed = search rules

-- ---- EVREAD

pub serves_ev_read : (front : Front) (a : State) (told' : Option Machine) (device : List ℕ) (dev : ℕ) (reply : Reply) → Some dev ≡ find_device front device
    → IfSome a.told (λ m. Comes m a.client (ev_read_at front m a.client dev) reply told' a.client) → AnswersAs front (Said (Ok (EvRead device))) reply
    → Serves front a (Said (Ok (EvRead device))) reply (state told' a.client a.traces)
serves_ev_read front a told' device dev reply e c formed =
    serves_at front a (state told' a.client a.traces) (EvRead device) dev reply e (rw (sym e) tt) formed c (refl, refl)

-- ---- READBUF of an output device, which is refused

output_is : (front : Front) (client : ClientRecord) (device : List ℕ) (asked dev : ℕ) → find_device front device ≡ Some dev
    → is_output (kind_at front dev) ≡ true
    → (m : Machine)
    → act front m client (Said (Ok (ReadBuf device asked))) ≡ where_known false m client dev (read_at front m client asked (place_of dev client.seats))
unfolding act
output_is front client device asked dev e output m = cc

pub serves_unread : (front : Front) (a : State) (device : List ℕ) (asked dev : ℕ) (e : Errno)
    → find_device front device ≡ Some dev → is_output (kind_at front dev) ≡ true → (e ≡ ENODEV) ⊎ (e ≡ ENOSYS)
    → ((d : ClientRecord) (o : Acted) → IfSome a.told (λ m. Comes m d (where_known false m d dev o) (Refusal e) a.told d))
    → Serves front a (Said (Ok (ReadBuf device asked))) (Refusal e) a
serves_unread front a device asked dev e named output one u = record {
  alone = rw (named, output) tt;
  formed = tt;
  exact = by a.told u;
  moves = (refl, rw (named, output) (either one, refl));
}
  where
    either : (e ≡ ENODEV) ⊎ (e ≡ ENOSYS) → (Refusal e ≡ Refusal ENODEV) ⊎ (Refusal e ≡ Refusal ENOSYS)
    either h1 = search rules

    by : (told : Option Machine) → ((d : ClientRecord) (o : Acted) → IfSome told (λ m. Comes m d (where_known false m d dev o) (Refusal e) told d))
        → IfSome told (λ m. Acts front m a.client (Said (Ok (ReadBuf device asked))) (Refusal e) told a.client)
    by None u = tt
    by (Some m) u =
        comes_acts front m a.client a.client (Said (Ok (ReadBuf device asked))) _ (Refusal e) (Some m)
        (output_is front a.client device asked dev named output m)
        (u a.client (read_at front m a.client asked (place_of dev a.client.seats)))

-- ---- WRITEBUF

streamed_at : (front : Front) (m : Machine) (client : ClientRecord) (o : Option ℕ) (device payload : List ℕ) → o ≡ find_device front device
    → act front m client (Streamed device payload) ≡ at_device m client (write_buffer_at front m client payload) o
unfolding act
streamed_at front m client o device payload e = ap (λ x. at_device m client (write_buffer_at front m client payload) x) (sym e)

pub serves_streamed : (front : Front) (a b : State) (device payload : List ℕ) (dev : ℕ) (r : Result ℕ No) → Some dev ≡ find_device front device
    → IfSome a.told (λ m. Comes m a.client (write_buffer_at front m a.client payload dev) (taken_by r) b.told a.client)
    → b.client ≡ a.client → b.traces ≡ a.traces → IfOk r (λ taken. taken ≤ length payload) → Serves front a (Streamed device payload) (taken_by r) b
serves_streamed front a b device payload dev r e c d t within = search (rules, streamed_at)

pub serves_unstreamed : (front : Front) (a : State) (device payload : List ℕ) → None ≡ find_device front device
    → Serves front a (Streamed device payload) (Refusal ENODEV) a
serves_unstreamed front a device payload e = search (rules, streamed_at)

-- ---- the room for an answer

-- after a take there is room for the rest of READBUF's answer, if there was before
pub room_after : (front : Front) (dev asked : ℕ) (x y : Answering) (capacity capacity' : ℕ) (took : Result Took Mem) → ReadAt front dev asked x y took
    → capacity ≤ capacity' → length x.out + SHORT_ANSWER ≤ capacity → HasRoomAfter took y.out capacity'
room_after front dev asked x y capacity capacity' took read grows room = search rules
