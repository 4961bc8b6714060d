-- A connection's seats as lists.
use Rattle.std.proofs.Common.{◌≡◌, ◌≢◌, ℕ, zero, suc, ◌+◌, ◌<◌, ◌==◌, Bool, true, not, cond, List, [], ◌∷◌, ◌++◌, map, length, slice_get, slice_set, slice_index_or, remove, Option, Some, None, option_map, IfSome, is_some, Result, Ok, Err, refl, sym, ap, subst, ◌∙◌, arith, rules}
use Rattle.std.proofs.lemmas.List.{length-map}
use Rattle.std.specs.Prelude.{⊤}
use Rattle.std.specs.List.{position, prefix_len}
use Rattle.iio_base.specs.declared.Mem.{Mem}
use Rattle.iio_layout.specs.Shape.{ShapeRecord}
use Rattle.iio_text.specs.declared.errors.Errno.{Errno}
use Rattle.iio_text.specs.declared.errors.Errno.TheVariants.{EBADF}
use Rattle.iiod_reply.specs.Reply.{Reply, Refusal}
use Rattle.iiod_commands.specs.declared.client.OpenSeat.{OpenSeat}
use Rattle.iiod_commands.specs.declared.iio.No.{No}
use Rattle.iiod_commands.specs.declared.iio.No.TheVariants.{Errno as NoErrno, Mem as NoMem}
use Rattle.iiod_commands.specs.declared.iio.Took.{Took}
use Rattle.iiod_commands.specs.declared.iio.Took.TheVariants.{Scan, Empty, Gone}
use Rattle.iiod_commands.specs.declared.wanted.Wanted.{Wanted as CodeWanted}
use Rattle.iiod_commands.specs.Acts.{Acted, all_closed, all_released, zero_reply, open_at, joined_at, close_at, read_at, read_at_seat, remask_at, remask_seat, write_at_place, write_at_seat}
use Rattle.iio_core.specs.Calls.{machine_after_close, ev_close_of}
use Rattle.iiod_commands.specs.Client.{IsWanted, Wanted, SeatState, ClientRecord, are_apart, seat_state_of, trace_of, seats_of, traces_of, place_of, buffers_of, with_seats, wanted_of, State, state, answering}
use Rattle.iio_core.specs.Front.{Front, kind_at, shape_at}
use Rattle.iio_core.specs.Machine.{Machine, is_plugged}
use Rattle.iiod_commands.specs.Moves.{ReadsBy, JoinsAt, OpensAt, LeavesAt, RemasksAt}
use Rattle.iiod_commands.specs.Performs.{Comes, ReadAt, ReadHeld, ReadServed, ReadServedAt, RemaskMoves, RemaskTold, WritesHeld, reply_by, MovesBy}
use Rattle.iiod_commands.specs.Seat.{Answers, SeatRecord, Trace, first_trace}
use Rattle.iiod_commands.proofs.ApartLaws.{apart_by, apart_kept, apart_last, apart_under, are_apart_by, none_has, placed_at}
use Rattle.iiod_commands.specs.Wanted.{wanted_of_code}
use Rattle.iiod_commands.specs.Reading.{reading}

module _ {S : Type 0} (seen : S → SeatRecord) where
  one_more_held : {B : Type 0} (f : OpenSeat S → B) (held : List (OpenSeat S)) (h : OpenSeat S) → map f (held ++ h ∷ []) ≡ map f held ++ f h ∷ []
  one_more_held f [] h = refl
  one_more_held f (x ∷ xs) h = ap (λ ys. f x ∷ ys) (one_more_held f xs h)

  -- no two seats are at one device, after one is added at a device where there was none
  pub apart_joined : (held mid held' : List (OpenSeat S)) (h : OpenSeat S) → are_apart (seats_of seen held) ≡ true → place_of h.dev (seats_of seen held) ≡ None
      → mid ≡ held → held' ≡ mid ++ h ∷ [] → are_apart (seats_of seen held') ≡ true
  apart_joined held mid held' h a free z e = search (rules, one_more_held, are_apart_by, apart_last, apart_by, none_has)

  prefix_is : (dev : ℕ) (held : List (OpenSeat S))
      → prefix_len (λ (s : SeatState). not (s.dev == dev)) (seats_of seen held) ≡ prefix_len (λ (h : OpenSeat S). not (h.dev == dev)) held
  prefix_is dev [] = refl
  prefix_is dev (h ∷ hs) = ap (λ (n : ℕ). cond (not (h.dev == dev)) (1 + n) 0) (prefix_is dev hs)

  pub place_is : (dev : ℕ) (held : List (OpenSeat S)) → place_of dev (seats_of seen held) ≡ position (λ (h : OpenSeat S). h.dev == dev) held
  place_is dev held = rw (prefix_is dev held, length-map held (seat_state_of seen)) refl

  pub get_is : {B : Type 0} (f : OpenSeat S → B) (held : List (OpenSeat S)) (i : ℕ) (h : OpenSeat S) → i < length held → h ≡ slice_index_or held i h
      → slice_get (map f held) i ≡ Some (f h)
  get_is f [] i h l e = absurd (omega arith)
  get_is f (x ∷ xs) zero h l e = ap (λ y. Some (f y)) (sym e)
  get_is f (x ∷ xs) (suc i) h l e = get_is f xs i h (omega arith) e

  -- the seat that was found is at that device
  pub dev_is : (dev i : ℕ) (held : List (OpenSeat S)) (h : OpenSeat S) → Some i ≡ place_of dev (seats_of seen held) → i < length held
      → h ≡ slice_index_or held i h
      → h.dev ≡ dev
  dev_is dev i held h at l e = placed_at dev (seats_of seen held) i (seat_state_of seen h) (sym at) (get_is (seat_state_of seen) held i h l e)

  map_remove : {B : Type 0} (f : OpenSeat S → B) (held : List (OpenSeat S)) (i : ℕ) → map f (remove held i) ≡ remove (map f held) i
  map_remove f [] zero = refl
  map_remove f [] (suc i) = refl
  map_remove f (x ∷ xs) zero = refl
  map_remove f (x ∷ xs) (suc i) = ap (λ ys. f x ∷ ys) (map_remove f xs i)

  closed_at : (front : Front) (m : Machine) (base : ClientRecord) (i : ℕ) (held held' : List (OpenSeat S)) (h : OpenSeat S) (p : Option ℕ)
      → Some i ≡ p → i < length held → h ≡ slice_index_or held i h → held' ≡ remove held i
      → close_at front m (with_seats (seats_of seen held) base) p
      ≡ record { reply = zero_reply; machine = machine_after_close front m h.dev (seen h.seat).number; client = with_seats (seats_of seen held') base }
  closed_at front m base i held held' h p at l e gone = search (rules, get_is, map_remove)

  pub closes : (front : Front) (told told' : Option Machine) (base : ClientRecord) (dev i : ℕ) (held held' : List (OpenSeat S)) (h : OpenSeat S)
      → Some i ≡ place_of dev (seats_of seen held) → i < length held → h ≡ slice_index_or held i h → held' ≡ remove held i
      → IfSome told (λ m. told' ≡ Some (machine_after_close front m h.dev (seen h.seat).number))
      → IfSome told (λ m. Comes m (with_seats (seats_of seen held) base)
      (close_at front m (with_seats (seats_of seen held) base) (place_of dev (seats_of seen held)))
      zero_reply told' (with_seats (seats_of seen held') base))
  closes front told told' base dev i held held' h at l e gone t = search (rules, closed_at)

  pub leaves : (told told' : Option Machine) (base : ClientRecord) (dev i : ℕ) (held held' : List (OpenSeat S)) → Some i ≡ place_of dev (seats_of seen held)
      → held' ≡ remove held i
      → LeavesAt dev (state told (with_seats (seats_of seen held) base) (traces_of seen held))
      (state told' (with_seats (seats_of seen held') base) (traces_of seen held'))
  leaves told told' base dev i held held' at gone = search (rules, map_remove)

  map_set : {B : Type 0} (f : OpenSeat S → B) (held : List (OpenSeat S)) (i : ℕ) (y : OpenSeat S) → map f (slice_set held i y) ≡ slice_set (map f held) i (f y)
  map_set f [] zero y = refl
  map_set f [] (suc i) y = refl
  map_set f (x ∷ xs) zero y = refl
  map_set f (x ∷ xs) (suc i) y = ap (λ ys. f x ∷ ys) (map_set f xs i y)

  pub apart_removed : (held held' : List (OpenSeat S)) (i : ℕ) → are_apart (seats_of seen held) ≡ true → held' ≡ remove held i
      → are_apart (seats_of seen held') ≡ true
  apart_removed held held' i a e = search (rules, map_remove, are_apart_by, apart_kept, apart_by)

  pub map_set_same : {B : Type 0} (f : OpenSeat S → B) (held : List (OpenSeat S)) (i : ℕ) (y h : OpenSeat S) → i < length held → h ≡ slice_index_or held i h
      → f y ≡ f h
      → map f (slice_set held i y) ≡ map f held
  map_set_same f [] i y h l e same = absurd (omega arith)
  map_set_same f (x ∷ xs) zero y h l e same = ap (λ z. z ∷ map f xs) (same ∙ ap f e)
  map_set_same f (x ∷ xs) (suc i) y h l e same = ap (λ ys. f x ∷ ys) (map_set_same f xs i y h (omega arith) e same)

  served_at : (front : Front) (dev asked i : ℕ) (told told' : Option Machine) (base client' : ClientRecord) (held : List (OpenSeat S)) (h h' : OpenSeat S)
      (before after : List ℕ) (reply : Reply)
      → place_of dev (seats_of seen held) ≡ Some i → i < length held → h ≡ slice_index_or held i h
      → ReadServed front asked (seat_state_of seen h) (reading told (seen h.seat) before) (reading told' (seen h'.seat) after) reply
      → ReadServedAt front dev asked (state told (with_seats (seats_of seen held) base) (traces_of seen held))
      (state told' client' (traces_of seen (slice_set held i h'))) reply
  served_at front dev asked i told told' base client' held h h' before after reply at l e r =
      record { exact = by told r.exact; moves = moved (place_of dev (seats_of seen held)) at; whole = r.whole }
    where
      by : (told : Option Machine)
          → IfSome told (λ m. (n : Machine) × (told' ≡ Some n)
          × ((client : ClientRecord) → read_at_seat front m client (seat_state_of seen h) asked ≡ record { reply = reply; machine = n; client = client }))
          → IfSome told (λ m. (n : Machine) × (told' ≡ Some n)
          × (read_at front m (with_seats (seats_of seen held) base) asked (place_of dev (seats_of seen held))
          ≡ record { reply = reply; machine = n; client = with_seats (seats_of seen held) base }))
      by told x = search (rules, get_is)

      moved : (p : Option ℕ) → p ≡ Some i → ReadsBy front asked (seats_of seen held) (traces_of seen held) p reply (traces_of seen (slice_set held i h'))
      moved None c = absurd (cc)
      moved (Some j) c = let same : j ≡ i = cc in record {
        s = seat_state_of seen h;
        at = rw same (get_is (seat_state_of seen) held i h l e);
        trace = trace_of seen h;
        before = rw same (get_is (trace_of seen) held i h l e);
        trace' = trace_of seen h';
        after = rw same (map_set (trace_of seen) held i h');
        reads = r.moves;
      }

  pub reads_at : (front : Front) (dev asked i : ℕ) (told told' : Option Machine) (base client' : ClientRecord) (held : List (OpenSeat S)) (h h' : OpenSeat S)
      (before after : List ℕ) (r : Result Took Mem)
      → Some i ≡ place_of dev (seats_of seen held) → i < length held → h ≡ slice_index_or held i h
      → ReadHeld front asked (seat_state_of seen h) (reading told (seen h.seat) before) (reading told' (seen h'.seat) after) r
      → ReadAt front dev asked (answering (state told (with_seats (seats_of seen held) base) (traces_of seen held)) before)
      (answering (state told' client' (traces_of seen (slice_set held i h'))) after) r
  reads_at front dev asked i told told' base client' held h h' before after (Ok Scan) at l e r =
      (r.0, r.1, r.2, served_at front dev asked i told told' base client' held h h' before after r.0 (sym at) l e r.3)
  reads_at front dev asked i told told' base client' held h h' before after (Ok Empty) at l e r =
      (r.0, served_at front dev asked i told told' base client' held h h' before after _ (sym at) l e r.1)
  reads_at front dev asked i told told' base client' held h h' before after (Ok Gone) at l e r =
      (r.0, served_at front dev asked i told told' base client' held h h' before after _ (sym at) l e r.1)
  reads_at front dev asked i told told' base client' held h h' before after (Err fault) at l e r = search (rules, map_set_same)

  pub writes_at : (front : Front) (told told' : Option Machine) (base : ClientRecord) (dev i : ℕ) (payload : List ℕ) (held : List (OpenSeat S)) (h : OpenSeat S)
      (reply : Reply)
      → Some i ≡ place_of dev (seats_of seen held) → i < length held → h ≡ slice_index_or held i h
      → WritesHeld front payload told (seat_state_of seen h) reply told'
      → IfSome told (λ m. Comes m (with_seats (seats_of seen held) base)
      (write_at_place front m (with_seats (seats_of seen held) base) payload (place_of dev (seats_of seen held))) reply told'
      (with_seats (seats_of seen held) base))
  writes_at front None told' base dev i payload held h reply at l e w = tt
  writes_at front (Some m) told' base dev i payload held h reply at l e w =
      let client = with_seats (seats_of seen held) base in
      let is : write_at_place front m client payload (place_of dev (seats_of seen held)) ≡ write_at_seat front m client payload (Some (seat_state_of seen h))
      = search (rules, get_is) in
      subst (λ (a : Acted). Comes m client a reply told' client) (sym is) (w client)

  -- ... after a seat changed nothing but its trace
  pub apart_set : (held : List (OpenSeat S)) (i : ℕ) (y h : OpenSeat S) → i < length held → h ≡ slice_index_or held i h
      → seat_state_of seen y ≡ seat_state_of seen h
      → are_apart (seats_of seen held) ≡ true → are_apart (seats_of seen (slice_set held i y)) ≡ true
  apart_set held i y h l e same a = rw (map_set_same (seat_state_of seen) held i y h l e same) a

  -- ... after a seat got another mask
  pub apart_under_mask : (held : List (OpenSeat S)) (i : ℕ) (y h : OpenSeat S) → i < length held → h ≡ slice_index_or held i h → y.dev ≡ h.dev
      → are_apart (seats_of seen held) ≡ true → are_apart (seats_of seen (slice_set held i y)) ≡ true
  apart_under_mask held i y h l e same a = search (rules, map_set, are_apart_by, apart_under, get_is, apart_by)

  remask_found : (front : Front) (m : Machine) (base : ClientRecord) (dev i : ℕ) (text : List ℕ) (held : List (OpenSeat S)) (h : OpenSeat S)
      → Some i ≡ place_of dev (seats_of seen held) → i < length held → h ≡ slice_index_or held i h → true ≡ is_plugged m dev
      → remask_at front m (with_seats (seats_of seen held) base) text dev
      ≡ remask_seat front m (with_seats (seats_of seen held) base) text i (Some (seat_state_of seen h))
  remask_found front m base dev i text held h at l e plugged = search (rules, get_is)

  pub remask_comes : (front : Front) (told told' : Option Machine) (base : ClientRecord) (dev i : ℕ) (text : List ℕ) (held : List (OpenSeat S))
      (h h' : OpenSeat S)
      (r : Result ⊤ No)
      → Some i ≡ place_of dev (seats_of seen held) → i < length held → h ≡ slice_index_or held i h → IfSome told (λ m. true ≡ is_plugged m dev)
      → RemaskMoves front text (seat_state_of seen h) (trace_of seen h) r (seat_state_of seen h') (trace_of seen h')
      → IfSome told (λ m. RemaskTold front text m (seat_state_of seen h) r told' (seat_state_of seen h'))
      → IfSome told (λ m. Comes m (with_seats (seats_of seen held) base) (remask_at front m (with_seats (seats_of seen held) base) text dev)
      (reply_by r) told' (with_seats (seats_of seen (slice_set held i h')) base))
  remask_comes front None told' base dev i text held h h' r at l e plugged moves t = tt
  remask_comes front (Some m) told' base dev i text held h h' (Ok done) at l e plugged moves t = (
    t.0,
    t.1,
    remask_found front m base dev i text held h at l e plugged ∙ t.2 (with_seats (seats_of seen held) base) i
        ∙ ap (λ (bs : List SeatState). record { reply = zero_reply; machine = t.0; client = with_seats bs base })
        (sym (map_set (seat_state_of seen) held i h')),
  )
  remask_comes front (Some m) told' base dev i text held h h' (Err (NoErrno x)) at l e plugged moves t = (
    t.0,
    t.1,
    remask_found front m base dev i text held h at l e plugged ∙ t.2 (with_seats (seats_of seen held) base) i
        ∙ ap (λ (bs : List SeatState). record { reply = Refusal x; machine = t.0; client = with_seats bs base })
        (sym (map_set_same (seat_state_of seen) held i h' h l e moves.0)),
  )
  remask_comes front (Some m) told' base dev i text held h h' (Err NoMem) at l e plugged moves t = search (rules, map_set_same)

  pub remasks_by : (front : Front) (told told' : Option Machine) (base : ClientRecord) (dev i : ℕ) (text : List ℕ) (held : List (OpenSeat S))
      (h h' : OpenSeat S) (r : Result ⊤ No)
      → Some i ≡ place_of dev (seats_of seen held) → i < length held → h ≡ slice_index_or held i h
      → RemaskMoves front text (seat_state_of seen h) (trace_of seen h) r (seat_state_of seen h') (trace_of seen h')
      → MovesBy (RemasksAt front dev text) (state told (with_seats (seats_of seen held) base) (traces_of seen held)) r
      (state told' (with_seats (seats_of seen (slice_set held i h')) base) (traces_of seen (slice_set held i h')))
  remasks_by front told told' base dev i text held h h' (Ok done) at l e j =
      let here = get_is (seat_state_of seen) held i h l e in
      let its = placed_at dev (seats_of seen held) i (seat_state_of seen h) (sym at) here in
      record {
        s = seat_state_of seen h;
        i = i;
        mask = j.0;
        waiting = j.1;
        t = trace_of seen h';
        its = its;
        at = sym at;
        here = here;
        wanted = rw its at j.2;
        under = search (rules, map_set);
        told = map_set (trace_of seen) held i h';
        fresh = begun (trace_of seen h) (trace_of seen h') j.4;
      }
    where
      begun : (a b : Option Trace) → b ≡ option_map (λ (x : Trace). first_trace) a → b ≡ option_map (λ (x : Trace). first_trace) b
      begun a b is = search rules
  remasks_by front told told' base dev i text held h h' (Err why) at l e j = search (rules, map_set_same)

  closed_last : (front : Front) (m : Machine) (xs : List SeatState) (s : SeatState)
      → all_closed front m (xs ++ s ∷ []) ≡ all_closed front (machine_after_close front m s.dev s.number) xs
  closed_last front m [] s = refl
  closed_last front m (x ∷ xs) s = ap (λ n. machine_after_close front n x.dev x.number) (closed_last front m xs s)

  closing_one : (front : Front) (m n : Machine) (t t' : Option Machine) (first before after : List (OpenSeat S)) (h : OpenSeat S)
      → before ≡ after ++ h ∷ [] → t ≡ Some n → all_closed front n (seats_of seen before) ≡ all_closed front m (seats_of seen first)
      → IfSome t (λ k. t' ≡ Some (machine_after_close front k h.dev (seen h.seat).number))
      → (k : Machine) × (t' ≡ Some k) × (all_closed front k (seats_of seen after) ≡ all_closed front m (seats_of seen first))
  closing_one front m n t t' first before after h split told same close = search (rules, closed_last, one_more_held)

  pub closing_more : (front : Front) (told t t' : Option Machine) (first before after : List (OpenSeat S)) (h : OpenSeat S)
      → before ≡ after ++ h ∷ []
      → IfSome told (λ m. (n : Machine) × (t ≡ Some n) × (all_closed front n (seats_of seen before) ≡ all_closed front m (seats_of seen first)))
      → IfSome t (λ k. t' ≡ Some (machine_after_close front k h.dev (seen h.seat).number))
      → IfSome told (λ m. (n : Machine) × (t' ≡ Some n) × (all_closed front n (seats_of seen after) ≡ all_closed front m (seats_of seen first)))
  closing_more front told t t' first before after h split inv close = search (rules, closing_one)

-- ---- holdings

released_last : (m : Machine) (who : ℕ) (xs : List ℕ) (dev : ℕ) → all_released m who (xs ++ dev ∷ []) ≡ all_released (ev_close_of m dev who).machine who xs
released_last m who [] dev = refl
released_last m who (x ∷ xs) dev = ap (λ n. (ev_close_of n x who).machine) (released_last m who xs dev)

releasing_one : (m n : Machine) (t t' : Option Machine) (who : ℕ) (first before after : List ℕ) (dev : ℕ) (r : Result ⊤ No)
    → before ≡ after ++ dev ∷ [] → t ≡ Some n → all_released n who before ≡ all_released m who first
    → r ≢ Err NoMem → IfSome t (λ k. Answers (ev_close_of k dev who) k r t')
    → (k : Machine) × (t' ≡ Some k) × (all_released k who after ≡ all_released m who first)
releasing_one m n t t' who first before after dev r split told same some close = search (rules, released_last)

pub releasing_more : (told t t' : Option Machine) (who : ℕ) (first before after : List ℕ) (dev : ℕ) (r : Result ⊤ No)
    → before ≡ after ++ dev ∷ []
    → IfSome told (λ m. (n : Machine) × (t ≡ Some n) × (all_released n who before ≡ all_released m who first))
    → r ≢ Err NoMem → IfSome t (λ k. Answers (ev_close_of k dev who) k r t')
    → IfSome told (λ m. (n : Machine) × (t' ≡ Some n) × (all_released n who after ≡ all_released m who first))
releasing_more told t t' who first before after dev r split inv some close = search (rules, releasing_one)

pub read_nowhere : (front : Front) (dev asked : ℕ) (a : State) → place_of dev a.client.seats ≡ None → ReadServedAt front dev asked a a (Refusal EBADF)
read_nowhere front dev asked a at = search rules

pub opens : (front : Front) (told told' : Option Machine) (client client' : ClientRecord) (dev samples : ℕ) (text : List ℕ) (cyclic is_open plugged : Bool)
    (shape : ShapeRecord) (buffers : ℕ) (w : CodeWanted) (reply : Reply)
    → is_open ≡ is_some (place_of dev client.seats) → IfSome told (λ m. plugged ≡ is_plugged m dev) → shape ≡ shape_at front dev
    → buffers ≡ buffers_of dev client.buffers
    → Ok (wanted_of_code w) ≡ wanted_of is_open plugged (kind_at front dev) shape buffers samples text cyclic
    → IfSome told (λ m. Comes m client (joined_at front m client dev (wanted_of_code w) cyclic) reply told' client')
    → IfSome told (λ m. Comes m client (open_at front m client dev samples text cyclic) reply told' client')
opens front told told' client client' dev samples text cyclic is_open plugged shape buffers w reply e0 e1 e2 e3 e c = search rules

pub refuses : (front : Front) (told : Option Machine) (client : ClientRecord) (dev samples : ℕ) (text : List ℕ) (cyclic is_open plugged : Bool)
    (shape : ShapeRecord) (buffers : ℕ) (errno : Errno)
    → is_open ≡ is_some (place_of dev client.seats) → IfSome told (λ m. plugged ≡ is_plugged m dev) → shape ≡ shape_at front dev
    → buffers ≡ buffers_of dev client.buffers
    → Err errno ≡ wanted_of is_open plugged (kind_at front dev) shape buffers samples text cyclic
    → IfSome told (λ m. Comes m client (open_at front m client dev samples text cyclic) (Refusal errno) told client)
refuses front told client dev samples text cyclic is_open plugged shape buffers errno e0 e1 e2 e3 e = search rules

-- an OPEN by what it asks for, at the shape and the buffers count that the code found
pub opens_by : (front : Front) (dev samples : ℕ) (text : List ℕ) (cyclic : Bool) (a b : State) (shape : ShapeRecord) (buffers : ℕ) (x : Wanted)
    (r : Result ⊤ No)
    → shape ≡ shape_at front dev → buffers ≡ buffers_of dev a.client.buffers → IsWanted (kind_at front dev) shape buffers samples text cyclic x
    → MovesBy (JoinsAt dev x) a r b → MovesBy (OpensAt front dev samples text cyclic) a r b
opens_by front dev samples text cyclic a b shape buffers x r e n w j = search rules
