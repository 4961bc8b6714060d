-- The scans that the seats gave are those that were answered.
use Rattle.std.proofs.Common.{◌≡◌, ℕ, suc, zero, ◌==◌, Bool, true, false, List, [], ◌∷◌, ◌++◌, length, refl, sym, ap, ◌∙◌, Option, Some, None, option_map, Ok, arith, ℤ, rules}
use Rattle.std.proofs.lemmas.Grind.{common_steps}
use Rattle.std.proofs.lemmas.Bool.{eqb-true}
use Rattle.std.specs.Prelude.{if◌then◌else◌, remove, slice_get, slice_set}
use Rattle.std.proofs.Math.ListN.{length-set}
use Rattle.iio_text.specs.declared.errors.Errno.{Errno}
use Rattle.iiod_grammar.specs.Command.{Open, Close, ReadBuf, Remask, SetBuffers, EvOpen, EvClose}
use Rattle.iiod_grammar.specs.Stream.{Item, Said, End}
use Rattle.iiod_reply.specs.Reply.{Reply, Number, Refusal, NoMemory}
use Rattle.iiod_commands.specs.declared.client.Client.{Client}
use Rattle.iiod_commands.specs.declared.manner.Manner.{Manner}
use Rattle.iiod_commands.specs.Client.{SeatState, ClientRecord, IsClient, State, seat_state_remasked, seats_of, traces_of, has_seat, place_of}
use Rattle.iio_core.specs.Front.{Front, find_device}
use Rattle.iiod_session.specs.Given.{GivenIs, given_after, given_by, given_in, is_named, trace_at}
use Rattle.iiod_commands.specs.Moves.{Moves, ReadMoves, ReadsAt, ReadsBy, ReadsFrom}
use Rattle.iiod_session.specs.Run.{Run}
use Rattle.iiod_commands.specs.Seat.{SeatRecord, Trace, first_trace}
use Rattle.iiod_commands.proofs.ApartLaws.{AreApart, IsFirst, apart_by, apart_kept, apart_last, apart_under, none_has, place_first}

-- no two seats are at one device, and each has its trace
pub record AreSeated (seats : List SeatState) (traces : List (Option Trace)) : Type 0 where
  pub apart : AreApart seats
  pub told : length traces ≡ length seats

module _ {S : Type 0} (seen : S → SeatRecord) where
  -- the seats of a connection are apart, and each has its trace
  pub seated : (front : Front) (d : Client S) → IsClient seen front d → AreSeated (seats_of seen d.held.items) (traces_of seen d.held.items)
  seated front d is = grind (arith, common_steps, apart_by)

-- ---- one more seat

trace_last : (dev : ℕ) (seats : List SeatState) (traces : List (Option Trace)) (s : SeatState) (t : Option Trace) → length traces ≡ length seats
    → has_seat dev seats ≡ false
    → trace_at dev (seats ++ s ∷ []) (traces ++ t ∷ []) ≡ (if s.dev == dev then t else None)
trace_last dev [] [] s t l h = refl
trace_last dev [] (y ∷ ys) s t l h = absurd (omega arith)
trace_last dev (x ∷ xs) [] s t l h = absurd (omega arith)
trace_last dev (x ∷ xs) (y ∷ ys) s t l h = by (λ none. trace_last dev xs ys s t (omega arith) none) (x.dev == dev) refl
  where
    by : (has_seat dev xs ≡ false → trace_at dev (xs ++ s ∷ []) (ys ++ t ∷ []) ≡ (if s.dev == dev then t else None)) → (b : Bool) → (x.dev == dev) ≡ b
        → trace_at dev ((x ∷ xs) ++ s ∷ []) ((y ∷ ys) ++ t ∷ []) ≡ (if s.dev == dev then t else None)
    by rest b e = search rules

trace_before : (dev : ℕ) (seats : List SeatState) (traces : List (Option Trace)) (s : SeatState) (t : Option Trace) → length traces ≡ length seats
    → (s.dev == dev) ≡ false
    → trace_at dev (seats ++ s ∷ []) (traces ++ t ∷ []) ≡ trace_at dev seats traces
trace_before dev [] [] s t l n = rw n refl
trace_before dev [] (y ∷ ys) s t l n = absurd (omega arith)
trace_before dev (x ∷ xs) [] s t l n = absurd (omega arith)
trace_before dev (x ∷ xs) (y ∷ ys) s t l n = ap (λ z. if x.dev == dev then y else z) (trace_before dev xs ys s t (omega arith) n)

-- ---- one seat fewer

no_trace : (dev : ℕ) (seats : List SeatState) (traces : List (Option Trace)) → has_seat dev seats ≡ false → trace_at dev seats traces ≡ None
no_trace dev [] traces h = refl
no_trace dev (x ∷ xs) [] h = refl
no_trace dev (x ∷ xs) (y ∷ ys) h = by (λ none. no_trace dev xs ys none) (x.dev == dev) refl
  where
    by : (has_seat dev xs ≡ false → trace_at dev xs ys ≡ None) → (b : Bool) → (x.dev == dev) ≡ b → trace_at dev (x ∷ xs) (y ∷ ys) ≡ None
    by rest b e = search rules

same_test : (a b c : ℕ) → (a == b) ≡ true → (a == c) ≡ (b == c)
same_test a b c e = ap (λ n. n == c) (eqb-true a b e)

trace_gone : (k dev i : ℕ) (seats : List SeatState) (traces : List (Option Trace)) → IsFirst k seats i → AreApart seats → (k == dev) ≡ true
    → trace_at dev (remove seats i) (remove traces i) ≡ None
trace_gone k dev i [] traces f a e = absurd f
trace_gone k dev zero (x ∷ xs) [] f a e = none_left xs
  where
    none_left : (xs : List SeatState) → trace_at dev xs [] ≡ None
    none_left [] = refl
    none_left (y ∷ ys) = refl
trace_gone k dev zero (x ∷ xs) (y ∷ ys) f a e = no_trace dev xs ys (ap (λ n. has_seat n xs) (sym (eqb-true k dev e) ∙ sym (eqb-true x.dev k f)) ∙ a.0)
trace_gone k dev (suc i) (x ∷ xs) [] f a e = refl
trace_gone k dev (suc i) (x ∷ xs) (y ∷ ys) f a e = rw (ap (λ n. x.dev == n) (sym (eqb-true k dev e)) ∙ f.0) (trace_gone k dev i xs ys f.1 a.1 e)

trace_kept : (k dev i : ℕ) (seats : List SeatState) (traces : List (Option Trace)) → IsFirst k seats i → (k == dev) ≡ false
    → trace_at dev (remove seats i) (remove traces i) ≡ trace_at dev seats traces
trace_kept k dev i [] traces f e = absurd f
trace_kept k dev zero (x ∷ xs) [] f e = none_left xs
  where
    none_left : (xs : List SeatState) → trace_at dev xs [] ≡ None
    none_left [] = refl
    none_left (y ∷ ys) = refl
trace_kept k dev zero (x ∷ xs) (y ∷ ys) f e = rw (same_test x.dev k dev f ∙ e) refl
trace_kept k dev (suc i) (x ∷ xs) [] f e = refl
trace_kept k dev (suc i) (x ∷ xs) (y ∷ ys) f e = ap (λ z. if x.dev == dev then y else z) (trace_kept k dev i xs ys f.1 e)

length_kept : (i : ℕ) (seats : List SeatState) (traces : List (Option Trace)) → length traces ≡ length seats
    → length (remove traces i) ≡ length (remove seats i)
length_kept i [] [] l = grind (arith, common_steps)
length_kept i [] (y ∷ ys) l = absurd (omega arith)
length_kept i (x ∷ xs) [] l = absurd (omega arith)
length_kept zero (x ∷ xs) (y ∷ ys) l = omega arith
length_kept (suc i) (x ∷ xs) (y ∷ ys) l = let more : length (remove ys i) ≡ length (remove xs i) = length_kept i xs ys (omega arith) in omega arith

-- ---- a seat that is read

trace_set : (k dev i : ℕ) (seats : List SeatState) (traces : List (Option Trace)) (trace trace' : Option Trace) → IsFirst k seats i
    → slice_get traces i ≡ Some trace
    → (k == dev) ≡ true
    → (trace_at dev seats traces ≡ trace) × (trace_at dev seats (slice_set traces i trace') ≡ trace')
trace_set k dev i [] traces trace trace' f g e = absurd f
trace_set k dev zero (x ∷ xs) [] trace trace' f g e = cc
trace_set k dev (suc i) (x ∷ xs) [] trace trace' f g e = cc
trace_set k dev zero (x ∷ xs) (y ∷ ys) trace trace' f g e = let here : (x.dev == dev) ≡ true = same_test x.dev k dev f ∙ e in (rw here (cc), rw here refl)
trace_set k dev (suc i) (x ∷ xs) (y ∷ ys) trace trace' f g e = search (rules, trace_set k dev i xs ys trace trace' f.1 g e)

trace_other : (k dev i : ℕ) (seats : List SeatState) (traces : List (Option Trace)) (trace' : Option Trace) → IsFirst k seats i → (k == dev) ≡ false
    → trace_at dev seats (slice_set traces i trace') ≡ trace_at dev seats traces
trace_other k dev i [] traces trace' f e = absurd f
trace_other k dev zero (x ∷ xs) [] trace' f e = refl
trace_other k dev (suc i) (x ∷ xs) [] trace' f e = refl
trace_other k dev zero (x ∷ xs) (y ∷ ys) trace' f e = rw (same_test x.dev k dev f ∙ e) refl
trace_other k dev (suc i) (x ∷ xs) (y ∷ ys) trace' f e = ap (λ z. if x.dev == dev then y else z) (trace_other k dev i xs ys trace' f.1 e)

-- ---- one item

-- the trace at a device is what was given of it
abbrev pub IsTold : (given : ℕ → List (List ℕ)) → List SeatState → List (Option Trace) → Type 0
IsTold given seats traces = (dev : ℕ) (t : Trace) → trace_at dev seats traces ≡ Some t → t.given ≡ given dev

-- an item keeps that
abbrev Keeps : Front → Item → Reply → List SeatState → List (Option Trace) → List SeatState → List (Option Trace) → Type 0
Keeps front item reply seats traces seats' traces' =
    AreSeated seats' traces'
    × ((given : ℕ → List (List ℕ)) → IsTold given seats traces → IsTold (λ dev. given_by front dev item reply (given dev)) seats' traces')

named_is : (front : Front) (device : List ℕ) (k dev : ℕ) → find_device front device ≡ Some k → is_named front device dev ≡ (k == dev)
named_is front device k dev e = rw e refl

-- nothing changes at the seats
same : (front : Front) (item : Item) (reply : Reply) (seats seats' : List SeatState) (traces traces' : List (Option Trace)) → seats' ≡ seats → traces' ≡ traces
    → ((dev : ℕ) (g : List (List ℕ)) → given_by front dev item reply g ≡ g) → AreSeated seats traces → Keeps front item reply seats traces seats' traces'
same front item reply seats seats' traces traces' s t gives a = search rules

-- a seat that begins has given nothing
none_given : (y : Option Trace) (x : Trace) → y ≡ option_map (λ (z : Trace). first_trace) y → y ≡ Some x → x.given ≡ []
none_given y x f e = cc

opened : (front : Front) (device text : List ℕ) (samples : ℕ) (cyclic : Bool) (n : ℤ) (s : SeatState) (t : Option Trace) (seats : List SeatState)
    (traces : List (Option Trace))
    → find_device front device ≡ Some s.dev → place_of s.dev seats ≡ None → t ≡ option_map (λ (x : Trace). first_trace) t → AreSeated seats traces
    → Keeps front (Said (Ok (Open device samples text cyclic))) (Number n) seats traces (seats ++ s ∷ []) (traces ++ t ∷ [])
opened front device text samples cyclic n s t seats traces named free fresh a =
    grind (arith, common_steps, apart_last, none_has, given_by, has_seat, trace_last, trace_before)

closed : (front : Front) (device : List ℕ) (n : ℤ) (k i : ℕ) (seats : List SeatState) (traces : List (Option Trace)) → place_of k seats ≡ Some i
    → AreSeated seats traces
    → Keeps front (Said (Ok (Close device))) (Number n) seats traces (remove seats i) (remove traces i)
closed front device n k i seats traces at a = (
  record { apart = apart_kept i seats a.apart; told = length_kept i seats traces a.told },
  λ given is dev x e. by given is dev x e (k == dev) refl,
)
  where
    by : (given : ℕ → List (List ℕ)) → IsTold given seats traces → (dev : ℕ) (x : Trace) → trace_at dev (remove seats i) (remove traces i) ≡ Some x → (b : Bool)
        → (k == dev) ≡ b → x.given ≡ given dev
    by given is dev x e true here = let n : None ≡ Some x = sym (trace_gone k dev i seats traces (place_first k seats i at) a.apart here) ∙ e in cc
    by given is dev x e false here = is dev x (sym (trace_kept k dev i seats traces (place_first k seats i at) here) ∙ e)

-- ---- REMASK

trace_under : (dev i : ℕ) (seats : List SeatState) (traces : List (Option Trace)) (s s' : SeatState) → slice_get seats i ≡ Some s → s'.dev ≡ s.dev
    → trace_at dev (slice_set seats i s') traces ≡ trace_at dev seats traces
trace_under dev i [] traces s s' here same = cc
trace_under dev zero (x ∷ xs) [] s s' here same = refl
trace_under dev (suc i) (x ∷ xs) [] s s' here same = refl
trace_under dev zero (x ∷ xs) (t ∷ ts) s s' here same = cc
trace_under dev (suc i) (x ∷ xs) (t ∷ ts) s s' here same = ap (λ (z : Option Trace). if x.dev == dev then t else z) (trace_under dev i xs ts s s' here same)

-- the trace of a seat
trace_beside : (i : ℕ) (seats : List SeatState) (traces : List (Option Trace)) (s : SeatState) → length traces ≡ length seats → slice_get seats i ≡ Some s
    → (t : Option Trace) × (slice_get traces i ≡ Some t)
trace_beside i [] traces s long here = cc
trace_beside i (x ∷ xs) [] s long here = absurd (omega (arith, long))
trace_beside zero (x ∷ xs) (t ∷ ts) s long here = (t, refl)
trace_beside (suc i) (x ∷ xs) (t ∷ ts) s long here = trace_beside i xs ts s (omega (arith, long)) here

remasked : (front : Front) (device text : List ℕ) (n : ℤ) (i : ℕ) (s s' : SeatState) (t : Option Trace) (seats : List SeatState) (traces : List (Option Trace))
    → find_device front device ≡ Some s.dev → place_of s.dev seats ≡ Some i → slice_get seats i ≡ Some s → s'.dev ≡ s.dev
    → t ≡ option_map (λ (x : Trace). first_trace) t → AreSeated seats traces
    → Keeps front (Said (Ok (Remask device text))) (Number n) seats traces (slice_set seats i s') (slice_set traces i t)
remasked front device text n i s s' t seats traces named at here dev_same fresh a = (
  record { apart = apart_under i seats s s' here dev_same a.apart; told = length-set traces i t ∙ a.told ∙ sym (length-set seats i s') },
  λ given is dev x e. by given is dev x (sym (trace_under dev i seats (slice_set traces i t) s s' here dev_same) ∙ e) (s.dev == dev) refl,
)
  where
    by : (given : ℕ → List (List ℕ)) → IsTold given seats traces → (dev : ℕ) (x : Trace) → trace_at dev seats (slice_set traces i t) ≡ Some x
        → (b : Bool) → (s.dev == dev) ≡ b → x.given ≡ given_by front dev (Said (Ok (Remask device text))) (Number n) (given dev)
    by given is dev x e true own =
        let beside = trace_beside i seats traces s a.told here in
        let both = trace_set s.dev dev i seats traces beside.0 t (place_first s.dev seats i at) beside.1 own in
        rw (named, own) (none_given t x fresh (sym both.1 ∙ e))
    by given is dev x e false other =
        rw (named, other) (is dev x (sym (trace_other s.dev dev i seats traces t (place_first s.dev seats i at) other) ∙ e))

-- ---- READBUF

at_seat : (front : Front) (device : List ℕ) (s : SeatState) (asked dev : ℕ) (reply : Reply) (g : List (List ℕ)) (trace trace' : Option Trace)
    → is_named front device dev ≡ true
    → ReadMoves front s asked reply trace trace' → ((x : Trace) → trace ≡ Some x → x.given ≡ g) → (x : Trace) → trace' ≡ Some x
    → x.given ≡ given_by front dev (Said (Ok (ReadBuf device asked))) reply g
at_seat front device s asked dev reply g trace trace' named r is x e = search rules

-- at another device
not_named : (front : Front) (device : List ℕ) (asked dev : ℕ) (reply : Reply) (g : List (List ℕ)) → is_named front device dev ≡ false
    → given_by front dev (Said (Ok (ReadBuf device asked))) reply g ≡ g
not_named front device asked dev reply g n = search rules

read_at : (front : Front) (device : List ℕ) (asked k i : ℕ) (reply : Reply) (seats : List SeatState) (traces traces' : List (Option Trace))
    → find_device front device ≡ Some k → place_of k seats ≡ Some i
    → ReadsAt front asked seats traces i reply traces' → AreSeated seats traces
    → Keeps front (Said (Ok (ReadBuf device asked))) reply seats traces seats traces'
read_at front device asked k i reply seats traces traces' named at r a = rw r.after (
  record { apart = a.apart; told = length-set traces i r.trace' ∙ a.told },
  λ given is dev x e. by given is dev x e (k == dev) refl,
)
  where
    by : (given : ℕ → List (List ℕ)) → IsTold given seats traces → (dev : ℕ) (x : Trace) → trace_at dev seats (slice_set traces i r.trace') ≡ Some x
        → (b : Bool)
        → (k == dev) ≡ b
        → x.given ≡ given_by front dev (Said (Ok (ReadBuf device asked))) reply (given dev)
    by given is dev x e true here =
        let both = trace_set k dev i seats traces r.trace r.trace' (place_first k seats i at) r.before here in
        at_seat front device r.s asked dev reply (given dev) r.trace r.trace' (named_is front device k dev named ∙ here) r.reads (λ y f. is dev y (both.0 ∙ f))
        x
        (sym both.1 ∙ e)
    by given is dev x e false here =
        is dev x (sym (trace_other k dev i seats traces r.trace' (place_first k seats i at) here) ∙ e)
        ∙ sym (not_named front device asked dev reply (given dev) (named_is front device k dev named ∙ here))

read_by : (front : Front) (device : List ℕ) (asked k : ℕ) (place : Option ℕ) (reply : Reply) (seats : List SeatState) (traces traces' : List (Option Trace))
    → find_device front device ≡ Some k → place_of k seats ≡ place
    → ReadsBy front asked seats traces place reply traces' → AreSeated seats traces
    → Keeps front (Said (Ok (ReadBuf device asked))) reply seats traces seats traces'
read_by front device asked k place reply seats traces traces' named at r a = grind (arith, common_steps, read_at)

read_from : (front : Front) (device : List ℕ) (asked : ℕ) (dev : Option ℕ) (reply : Reply) (seats : List SeatState) (traces traces' : List (Option Trace))
    → find_device front device ≡ dev
    → ReadsFrom front asked seats traces dev reply traces' → AreSeated seats traces
    → Keeps front (Said (Ok (ReadBuf device asked))) reply seats traces seats traces'
read_from front device asked dev reply seats traces traces' named r a = grind (arith, common_steps, read_by)

-- ---- any item

seats_in : (client client' : ClientRecord) → client' ≡ client → client'.seats ≡ client.seats
seats_in client client' e = ap (λ (d : ClientRecord). d.seats) e

moved : (front : Front) (a b : State) (item : Item) (reply : Reply) → AreSeated a.client.seats a.traces → Moves front a item reply b
    → Keeps front item reply a.client.seats a.traces b.client.seats b.traces
moved front a b (Said (Ok (Open device samples text cyclic))) (Number n) s m =
    let joined = m.moves.2 in
    rw (ap (λ (d : ClientRecord). d.seats) joined.added, joined.told)
    (opened front device text samples cyclic n _ joined.t a.client.seats a.traces m.named joined.free joined.fresh s)
moved front a b (Said (Ok (Close device))) (Number n) s m =
    rw (ap (λ (d : ClientRecord). d.seats) m.moves.gone, m.moves.told) (closed front device n m.dev m.moves.i a.client.seats a.traces m.moves.at s)
moved front a b (Said (Ok (Remask device text))) (Number n) s m =
    let under = m.moves in
    rw (ap (λ (d : ClientRecord). d.seats) under.under, under.told)
    (remasked front device text n under.i under.s (seat_state_remasked under.mask under.waiting under.s) under.t a.client.seats a.traces
    (m.named ∙ ap (λ (k : ℕ). Some k) (sym under.its))
    (ap (λ (k : ℕ). place_of k a.client.seats) under.its ∙ under.at) under.here refl under.fresh s)
moved front a b (Said (Ok (ReadBuf device asked))) NoMemory s m = search rules
moved front a b (Said (Ok (ReadBuf device asked))) reply s m =
    rw (seats_in a.client b.client m.0) (read_from front device asked (find_device front device) reply a.client.seats a.traces b.traces refl m.1 s)
moved front a b (Said (Ok (SetBuffers device n))) (Number z) s m = search rules
moved front a b (Said (Ok (EvOpen device))) (Number z) s m = search rules
moved front a b (Said (Ok (EvClose device))) (Number z) s m = search rules
moved front a b (End error) reply s m = search rules
moved front a b item reply s m = same front item reply _ _ _ _ (seats_in a.client b.client m.0) m.1 (λ dev g. refl) s

-- ---- a whole feed

pub run_gives : (manner : Manner) (front : Front) (a b : State) (items : List Item) (replies : List Reply) → Run manner front a items replies b
    → AreSeated a.client.seats a.traces
    → AreSeated b.client.seats b.traces
    × ((given : ℕ → List (List ℕ)) → IsTold given a.client.seats a.traces
    → IsTold (λ dev. given_after front dev items replies (given dev)) b.client.seats b.traces)
run_gives manner front a b [] [] r s = rw r (s, λ given is dev x e. is dev x e)
run_gives manner front a b [] (y ∷ ys) r s = absurd r
run_gives manner front a b (x ∷ xs) [] r s = absurd r
run_gives manner front a b (x ∷ xs) (y ∷ ys) r s =
    let one = moved front a r.0 x y s r.1.served.moves in
    let more = run_gives manner front r.0 b xs ys r.2 one.0 in
    (more.0, λ given is. more.1 (λ dev. given_by front dev x y (given dev)) (one.1 given is))

first_told : (seats : List SeatState) (traces : List (Option Trace)) → IsTold (λ dev. given_in (trace_at dev seats traces)) seats traces
first_told seats traces dev t e = ap (λ (x : Option Trace). given_in x) (sym e)

pub gives : (manner : Manner) (front : Front) (a b : State) (items : List Item) (replies : List Reply) → Run manner front a items replies b
    → AreSeated a.client.seats a.traces
    → GivenIs front items replies a b
gives manner front a b items replies r s =
    (run_gives manner front a b items replies r s).1 (λ dev. given_in (trace_at dev a.client.seats a.traces)) (first_told a.client.seats a.traces)

-- a READBUF that finds nothing gives nothing
none_gives : (front : Front) (dev : ℕ) (item : Item) (e : Errno) (g : List (List ℕ)) → given_by front dev item (Refusal e) g ≡ g
none_gives front dev item e g = search rules

pub waiting_gives : (front : Front) (items : List Item) (replies : List Reply) (o a b : State) (item : Item) (e : Errno)
    → Moves front a item (Refusal e) b → AreSeated a.client.seats a.traces → GivenIs front items replies o a → GivenIs front items replies o b
waiting_gives front items replies o a b item e m s g dev x at =
    (moved front a b item (Refusal e) s m).1 (λ k. given_after front k items replies (given_in (trace_at k o.client.seats o.traces))) g dev x at
    ∙ none_gives front dev item e _
