-- What happens to a bench besides the calls of connections is what the history says.
use Rattle.std.proofs.Common.{◌≡◌, ℕ, zero, suc, ◌+◌, ◌-◌, ◌^◌, ◌<◌, ◌≤◌, ℤ, Bool, true, false, not, List, [], ◌∷◌, ◌++◌, map, length, codes, slice_get, slice_index_or, Option, Some, refl, sym, ap, ◌∙◌, subst, arith, rules}
use Rattle.std.specs.Prelude.{◌&&◌, All, unwrap_or}
use Rattle.std.specs.Option.{option_map_or}
use Rattle.std.specs.Fmt.{signed_decimal}
use Rattle.std.proofs.lemmas.Bool.Decides.{nat_tests}
use Rattle.iio_sensor.specs.Driver.{Driver}
use Rattle.iio_trigger.specs.declared.Polled.{Polled as Answer}
use Rattle.iio_desc.specs.Description.{device_name as desc_device_name, trigger_name as desc_trigger_name}
use Rattle.iio_desc.specs.Kind.{is_average}
use Rattle.iio_device.specs.declared.handling.Sensed.{Sensed as Look}
use Rattle.iio_device.specs.declared.handling.Sensed.TheVariants as sense
use Rattle.iio_device.specs.declared.plug.Plug.{Plug}
use Rattle.iio_device.specs.Site.{at_place}
use Rattle.iiod_commands.specs.Client.{ClientRecord}
use Rattle.iio_core.specs.Front.{Front, device_name, kind_at, shape_at, trigger_name}
use Rattle.iio_core.specs.Machine.{Machine, Member, Station, is_plugged, station_at}
use Rattle.iiod_commands.specs.Seat.{SeatRecord}
use Rattle.iio_history.specs.Event.{Event, Clock, Handled, Polled, Sensed, Unplugged}
use Rattle.iio_history.specs.Registry.{Registry, Setup}
use Rattle.iio_core.specs.Moves.{entry_answer, kind_sensed, machine_after_handling, machine_after_look, machine_after_unplugging, entry_in, machine_after_poll, polled_answer}
use Rattle.iio_history.specs.Told.{Line, Told, registry_of}
use Rattle.iio_history.specs.Machine.{line_after, step}
use Rattle.iio_history.specs.Transcript.{Sense, SetClock, Unplug, event_text, printed}
use Rattle.iio_history.specs.Bench.{Every, IsBench, IsClientOf, IsStep, front_of, is_in, machine_of, names_of}
use Rattle.iio_history.specs.BenchLaw.{IsOthers}
use Rattle.iio_history.specs.BenchMoves.{entry_word, moved_text, next_bytes}
use Rattle.iio_history.proofs.BenchKept.{bench_kept}
use Rattle.iio_history.proofs.BenchMoves.{clock_is, handling_is, look_is, moves_print, poll_is, unplugging_is}
use Rattle.iio_history.proofs.BenchOthers.{clients_are_kept}
use Rattle.iio_bench.specs.declared.bench.Bench.{Bench}
use Rattle.iio_bench.specs.declared.connection.Connection.{Connection}
use Rattle.iio_kinds.specs.declared.seat.Seat.{Seat}
use Rattle.iio_bench.specs.Bench.{front_of as bench_front, machine_of as bench_machine}
use Rattle.iio_core.specs.declared.became.Became.{Became}
use Rattle.iio_core.specs.declared.became.Gave.TheVariants as gave
use Rattle.iio_kinds.specs.Handling.{IsRoom, counted, is_last}
use Rattle.iio_history.specs.Words.{became_word, polled_words, sensed_words, unplugged_word}
use Rattle.iio_system.specs.Standing.{CanCapture, Holds, Makes, RiseBy, step_state}
use Rattle.iio_system.specs.System.{AreLines}
use Rattle.iio_system.proofs.LineLaws.{SameLine, every_line_there, served_moves}
use Rattle.iio_bench.proofs.ListLemmas.{length_map_is}

-- ---- events that are no connection's

abbrev pub IsOfBench : Event → Type 0
IsOfBench (Polled trigger moment) = Unit {0}
IsOfBench (Handled trigger device) = Unit {0}
IsOfBench (Sensed device moment) = Unit {0}
IsOfBench (Clock moment) = Unit {0}
IsOfBench (Unplugged device) = Unit {0}
IsOfBench e = ⊥

is_others : (name : List ℕ) (e : Event) → IsOfBench e → IsOthers name e
is_others name e is = search rules

is_step : (names : List (List ℕ)) (e : Event) → IsOfBench e → IsStep names e
is_step names e is = search rules

same_line : (s : Setup) (r : Registry) (e : Event) (l : Line) → IsOfBench e → SameLine l (line_after s r e l)
same_line s r e l is = search rules

clients_stay : (s : Setup) (m : Told) (e : Event) (ls : List Line) → IsOfBench e → Every (λ (l : Line). is_in (names_of m) l.user.who ≡ true) ls
    → Every (λ (l : Line). (client : ClientRecord) → IsClientOf m l.user.who client → IsClientOf (step s m e) l.user.who client) ls
clients_stay s m e [] is there = tt
clients_stay s m e (l ∷ ls) is there = search (rules, clients_are_kept, is_others, clients_stay s m e ls is there.1)

module _ {S : Type 0} (seen : S → SeatRecord) where
  -- one step of all lines
  all_move : (front : Front) (m m' : Told) (f : Line → Line) (ls : List Line) (cs : List (Connection S)) → ((l : Line) → SameLine l (f l))
      → Every (λ (l : Line). (client : ClientRecord) → IsClientOf m l.user.who client → IsClientOf m' l.user.who client) ls
      → AreLines seen front m ls cs → AreLines seen front m' (map f ls) cs
  all_move front m m' f [] [] same clients are = tt
  all_move front m m' f [] (c ∷ cs) same clients are = absurd are
  all_move front m m' f (l ∷ ls) [] same clients are = absurd are
  all_move front m m' f (l ∷ ls) (c ∷ cs) same clients are = search (rules, served_moves, all_move front m m' f ls cs same clients.1 are.1)

  pub lines_move : (s : Setup) (m : Told) (front : Front) (e : Event) (cs : List (Connection S)) → IsOfBench e → AreLines seen front m m.lines cs
      → AreLines seen front (step s m e) (step s m e).lines cs
  lines_move s m front e cs is are =
      let lines : (step s m e).lines ≡ map (line_after s (registry_of m) e) m.lines
      = search rules in
      subst (λ (ls : List Line). AreLines seen front (step s m e) ls cs) (sym lines)
      (all_move front m (step s m e) (line_after s (registry_of m) e) m.lines cs (λ l. same_line s (registry_of m) e l is)
      (clients_stay s m e m.lines is (every_line_there m)) are)

-- ---- lists

there_is : {A : Type 0} (xs : List A) (i : ℕ) (d : A) → i < length xs → slice_get xs i ≡ Some (unwrap_or (slice_get xs i) d)
there_is [] i d less = absurd (omega (arith, less))
there_is (x ∷ xs) zero d less = refl
there_is (x ∷ xs) (suc i) d less = there_is xs i d (omega (arith, less))

-- ---- names

pub trigger_told : (s : Setup) (front : Front) (trigger : ℕ) → front ≡ front_of s → trigger_name front trigger ≡ desc_trigger_name s.desc trigger
unfolding trigger_name
trigger_told s front trigger same = ap (λ (x : Front). trigger_name x trigger) same

pub device_told : (s : Setup) (front : Front) (dev : ℕ) → front ≡ front_of s → device_name front dev ≡ desc_device_name s.desc dev
unfolding device_name
device_told s front dev same = ap (λ (x : Front). device_name x dev) same

-- ---- words

-- what an output device was given is what it would have been given
room_word : (answer : Option Became) (members : List Member) (room : List ℕ) → IsRoom answer members room
    → became_word answer room ≡ became_word answer (next_bytes members)
room_word answer members room is = search rules

-- ---- captures

-- captures that haven't come to their end
pub not_ended : (captures : List ℕ) (dev : ℕ) → All (λ n. n < 2 ^ 64 - 1) captures → option_map_or is_last (slice_get captures dev) false ≡ false
not_ended [] dev all = refl
not_ended (n ∷ ns) zero all = let h = all 0 0 (omega arith) in grind (arith, nat_tests)
not_ended (n ∷ ns) (suc dev) all = not_ended ns dev (λ i d less. all (suc i) d (omega (arith, less)))

pub no_end : (captures : List ℕ) (dev : ℕ) → CanCapture captures → option_map_or is_last (slice_get captures dev) false ≡ false
no_end captures dev can = not_ended captures dev (λ i d less. let h = can i d less in omega (arith, h))

counted_most : (o : Option Became) (n : ℕ) → counted o n ≤ n + 1
counted_most o n = search rules

place_most : (f : ℕ → ℕ) (dev n : ℕ) (ns : List ℕ) → ((c : ℕ) → f c ≤ c + 1) → All (λ c. c ≤ n) ns → (i d : ℕ) → i < length (at_place dev f ns)
    → slice_index_or (at_place dev f ns) i d ≤ n + 1
place_most f dev n [] most all i d less = absurd (omega (arith, less))
place_most f zero n (c ∷ ns) most all zero d less = let h = all 0 d (omega arith) in let k = most c in omega (arith, h, k)
place_most f zero n (c ∷ ns) most all (suc i) d less = let h = all (suc i) d less in omega (arith, h)
place_most f (suc dev) n (c ∷ ns) most all zero d less = let h = all 0 d (omega arith) in omega (arith, h)
place_most f (suc dev) n (c ∷ ns) most all (suc i) d less = place_most f dev n ns most (λ j e l. all (suc j) e (omega (arith, l))) i d (omega (arith, less))

pub rise_counted : (o : Option Became) (dev : ℕ) (old new : List ℕ) → new ≡ at_place dev (counted o) old → RiseBy 1 old new
rise_counted o dev old new same =
    λ n all i d less. rw same (place_most (counted o) dev n old (counted_most o) all i d (subst (λ (ns : List ℕ). i < length ns) same less))

pub rise_more : (j k : ℕ) (old new : List ℕ) → j ≤ k → RiseBy j old new → RiseBy k old new
rise_more j k old new less rise = λ n all i d within. let h = rise n all i d within in omega (arith, h, less)

-- ---- one event

module _ (s : Setup) (m : Told) (e : Event) where
  -- the line of an event
  one_line : (text before after : List ℕ) → IsBench s m → IsOfBench e → text ≡ moved_text s (machine_of m) e → after ≡ before ++ text
      → after ≡ before ++ (event_text s m e ++ [])
  one_line text before after bench is words line = search (rules, moves_print)

module _ {X : Type 0} {V : X → Type 0} (driver : Plug X V → Driver) where
  -- the devices as the told state has them
  pub machine_told : (s : Setup) (m : Told) (b : Bench X V) (cs : List (Connection Seat)) → Holds driver s m b cs → bench_machine driver b ≡ machine_of m
  machine_told s m b cs h = let same : Some (bench_machine driver b) ≡ Some (machine_of m) = h.told_is in cc

  pub holds_then : (s : Setup) (m : Told) (e : Event) (b b' : Bench X V) (cs : List (Connection Seat)) → IsOfBench e → Holds driver s m b cs
      → bench_front b' ≡ bench_front b
      → bench_machine driver b' ≡ machine_of (step s m e) → Holds driver s (step s m e) b' cs
  holds_then s m e b b' cs is h front told = record {
    front_is = front ∙ h.front_is;
    told_is = ap (λ (x : Machine). Some x) told;
    bench = bench_kept s m e (is_step (names_of m) e is) h.bench;
    lines = search (rules, lines_move);
  }

  -- ---- the clock

  pub clock_makes : (t : ℤ) (b b' : Bench X V) (cs : List (Connection Seat)) (before after : List ℕ) → bench_front b' ≡ bench_front b
      → bench_machine driver b' ≡ record (bench_machine driver b) { clock = t }
      → after ≡ before ++ printed (codes "clock" ∷ signed_decimal t ∷ []) → Makes driver (SetClock t) (step_state b cs before) (step_state b' cs after)
  clock_makes t b b' cs before after front told line = λ s m h. (
    one_line s m (Clock t) _ before after h.bench tt refl line,
    holds_then s m (Clock t) b b' cs tt h front (told ∙ ap (λ (x : Machine). record x { clock = t }) (machine_told s m b cs h) ∙ sym (clock_is s m t)),
  )

  -- ---- one device

  here : (b : Bench X V) (dev : ℕ) → dev < length (bench_front b).devices
      → slice_get (bench_machine driver b).stations dev ≡ Some (station_at (bench_machine driver b) dev)
  unfolding station_at
  here b dev less = search (rules, there_is, length_map_is)

  -- what is said of a device by its number is said of it as the told state has it
  told_here : {A : Type 0} (word : Machine → Option Station → A) (s : Setup) (m : Told) (b : Bench X V) (cs : List (Connection Seat)) (dev : ℕ)
      → dev < length (bench_front b).devices → Holds driver s m b cs
      → word (bench_machine driver b) (Some (station_at (bench_machine driver b) dev)) ≡ word (machine_of m) (slice_get (machine_of m).stations dev)
  told_here word s m b cs dev less h = search (rules, here)

  named_here : (s : Setup) (m : Told) (b b' : Bench X V) (cs : List (Connection Seat)) (dev : ℕ) → bench_front b' ≡ bench_front b → Holds driver s m b cs
      → device_name (bench_front b') dev ≡ desc_device_name s.desc dev
  named_here s m b b' cs dev front h = device_told s (bench_front b') dev (front ∙ h.front_is)

  trigger_named : (s : Setup) (m : Told) (b b' : Bench X V) (cs : List (Connection Seat)) (trigger : ℕ) → bench_front b' ≡ bench_front b → Holds driver s m b cs
      → trigger_name (bench_front b') trigger ≡ desc_trigger_name s.desc trigger
  trigger_named s m b b' cs trigger front h = trigger_told s (bench_front b') trigger (front ∙ h.front_is)

  -- ---- unplugging

  plugged_word : (s : Setup) (m : Told) (b : Bench X V) (cs : List (Connection Seat)) (dev : ℕ) → Holds driver s m b cs
      → unplugged_word (is_plugged (bench_machine driver b) dev && not (is_average (kind_at (bench_front b) dev)))
      ≡ unplugged_word (is_plugged (machine_of m) dev && not (is_average (kind_at (front_of s) dev)))
  plugged_word s m b cs dev h = cc

  pub unplug_makes : (dev : ℕ) (b b' : Bench X V) (cs : List (Connection Seat)) (before after name : List ℕ) (was : Bool) → dev < length (bench_front b).devices
      → bench_front b' ≡ bench_front b
      → bench_machine driver b' ≡ machine_after_unplugging (bench_front b) dev (bench_machine driver b)
      → name ≡ device_name (bench_front b') dev → was ≡ (is_plugged (bench_machine driver b) dev && not (is_average (kind_at (bench_front b) dev)))
      → after ≡ before ++ printed (name ∷ unplugged_word was ∷ []) → Makes driver (Unplug dev) (step_state b cs before) (step_state b' cs after)
  unplug_makes dev b b' cs before after name was less front told named answered line = λ s m h. (
    one_line s m (Unplugged dev) _ before after h.bench tt
        (ap (λ (n : List ℕ). printed (n ∷ unplugged_word was ∷ [])) (named ∙ named_here s m b b' cs dev front h)
        ∙ ap (λ (w : List ℕ). printed (desc_device_name s.desc dev ∷ w ∷ [])) (ap unplugged_word answered ∙ plugged_word s m b cs dev h)) line,
    holds_then s m (Unplugged dev) b b' cs tt h front (told ∙ ap (λ (f : Front). machine_after_unplugging f dev (bench_machine driver b)) h.front_is
        ∙ ap (λ (x : Machine). machine_after_unplugging (front_of s) dev x) (machine_told s m b cs h) ∙ sym (unplugging_is s m dev h.bench)),
  )

  -- ---- looks at thresholds

  sensed_told : (dev : ℕ) (t : ℤ) (s : Setup) (m : Told) (b : Bench X V) (cs : List (Connection Seat)) → dev < length (bench_front b).devices
      → Holds driver s m b cs
      → sensed_words (kind_sensed (kind_at (bench_front b) dev) (shape_at (bench_front b) dev) t (station_at (bench_machine driver b) dev))
      ≡ sensed_words (option_map_or (kind_sensed (kind_at (front_of s) dev) (shape_at (front_of s) dev) t) (slice_get (machine_of m).stations dev) sense.Gone)
  sensed_told dev t s m b cs less h =
      ap (λ (f : Front). sensed_words (kind_sensed (kind_at f dev) (shape_at f dev) t (station_at (bench_machine driver b) dev))) h.front_is
      ∙ told_here (λ (x : Machine) (o : Option Station). sensed_words
      (option_map_or (kind_sensed (kind_at (front_of s) dev) (shape_at (front_of s) dev) t) o sense.Gone)) s m b cs dev less h

  pub sense_makes : (dev : ℕ) (t : ℤ) (b b' : Bench X V) (cs : List (Connection Seat)) (before after name : List ℕ) (answer : Look)
      → dev < length (bench_front b).devices → bench_front b' ≡ bench_front b
      → bench_machine driver b' ≡ machine_after_look (bench_front b) dev t (bench_machine driver b)
      → name ≡ device_name (bench_front b') dev
      → answer ≡ kind_sensed (kind_at (bench_front b) dev) (shape_at (bench_front b) dev) t (station_at (bench_machine driver b) dev)
      → after ≡ before ++ printed (name ∷ sensed_words answer) → Makes driver (Sense dev t) (step_state b cs before) (step_state b' cs after)
  sense_makes dev t b b' cs before after name answer less front told named answered line = λ s m h. (
    one_line s m (Sensed dev t) _ before after h.bench tt
        (ap (λ (n : List ℕ). printed (n ∷ sensed_words answer)) (named ∙ named_here s m b b' cs dev front h)
        ∙ ap (λ (ws : List (List ℕ)). printed (desc_device_name s.desc dev ∷ ws)) (ap sensed_words answered ∙ sensed_told dev t s m b cs less h)) line,
    holds_then s m (Sensed dev t) b b' cs tt h front
        (told ∙ ap (λ (f : Front). machine_after_look f dev t (bench_machine driver b)) h.front_is
        ∙ ap (λ (x : Machine). machine_after_look (front_of s) dev t x) (machine_told s m b cs h)
        ∙ sym (look_is s m dev t h.bench)),
  )

  -- ---- polls

  module _ (trigger : ℕ) (t : ℤ) (b b' : Bench X V) (cs : List (Connection Seat)) (front : bench_front b' ≡ bench_front b)
      (told : bench_machine driver b' ≡ machine_after_poll trigger t (bench_machine driver b)) (s : Setup) (m : Told) (h : Holds driver s m b cs) where
    pub poll_holds : Holds driver s (step s m (Polled trigger t)) b' cs
    poll_holds =
        holds_then s m (Polled trigger t) b b' cs tt h front
        (told ∙ ap (λ (x : Machine). machine_after_poll trigger t x) (machine_told s m b cs h) ∙ sym (poll_is s m trigger t).0)

    pub poll_line : (before after name : List ℕ) (answer : Answer) → name ≡ trigger_name (bench_front b') trigger
        → answer ≡ polled_answer trigger t (bench_machine driver b)
        → after ≡ before ++ printed (codes "poll" ∷ name ∷ polled_words answer) → after ≡ before ++ (event_text s m (Polled trigger t) ++ [])
    poll_line before after name answer named answered line =
        one_line s m (Polled trigger t) _ before after h.bench tt
        (ap (λ (n : List ℕ). printed (codes "poll" ∷ n ∷ polled_words answer)) (named ∙ trigger_named s m b b' cs trigger front h)
        ∙ ap (λ (ws : List (List ℕ)). printed (codes "poll" ∷ desc_trigger_name s.desc trigger ∷ ws))
        (ap polled_words answered ∙ ap (λ (x : Machine). polled_words (polled_answer trigger t x)) (machine_told s m b cs h))) line

  -- ---- handlings

  module _ (trigger dev : ℕ) (b b' : Bench X V) (cs : List (Connection Seat)) (less : dev < length (bench_front b).devices)
      (front : bench_front b' ≡ bench_front b)
      (told : bench_machine driver b' ≡ machine_after_handling (bench_front b) trigger dev (bench_machine driver b)) (s : Setup) (m : Told)
      (h : Holds driver s m b cs) where
    pub handle_holds : Holds driver s (step s m (Handled trigger dev)) b' cs
    handle_holds =
        holds_then s m (Handled trigger dev) b b' cs tt h front
        (told ∙ ap (λ (f : Front). machine_after_handling f trigger dev (bench_machine driver b)) h.front_is
        ∙ ap (λ (x : Machine). machine_after_handling (front_of s) trigger dev x) (machine_told s m b cs h) ∙ sym (handling_is s m trigger dev h.bench))

    word_told : (answer : Option Became) (room : List ℕ)
        → answer ≡ entry_answer (kind_at (bench_front b) dev) (entry_in trigger dev (bench_machine driver b)) (station_at (bench_machine driver b) dev)
        → IsRoom answer (station_at (bench_machine driver b) dev).members room
        → became_word answer room ≡ entry_word (kind_at (front_of s) dev) (entry_in trigger dev (machine_of m)) (slice_get (machine_of m).stations dev)
    word_told answer room answered roomy =
        room_word answer (station_at (bench_machine driver b) dev).members room roomy
        ∙ ap (λ (o : Option Became). became_word o (next_bytes (station_at (bench_machine driver b) dev).members)) answered
        ∙ ap (λ (f : Front). entry_word (kind_at f dev) (entry_in trigger dev (bench_machine driver b)) (Some (station_at (bench_machine driver b) dev)))
        h.front_is
        ∙ told_here (λ (x : Machine) (o : Option Station). entry_word (kind_at (front_of s) dev) (entry_in trigger dev x) o) s m b cs dev less h

    pub handle_line : (before after name device room : List ℕ) (answer : Option Became) → name ≡ trigger_name (bench_front b') trigger
        → device ≡ device_name (bench_front b') dev
        → answer ≡ entry_answer (kind_at (bench_front b) dev) (entry_in trigger dev (bench_machine driver b)) (station_at (bench_machine driver b) dev)
        → IsRoom answer (station_at (bench_machine driver b) dev).members room
        → after ≡ before ++ printed (codes "handle" ∷ name ∷ device ∷ became_word answer room ∷ [])
        → after ≡ before ++ (event_text s m (Handled trigger dev) ++ [])
    handle_line before after name device room answer named called answered roomy line =
        one_line s m (Handled trigger dev) _ before after h.bench tt
        (ap (λ (n : List ℕ). printed (codes "handle" ∷ n ∷ device ∷ became_word answer room ∷ [])) (named ∙ trigger_named s m b b' cs trigger front h)
        ∙ ap (λ (n : List ℕ). printed (codes "handle" ∷ desc_trigger_name s.desc trigger ∷ n ∷ became_word answer room ∷ []))
        (called ∙ named_here s m b b' cs dev front h)
        ∙ ap (λ (w : List ℕ). printed (codes "handle" ∷ desc_trigger_name s.desc trigger ∷ desc_device_name s.desc dev ∷ w ∷ []))
        (word_told answer room answered roomy)) line
