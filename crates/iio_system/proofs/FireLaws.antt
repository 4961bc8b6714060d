-- Handlings one after another, and a poll before them.
use Rattle.std.proofs.Common.{◌≡◌, ℕ, zero, suc, ◌+◌, ◌^◌, ◌<◌, ◌≤◌, ℤ, Bool, true, false, cond, List, [], ◌∷◌, ◌++◌, length, codes, Option, Some, None, refl, sym, ap, ◌∙◌, subst, append-nil, arith, rules}
use Rattle.std.proofs.lemmas.Grind.{common_steps}
use Rattle.std.specs.Prelude.{◌==◌, not}
use Rattle.std.proofs.lemmas.Bool.Decides.{nat_tests}
use Rattle.std.proofs.lemmas.List.{append_assoc}
use Rattle.iio_sensor.specs.Driver.{Driver}
use Rattle.iio_trigger.specs.declared.Polled.{Polled as Answer}
use Rattle.iio_trigger.specs.declared.Polled.TheVariants.{Accepted, Missed}
use Rattle.iio_trigger.specs.Trigger.{Handed, poll_made}
use Rattle.iio_device.specs.declared.plug.Plug.{Plug}
use Rattle.iio_device.specs.Site.{at_place, is_empty}
use Rattle.iio_core.specs.Attached.{Attachment, entries_from, is_attached}
use Rattle.iio_core.specs.Front.{Front, device_name, kind_at, trigger_name}
use Rattle.iio_core.specs.Machine.{Machine, station_at}
use Rattle.iio_core.specs.Moves.{entry_answer, machine_after_handling, entry_in, machine_after_entry, machine_after_poll, polled_answer, taken_off}
use Rattle.iio_history.specs.Event.{Event, Handled, Polled}
use Rattle.iio_history.specs.Registry.{Setup, attachments_of}
use Rattle.iio_core.specs.Trigger.{Trigger, entries_at, entry_of, without_entry, trigger_after_handling, trigger_after_poll, first_due, missed_at, poll_answer}
use Rattle.iio_history.specs.Told.{Told, registry_of}
use Rattle.iio_history.specs.Machine.{step}
use Rattle.iio_history.specs.Played.{steps, texts}
use Rattle.iio_history.specs.Transcript.{Fire, event_text, poll_entries, printed}
use Rattle.iio_history.specs.Bench.{machine_of}
use Rattle.iio_bench.specs.declared.bench.Bench.{Bench}
use Rattle.iio_bench.specs.declared.connection.Connection.{Connection}
use Rattle.iio_kinds.specs.declared.seat.Seat.{Seat}
use Rattle.iio_bench.specs.Bench.{front_of as bench_front, machine_of as bench_machine, triggers_of}
use Rattle.iio_core.specs.declared.became.Became.{Became}
use Rattle.iio_kinds.specs.Handling.{IsRoom}
use Rattle.iio_history.specs.Words.{became_word, polled_words}
use Rattle.iio_system.specs.Moves.{CanGoOn, HandlesAll, HandlesOne, InOrder, Plays, handling_of, handlings}
use Rattle.iio_bench.specs.Seat.{seen_of}
use Rattle.iio_system.specs.Standing.{CanCapture, Holds, IsMade, RiseBy, StepState, step_state}
use Rattle.iio_system.specs.System.{AreLines}
use Rattle.iio_bench.proofs.ListLemmas.{filter_none}
use Rattle.iio_bench.proofs.GatherLemmas.{nothing_handled}
use Rattle.iio_system.proofs.MoveLaws.{handle_holds, handle_line, machine_told, poll_holds, poll_line}

-- ---- one handling

-- nothing is removed if the device has no entry
without_none : (dev : ℕ) (es : List Handed) → entry_of dev es ≡ None → without_entry dev es ≡ es
without_none dev es none = filter_none (λ (e : Handed). e.dev == dev) es none

handled_none : (dev trigger : ℕ) (ts : List Trigger) → entry_of dev (entries_at ts trigger) ≡ None → at_place trigger (trigger_after_handling dev) ts ≡ ts
handled_none dev trigger [] none = refl
handled_none dev zero (t ∷ ts) none = ap (λ (es : List Handed). (let x : Trigger = record t { entries = es } in x) ∷ ts) (without_none dev t.entries none)
handled_none dev (suc trigger) (t ∷ ts) none = ap (λ (xs : List Trigger). t ∷ xs) (handled_none dev trigger ts none)

-- the handling of an entry, or of none
abbrev event_of : (trigger dev : ℕ) → Option Handed → List Event
event_of trigger dev o = elim o [ None ↦ [] | Some e ↦ Handled trigger dev ∷ [] ]

module _ {X : Type 0} {V : X → Type 0} (driver : Plug X V → Driver) where
  module _ (trigger dev : ℕ) (b b' : Bench X V) (cs : List (Connection Seat)) (less : dev < length (bench_front b).devices)
      (front : bench_front b' ≡ bench_front b)
      (told : bench_machine driver b' ≡ machine_after_handling (bench_front b) trigger dev (bench_machine driver b)) (s : Setup) (m : Told)
      (h : Holds driver s m b cs) where
    own : entry_in trigger dev (bench_machine driver b) ≡ entry_of dev (entries_at m.triggers trigger)
    own = ap (λ (x : Machine). entry_in trigger dev x) (machine_told driver s m b cs h)

    -- if the device has none, nothing changes
    stays : entry_of dev (entries_at m.triggers trigger) ≡ None → Holds driver s m b' cs
    stays none = record {
      front_is = front ∙ h.front_is;
      told_is =
          ap (λ (x : Machine). Some x)
          (told ∙ ap (λ (o : Option Handed). taken_off trigger dev (machine_after_entry (bench_front b) o dev (bench_machine driver b))) (own ∙ none)
          ∙ ap (λ (x : Machine). taken_off trigger dev x) (nothing_handled (bench_front b) dev (bench_machine driver b))
          ∙ ap (λ (ts : List Trigger). record (bench_machine driver b) { triggers = ts }) (handled_none dev trigger (triggers_of b) (own ∙ none)))
          ∙ h.told_is;
      bench = h.bench;
      lines = subst (λ (f : Front). AreLines seen_of f m m.lines cs) (sym front) h.lines;
    }

    -- the answer to an entry, by the told state
    answer_own : (o : Option Handed) → entry_of dev (entries_at m.triggers trigger) ≡ o
        → entry_answer (kind_at (bench_front b) dev) (entry_in trigger dev (bench_machine driver b)) (station_at (bench_machine driver b) dev)
        ≡ entry_answer (kind_at (bench_front b) dev) o (station_at (bench_machine driver b) dev)
    answer_own o is = ap (λ (e : Option Handed). entry_answer (kind_at (bench_front b) dev) e (station_at (bench_machine driver b) dev)) (own ∙ is)

    pub plays_none : (before : List ℕ)
        → None ≡ entry_answer (kind_at (bench_front b) dev) (entry_in trigger dev (bench_machine driver b)) (station_at (bench_machine driver b) dev)
        → Plays driver s m (handling_of trigger dev (entries_at m.triggers trigger)) (step_state b cs before) (step_state b' cs before)
    plays_none before answered = search (rules, stays)

    pub plays_some : (before after name device room : List ℕ) (answer : Became) → name ≡ trigger_name (bench_front b') trigger
        → device ≡ device_name (bench_front b') dev
        → Some answer ≡ entry_answer (kind_at (bench_front b) dev) (entry_in trigger dev (bench_machine driver b)) (station_at (bench_machine driver b) dev)
        → IsRoom (Some answer) (station_at (bench_machine driver b) dev).members room
        → after ≡ before ++ printed (codes "handle" ∷ name ∷ device ∷ became_word (Some answer) room ∷ [])
        → Plays driver s m (handling_of trigger dev (entries_at m.triggers trigger)) (step_state b cs before) (step_state b' cs after)
    plays_some before after name device room answer named called answered roomy line = by (entry_of dev (entries_at m.triggers trigger)) refl
      where
        by : (o : Option Handed) → entry_of dev (entries_at m.triggers trigger) ≡ o
            → Plays driver s m (event_of trigger dev o) (step_state b cs before) (step_state b' cs after)
        by None is = absurd (let h = answered ∙ answer_own None is in cc)
        by (Some e) is = search (rules, handle_line, handle_holds)

-- ---- entries in order

order_from : (low' low high : ℕ) (es : List Handed) → low' ≤ low → InOrder low high es → InOrder low' high es
order_from low' low high [] less order = omega (arith, less, order)
order_from low' low high (e ∷ es) less order = let h = order.0 in (omega (arith, less, h), order.1)

order_bound : (low high : ℕ) (es : List Handed) → InOrder low high es → low ≤ high
order_bound low high [] order = order
order_bound low high (e ∷ es) order = let h = order_bound (suc e.dev) high es order.1 in let k = order.0 in omega (arith, h, k)

-- at the end there are none
order_none : (low high : ℕ) (es : List Handed) → high ≤ low → InOrder low high es → es ≡ []
order_none low high [] past order = refl
order_none low high (e ∷ es) past order = absurd (let h = order_bound (suc e.dev) high es order.1 in let k = order.0 in omega (arith, h, k, past))

-- a device that comes before them has none
entry_none : (dev low high : ℕ) (es : List Handed) → dev < low → InOrder low high es → entry_of dev es ≡ None
entry_none dev low high [] less order = refl
entry_none dev low high (e ∷ es) less order =
    let h = order.0 in
    let other : (e.dev == dev) ≡ false = grind (arith, nat_tests) in
    ap (λ (b : Bool). cond b (Some e) (entry_of dev es)) other ∙ entry_none dev (suc e.dev) high es (omega (arith, less, h)) order.1

entries_placed : (f : Trigger → Trigger) (g : List Handed → List Handed) → ((t : Trigger) → (f t).entries ≡ g t.entries) → (k : ℕ) (ts : List Trigger)
    → (length ts ≤ k → g [] ≡ [])
    → entries_at (at_place k f ts) k ≡ g (entries_at ts k)
entries_placed f g same k [] past = sym (past (omega arith))
entries_placed f g same zero (t ∷ ts) past = same t
entries_placed f g same (suc k) (t ∷ ts) past = entries_placed f g same k ts (λ h. past (omega (arith, h)))

no_first : (es : List Handed) → first_due es ≡ None → es ≡ []
no_first es none = search rules

-- the first of entries below `high` is below it
first_below : (dev low high : ℕ) (es : List Handed) → first_due es ≡ Some dev → InOrder low high es → dev < high
first_below dev low high es first order = search (rules, order_bound)

-- ---- handlings one after another

module _ {X : Type 0} {V : X → Type 0} (driver : Plug X V → Driver) where
  -- some handlings are done; those of the entries that are left, for devices from `low` on, are the rest
  pub record IsLeft (s : Setup) (m : Told) (trigger low high : ℕ) (x y : StepState X V) : Type 0 where
    pub state : Told
    pub entries : List Handed
    pub there : entries_at state.triggers trigger ≡ entries
    pub holds : Holds driver s state y.bench y.connections
    pub order : InOrder low high entries
    pub text : x.printed ++ texts s m (handlings trigger (entries_at m.triggers trigger)) ≡ y.printed ++ texts s state (handlings trigger entries)
    pub last : steps s m (handlings trigger (entries_at m.triggers trigger)) ≡ steps s state (handlings trigger entries)

  module _ (s : Setup) (m : Told) (trigger low high : ℕ) (x y : StepState X V) (left : IsLeft s m trigger low high x y) where
    left_nothing : left.entries ≡ [] → Plays driver s m (handlings trigger (entries_at m.triggers trigger)) x y
    left_nothing none = search rules

    -- the first entry at the bench's trigger is the first one that is left
    first_left : first_due (entries_at (triggers_of y.bench) trigger) ≡ first_due left.entries
    first_left = search rules

    -- as many turns as there are devices leave none
    pub left_last : high ≤ low → Plays driver s m (handlings trigger (entries_at m.triggers trigger)) x y
    left_last past = left_nothing (order_none low high left.entries past left.order)

    pub left_none : first_due (entries_at (triggers_of y.bench) trigger) ≡ None → Plays driver s m (handlings trigger (entries_at m.triggers trigger)) x y
    left_none none = left_nothing (no_first left.entries (sym first_left ∙ none))

    -- there is no entry for a device that isn't there
    pub left_past : (dev : ℕ) → first_due (entries_at (triggers_of y.bench) trigger) ≡ Some dev → high ≤ dev
        → Plays driver s m (handlings trigger (entries_at m.triggers trigger)) x y
    left_past dev first past = let h = first_below dev low high left.entries (sym first_left ∙ first) left.order in absurd (omega (arith, h, past))

  module _ (s : Setup) (m n : Told) (trigger dev low high : ℕ) (x y z : StepState X V) where
    next_by : (es : List Handed) → entries_at n.triggers trigger ≡ es → first_due es ≡ Some dev → InOrder low high es
        → x.printed ++ texts s m (handlings trigger (entries_at m.triggers trigger)) ≡ y.printed ++ texts s n (handlings trigger es)
        → steps s m (handlings trigger (entries_at m.triggers trigger)) ≡ steps s n (handlings trigger es)
        → Plays driver s n (event_of trigger dev (entry_of dev es)) y z → IsLeft s m trigger (low + 1) high x z
    next_by [] at first order text last played = absurd (cc)
    next_by (e ∷ es) at first order text last played =
        let same : e.dev ≡ dev = cc in
        let own : (e.dev == dev) ≡ true = grind (arith, nat_tests) in
        let from = order.0 in
        let one =
        subst (λ (o : Option Handed). Plays driver s n (event_of trigger dev o) y z) (ap (λ (c : Bool). cond c (Some e) (entry_of dev es)) own) played in
        let ev = event_text s n (Handled trigger dev) in
        record {
          state = step s n (Handled trigger dev);
          entries = es;
          there =
              entries_placed (trigger_after_handling dev) (without_entry dev) (λ t. refl) trigger n.triggers (λ past. refl)
              ∙ ap (λ (xs : List Handed). without_entry dev xs) at ∙ ap (λ (c : Bool). cond (not c) (e ∷ without_entry dev es) (without_entry dev es)) own
              ∙ without_none dev es (entry_none dev (suc e.dev) high es (omega (arith, same)) order.1);
          holds = one.1;
          order = order_from (low + 1) (suc e.dev) high es (omega (arith, from)) order.1;
          text = grind (arith, common_steps);
          last = last ∙ ap (λ (d : ℕ). steps s (step s n (Handled trigger d)) (handlings trigger es)) same;
        }

  -- the handling of the first entry that is left
  pub left_next : (s : Setup) (m : Told) (trigger dev low high : ℕ) (x y z : StepState X V) → IsLeft s m trigger low high x y
      → first_due (entries_at (triggers_of y.bench) trigger) ≡ Some dev → HandlesOne driver trigger dev y z → IsLeft s m trigger (low + 1) high x z
  left_next s m trigger dev low high x y z left first one =
      next_by s m left.state trigger dev low high x y z left.entries left.there (sym (first_left s m trigger low high x y left) ∙ first)
      left.order left.text left.last
      (subst (λ (es : List Handed). Plays driver s left.state (event_of trigger dev (entry_of dev es)) y z) left.there (one s left.state left.holds))

-- ---- captures

pub rise_on : (j k : ℕ) (old mid new : List ℕ) → RiseBy j old mid → RiseBy k mid new → RiseBy (j + k) old new
rise_on j k old mid new first then = λ n all i d less. let h = then (n + j) (first n all) i d less in omega (arith, h)

pub still_go : (k : ℕ) (old new : List ℕ) → k ≤ 32 → CanCapture old → RiseBy k old new → CanGoOn new
still_go k old new less can rise = λ i d within. let h = rise (2 ^ 63) (λ j e l. let g = can j e l in omega (arith, g)) i d within in omega (arith, h, less)

-- ---- a poll, and the handlings that follow it

-- the entries of a poll are in the order of devices
poll_order : (dev trigger : ℕ) (t : ℤ) (ds : List Attachment) → InOrder dev (dev + length ds) (entries_from dev trigger t ds)
poll_order dev trigger t [] = omega arith
poll_order dev trigger t (d ∷ ds) =
    let on : suc dev + length ds ≡ dev + suc (length ds) = omega arith in
    by (is_attached trigger d) (subst (λ (n : ℕ). InOrder (suc dev) n (entries_from (suc dev) trigger t ds)) on (poll_order (suc dev) trigger t ds))
  where
    by : (c : Bool) → InOrder (suc dev) (dev + suc (length ds)) (entries_from (suc dev) trigger t ds)
        → InOrder dev (dev + suc (length ds))
        (cond c (record { dev = dev; attachment = d.number; t = t } ∷ entries_from (suc dev) trigger t ds) (entries_from (suc dev) trigger t ds))
    by c rest = search (rules, order_from)

accepts : (made : List Handed) (es : List Handed) (n missed : ℕ) → Accepted n ≡ poll_answer made es missed → es ≡ []
accepts made es n missed answered = search rules

misses : (made : List Handed) (es : List Handed) (n missed : ℕ) → Missed n ≡ poll_answer made es missed → is_empty es ≡ false
misses made es n missed answered = search rules

module _ {X : Type 0} {V : X → Type 0} (driver : Plug X V → Driver) where
  module _ (trigger : ℕ) (t : ℤ) (b b' : Bench X V) (cs : List (Connection Seat)) (front : bench_front b' ≡ bench_front b)
      (told : bench_machine driver b' ≡ machine_after_poll trigger t (bench_machine driver b)) (s : Setup) (m : Told) (h : Holds driver s m b cs) where
    -- what a poll makes if nothing is outstanding
    abbrev made : List Handed
    made = entries_from 0 trigger t (attachments_of (registry_of m))

    poll_told : (answer : Answer) → answer ≡ polled_answer trigger t (bench_machine driver b) → answer ≡ polled_answer trigger t (machine_of m)
    poll_told answer answered = answered ∙ ap (λ (x : Machine). polled_answer trigger t x) (machine_told driver s m b cs h)

    -- a poll that is missed is all that happens
    pub fire_missed : (before after name : List ℕ) (answer : Answer) (n : ℕ) → answer ≡ Missed n → name ≡ trigger_name (bench_front b') trigger
        → answer ≡ polled_answer trigger t (bench_machine driver b)
        → after ≡ before ++ printed (codes "poll" ∷ name ∷ polled_words answer)
        → IsMade driver s m (Fire trigger t) (step_state b cs before) (step_state b' cs after)
    fire_missed before after name answer n is named answered line =
        let busy = misses _ (entries_at m.triggers trigger) n (missed_at m.triggers trigger) (sym is ∙ poll_told answer answered) in
        let none : poll_entries m trigger t ≡ [] = ap (λ (c : Bool). cond c made []) busy in
        subst (λ (es : List Handed). Plays driver s m (Polled trigger t ∷ handlings trigger es) (step_state b cs before) (step_state b' cs after)) (sym none) (
          poll_line driver trigger t b b' cs front told s m h before after name answer named answered line,
          poll_holds driver trigger t b b' cs front told s m h,
        )

    -- a poll that is accepted
    module _ (many : length b.triggers.items ≡ length b.described.items) (within : trigger < length (bench_front b).triggers) where
      polled_entries : entries_at (step s m (Polled trigger t)).triggers trigger ≡ poll_made made (entries_at m.triggers trigger)
      polled_entries =
          let long : length m.triggers ≡ length b.described.items
          = grind (arith, common_steps) in
          entries_placed (trigger_after_poll (attachments_of (registry_of m)) trigger t) (λ es. poll_made made es) (λ x. refl) trigger
          m.triggers (λ past. absurd (omega (arith, past, long, within)))

      in_order : InOrder 0 (length (bench_front b').devices) made
      in_order =
          let whole : 0 + length (attachments_of (registry_of m)) ≡ length (attachments_of (registry_of m)) = omega arith in
          let long : 0 + length (attachments_of (registry_of m)) ≡ length (bench_front b').devices
          = grind (arith, common_steps) in
          subst (λ (n : ℕ). InOrder 0 n made) long (poll_order 0 trigger t (attachments_of (registry_of m)))

      pub fire_accepted : (b'' : Bench X V) (before mid after name : List ℕ) (answer : Answer) (n : ℕ) → answer ≡ Accepted n
          → name ≡ trigger_name (bench_front b') trigger
          → answer ≡ polled_answer trigger t (bench_machine driver b)
          → mid ≡ before ++ printed (codes "poll" ∷ name ∷ polled_words answer)
          → HandlesAll driver trigger (length (bench_front b').devices) (step_state b' cs mid) (step_state b'' cs after)
          → IsMade driver s m (Fire trigger t) (step_state b cs before) (step_state b'' cs after)
      fire_accepted b'' before mid after name answer n is named answered line all =
          let idle = accepts _ (entries_at m.triggers trigger) n (missed_at m.triggers trigger) (sym is ∙ poll_told answer answered) in
          let entries : entries_at (step s m (Polled trigger t)).triggers trigger ≡ made
          = polled_entries ∙ ap (λ (es : List Handed). poll_made made es) idle in
          let polled : entries_at (step s m (Polled trigger t)).triggers trigger ≡ poll_entries m trigger t
          = entries ∙ ap (λ (es : List Handed). cond (is_empty es) made []) (sym idle) in
          let ev = event_text s m (Polled trigger t) in
          let rest = texts s (step s m (Polled trigger t)) (handlings trigger (poll_entries m trigger t)) in
          let played =
          subst (λ (es : List Handed). Plays driver s (step s m (Polled trigger t)) (handlings trigger es) (step_state b' cs mid) (step_state b'' cs after))
          polled
          (all s (step s m (Polled trigger t)) (poll_holds driver trigger t b b' cs front told s m h)
          (subst (λ (es : List Handed). InOrder 0 (length (bench_front b').devices) es) (sym entries) in_order)) in (
            played.0
                ∙ ap (λ (text : List ℕ). text ++ rest)
                (poll_line driver trigger t b b' cs front told s m h before mid name answer named answered line
                ∙ ap (λ (text : List ℕ). before ++ text) (append-nil ev))
                ∙ append_assoc before ev rest,
            played.1,
          )
