-- The two worlds: a connection's transcript with the other connections' steps is the one without them.
use Rattle.std.proofs.Common.{◌≡◌, ℕ, suc, ◌&&◌, Option, None, option_map, not, Bool, true, false, List, [], ◌∷◌, ◌++◌, map, cond, refl, sym, ap, ◌∙◌, subst, rules}
use Rattle.std.proofs.lemmas.Bool.{and_parts}
use Rattle.std.specs.Str.{bytes_eq}
use Rattle.iio_history.specs.Who.{Conn}
use Rattle.iiod_grammar.specs.Stream.{Item}
use Rattle.iio_history.specs.Event.{Event, Heard, Handled}
use Rattle.iio_history.specs.Registry.{Setup, Registry, has_ended}
use Rattle.iio_history.specs.Fold.{registry_after}
use Rattle.iio_history.specs.Told.{Told, registry_of, told}
use Rattle.iio_history.specs.Machine.{step}
use Rattle.iio_history.specs.Transcript.{Step, Feed, Fire, Poll, Handle, Sense, SetClock, Drop, Unplug, begun_by, poll_entries, events_of_step, event_text, and_then, texts_after, printed, closed_line, step_text, with_step, lines_of_step, transcript, with_steps}
use Rattle.iio_history.proofs.ToldLaws.{registry_is, step_is_told}
use Rattle.iio_text.specs.Escape.{quoted}
use Rattle.iio_trigger.specs.Trigger.{Handed}
use Rattle.iio_worlds.specs.Bystanders.{is_bystander, only_bystanders, others_are_neutral}
use Rattle.iio_worlds.specs.Worlds.{is_others, without_others, transcript_kept, first_offence}
use Rattle.iio_worlds.proofs.Alone.{own}
use Rattle.iio_worlds.proofs.ActLaws.{AllEven, IsOwn}
use Rattle.iio_worlds.proofs.StepLaws.{AreUnparted, step_alike}
use Rattle.iio_worlds.proofs.OthersLaws.{IsForeign, AllFree, step_kept}
use Rattle.iio_worlds.proofs.QuietLaws.{IsQuiet, AreAlone, rules_met, quiet_own, quiet_foreign, alone_after, alone_all, quiet_first, alone_first}
use Rattle.iio_worlds.proofs.TextLaws.{ended_alike, text_alike, IsOwnStep, events_alike}

-- ---- each event meets the rules

abbrev pub OnlyBystanders : Setup → List ℕ → List Event → Type 0
OnlyBystanders s a [] = Unit {0}
OnlyBystanders s a (e ∷ h) = (is_bystander s (registry_after s h) a e ≡ true) × OnlyBystanders s a h

pub all_meet : (s : Setup) (a : List ℕ) (h : List Event) → only_bystanders s a h ≡ true → OnlyBystanders s a h
all_meet s a [] only = tt
all_meet s a (e ∷ h) only = let parts = and_parts (is_bystander s (registry_after s h) a e) (only_bystanders s a h) only in (parts.0, all_meet s a h parts.1)

pub meet_all : (s : Setup) (a : List ℕ) (h : List Event) → OnlyBystanders s a h → only_bystanders s a h ≡ true
meet_all s a [] only = refl
meet_all s a (e ∷ h) only = ap (λ b. b && only_bystanders s a h) only.0 ∙ meet_all s a h only.1

pub before_events : (s : Setup) (a : List ℕ) (es : List Event) (h : List Event) → OnlyBystanders s a (and_then h es) → OnlyBystanders s a h
before_events s a [] h only = only
before_events s a (e ∷ es) h only = (before_events s a es (e ∷ h) only).1

before_steps : (s : Setup) (a : List ℕ) (ts : List Step) (h : List Event) → OnlyBystanders s a (with_steps s h ts) → OnlyBystanders s a h
before_steps s a [] h only = only
before_steps s a (t ∷ ts) h only = before_events s a (events_of_step (told s h) t) h (before_steps s a ts (with_step s h t) only)

-- ---- the history with the others, and the one without them

abbrev AreAlike : Setup → List ℕ → List Event → List Event → Type 0
AreAlike s a h g = IsQuiet a (registry_after s h) × AreAlone a (registry_after s g) × (own a (told s h) ≡ own a (told s g))

-- what holds of the registry's devices holds of the told state's
of_told : (s : Setup) (h : List Event) (P : Registry → Type 0) → P (registry_after s h) → P (registry_of (told s h))
of_told s h P is = subst P (sym (registry_is s h)) is

own_next : (s : Setup) (a : List ℕ) (h : List Event) (e : Event) → IsOwn a e → AllEven (Conn a) (registry_after s h).devices
    → AreUnparted s a e (registry_after s h).devices
    → own a (told s (e ∷ h)) ≡ own a (step s (own a (told s h)) e)
own_next s a h e is even apart =
    ap (own a) (step_is_told s h e)
    ∙ step_alike s a (told s h) e is (of_told s h (λ r. AllEven (Conn a) r.devices) even) (of_told s h (λ r. AreUnparted s a e r.devices) apart)

alike_own : (s : Setup) (a : List ℕ) (h g : List Event) (e : Event) → IsOwn a e → OnlyBystanders s a (e ∷ h) → AreAlike s a h g → AreAlike s a (e ∷ h) (e ∷ g)
alike_own s a h g e is only alike =
    let met = rules_met s a (registry_after s h) e only.0 alike.0.0 in (
      quiet_own s a (registry_after s h) e is met.1 alike.0,
      alone_after s a (registry_after s g) e is alike.1,
      own_next s a h e is alike.0.0 met.1 ∙ ap (λ m. own a (step s m e)) alike.2
          ∙ sym (own_next s a g e is (alone_all a (registry_after s g) alike.1) (λ k d here part. alike.1 k d here)),
    )

alike_foreign : (s : Setup) (a : List ℕ) (h g : List Event) (e : Event) → IsForeign a e → OnlyBystanders s a (e ∷ h) → AreAlike s a h g → AreAlike s a (e ∷ h) g
alike_foreign s a h g e is only alike =
    let met = rules_met s a (registry_after s h) e only.0 alike.0.0 in (
      quiet_foreign s a (registry_after s h) e is met.0 alike.0,
      alike.1,
      ap (own a) (step_is_told s h e)
          ∙ step_kept s a (told s h) e is (of_told s h (λ r. others_are_neutral s r a e ≡ true) met.0) (of_told s h (λ r. AllEven (Conn a) r.devices) alike.0.0)
          (of_told s h (λ r. AllFree (Conn a) r.devices) alike.0.1) ∙ alike.2,
    )

text_same : (s : Setup) (a : List ℕ) (h g : List Event) (e : Event) → IsOwn a e → OnlyBystanders s a (e ∷ h) → AreAlike s a h g
    → event_text s (told s h) e ≡ event_text s (told s g) e
text_same s a h g e is only alike =
    let met = rules_met s a (registry_after s h) e only.0 alike.0.0 in
    text_alike s a (told s h) e is (of_told s h (λ r. AllEven (Conn a) r.devices) alike.0.0) (of_told s h (λ r. AreUnparted s a e r.devices) met.1)
    ∙ ap (λ m. event_text s m e) alike.2
    ∙ sym (text_alike s a (told s g) e is (of_told s g (λ r. AllEven (Conn a) r.devices) (alone_all a (registry_after s g) alike.1))
    (of_told s g (λ r. AreUnparted s a e r.devices) (λ k d here part. alike.1 k d here)))

-- ---- several events

abbrev AllOwn : List ℕ → List Event → Type 0
AllOwn a [] = Unit {0}
AllOwn a (e ∷ es) = IsOwn a e × AllOwn a es

abbrev AllForeign : List ℕ → List Event → Type 0
AllForeign a [] = Unit {0}
AllForeign a (e ∷ es) = IsForeign a e × AllForeign a es

own_events : (s : Setup) (a : List ℕ) (es : List Event) (h g : List Event) → AllOwn a es → OnlyBystanders s a (and_then h es) → AreAlike s a h g
    → (texts_after s h es ≡ texts_after s g es) × AreAlike s a (and_then h es) (and_then g es)
own_events s a [] h g are only alike = (refl, alike)
own_events s a (e ∷ es) h g are only alike =
    let rest = own_events s a es (e ∷ h) (e ∷ g) are.1 only (alike_own s a h g e are.0 (before_events s a es (e ∷ h) only) alike) in (
      ap (λ text. text ++ texts_after s (e ∷ h) es) (text_same s a h g e are.0 (before_events s a es (e ∷ h) only) alike)
          ∙ ap (λ text. event_text s (told s g) e ++ text) rest.0,
      rest.1,
    )

others_events : (s : Setup) (a : List ℕ) (es : List Event) (h g : List Event) → AllForeign a es → OnlyBystanders s a (and_then h es) → AreAlike s a h g
    → AreAlike s a (and_then h es) g
others_events s a [] h g are only alike = alike
others_events s a (e ∷ es) h g are only alike =
    others_events s a es (e ∷ h) g are.1 only (alike_foreign s a h g e are.0 (before_events s a es (e ∷ h) only) alike)

-- ---- steps

heard_own : (a name : List ℕ) (items : List Item) → name ≡ a → AllOwn a (map (λ item. Heard name item) items)
heard_own a name [] is = tt
heard_own a name (item ∷ items) is = (is, heard_own a name items is)

handled_own : (a : List ℕ) (trigger : ℕ) (es : List Handed) → AllOwn a (map (λ (e : Handed). Handled trigger e.dev) es)
handled_own a trigger [] = tt
handled_own a trigger (e ∷ es) = (tt, handled_own a trigger es)

heard_foreign : (a name : List ℕ) (items : List Item) → bytes_eq name a ≡ false → AllForeign a (map (λ item. Heard name item) items)
heard_foreign a name [] apart = tt
heard_foreign a name (item ∷ items) apart = (apart, heard_foreign a name items apart)

own_fed : (a : List ℕ) (b : Bool) (es : List Event) → AllOwn a es → AllOwn a (cond b [] es)
own_fed a b es are = search rules

foreign_fed : (a : List ℕ) (b : Bool) (es : List Event) → AllForeign a es → AllForeign a (cond b [] es)
foreign_fed a b es are = search rules

own_of : (a : List ℕ) (m : Told) (t : Step) → IsOwnStep a t → AllOwn a (events_of_step m t)
own_of a m (Feed name bytes) is = search (rules, own_fed, begun_by, heard_own)
own_of a m (Fire trigger moment) is = (tt, handled_own a trigger (poll_entries m trigger moment))
own_of a m (Poll trigger moment) is = (tt, tt)
own_of a m (Handle trigger device) is = (tt, tt)
own_of a m (Sense device moment) is = (tt, tt)
own_of a m (SetClock moment) is = (tt, tt)
own_of a m (Drop name) is = (is, tt)
own_of a m (Unplug device) is = (tt, tt)

turned : (b : Bool) → not b ≡ true → b ≡ false
turned b h = search rules

foreign_of : (a : List ℕ) (m : Told) (t : Step) → is_others a t ≡ true → AllForeign a (events_of_step m t)
foreign_of a m t is = search (rules, turned, foreign_fed, begun_by, heard_foreign)

is_own_step : (a : List ℕ) (t : Step) → is_others a t ≡ false → IsOwnStep a t
is_own_step a t is = search rules

ended_same : (s : Setup) (a : List ℕ) (h g : List Event) → AreAlike s a h g
    → has_ended a (registry_of (told s h)).users ≡ has_ended a (registry_of (told s g)).users
ended_same s a h g alike = ended_alike a (told s h) ∙ ap (λ m. has_ended a (registry_of m).users) alike.2 ∙ sym (ended_alike a (told s g))

step_same : (s : Setup) (a : List ℕ) (h g h' g' : List Event) (t : Step) (text : List ℕ) → IsOwnStep a t → AreAlike s a h g → AreAlike s a h' g'
    → step_text (told s h) (told s h') t text ≡ step_text (told s g) (told s g') t text
step_same s a h g h' g' (Feed name bytes) text is alike next =
    let line : Bool → Bool → List ℕ = λ b c. cond b [] (printed (name ∷ quoted text ∷ [])) ++ cond c (closed_line name) [] in
    let ended : (x y : List Event) → AreAlike s a x y → has_ended name (registry_of (told s x)).users ≡ has_ended name (registry_of (told s y)).users =
    λ x y are. subst (λ n. has_ended n (registry_of (told s x)).users ≡ has_ended n (registry_of (told s y)).users) (sym is) (ended_same s a x y are) in
    ap (λ b. line b (has_ended name (registry_of (told s h')).users)) (ended h g alike)
    ∙ ap (line (has_ended name (registry_of (told s g)).users)) (ended h' g' next)
step_same s a h g h' g' (Fire trigger moment) text is alike next = refl
step_same s a h g h' g' (Poll trigger moment) text is alike next = refl
step_same s a h g h' g' (Handle trigger device) text is alike next = refl
step_same s a h g h' g' (Sense device moment) text is alike next = refl
step_same s a h g h' g' (SetClock moment) text is alike next = refl
step_same s a h g h' g' (Drop name) text is alike next = refl
step_same s a h g h' g' (Unplug device) text is alike next = refl

own_step : (s : Setup) (a : List ℕ) (h g : List Event) (t : Step) → IsOwnStep a t → OnlyBystanders s a (with_step s h t) → AreAlike s a h g
    → (lines_of_step s h t ≡ lines_of_step s g t) × AreAlike s a (with_step s h t) (with_step s g t)
own_step s a h g t is only alike =
    let es = events_of_step (told s h) t in
    let same : es ≡ events_of_step (told s g) t =
    events_alike a (told s h) t is (of_told s h (λ r. AllEven (Conn a) r.devices) alike.0.0) ∙ ap (λ m. events_of_step m t) alike.2
    ∙ sym (events_alike a (told s g) t is (of_told s g (λ r. AllEven (Conn a) r.devices) (alone_all a (registry_after s g) alike.1))) in
    let next = own_events s a es h g (own_of a (told s h) t is) only alike in (
      step_same s a h g (and_then h es) (and_then g es) t (texts_after s h es) is alike next.1
          ∙ ap (step_text (told s g) (told s (and_then g es)) t) next.0
          ∙ ap (λ xs. step_text (told s g) (told s (and_then g xs)) t (texts_after s g xs)) same,
      subst (λ xs. AreAlike s a (and_then h es) (and_then g xs)) same next.1,
    )

kept_is : (s : Setup) (a : List ℕ) (ts : List Step) (h g : List Event) → OnlyBystanders s a (with_steps s h ts) → AreAlike s a h g
    → transcript s g (without_others a ts) ≡ transcript_kept s a h ts
kept_is s a [] h g only alike = refl
kept_is s a (t ∷ ts) h g only alike = by_step (is_others a t) refl (λ next. kept_is s a ts (with_step s h t) next only)
  where
    met : OnlyBystanders s a (with_step s h t)
    met = before_steps s a ts (with_step s h t) only

    by_step : (b : Bool) → is_others a t ≡ b
        → ((next : List Event) → AreAlike s a (with_step s h t) next → transcript s next (without_others a ts) ≡ transcript_kept s a (with_step s h t) ts)
        → transcript s g (cond b (without_others a ts) (t ∷ without_others a ts)) ≡ cond b [] (lines_of_step s h t) ++ transcript_kept s a (with_step s h t) ts
    by_step true is rest = rest g (others_events s a (events_of_step (told s h) t) h g (foreign_of a (told s h) t is) met alike)
    by_step false is rest =
        let goes = own_step s a h g t (is_own_step a t is) met alike in
        ap (λ text. text ++ transcript s (with_step s g t) (without_others a ts)) (sym goes.0)
        ∙ ap (λ text. lines_of_step s h t ++ text) (rest (with_step s g t) goes.1)

pub two_worlds : (s : Setup) (a : List ℕ) (steps : List Step) → only_bystanders s a (with_steps s [] steps) ≡ true
    → transcript s [] (without_others a steps) ≡ transcript_kept s a [] steps
two_worlds s a steps only = kept_is s a steps [] [] (all_meet s a (with_steps s [] steps) only) (quiet_first s a, alone_first s a, refl)

-- ---- the step that offends

none_below : (o : Option ℕ) → option_map suc o ≡ None → o ≡ None
none_below o is = search rules

none_offends : (s : Setup) (a : List ℕ) (ts : List Step) (h : List Event) → only_bystanders s a h ≡ true → first_offence s a h ts ≡ None
    → only_bystanders s a (with_steps s h ts) ≡ true
none_offends s a [] h before none = before
none_offends s a (t ∷ ts) h before none = search (rules, with_step, none_below, none_offends s a ts (with_step s h t))

offends_none : (s : Setup) (a : List ℕ) (ts : List Step) (h : List Event) → OnlyBystanders s a (with_steps s h ts) → first_offence s a h ts ≡ None
offends_none s a [] h only = refl
offends_none s a (t ∷ ts) h only = search (rules, with_step, meet_all, before_steps, offends_none s a ts (with_step s h t) only)

pub offence_is : (s : Setup) (a : List ℕ) (steps : List Step) → (first_offence s a [] steps ≡ None → only_bystanders s a (with_steps s [] steps) ≡ true)
    × (only_bystanders s a (with_steps s [] steps) ≡ true → first_offence s a [] steps ≡ None)
offence_is s a steps = (none_offends s a steps [] refl, λ only. offends_none s a steps [] (all_meet s a (with_steps s [] steps) only))
