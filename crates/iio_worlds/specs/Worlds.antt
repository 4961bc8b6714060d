-- Two worlds: with the other connections, and without them.
use Rattle.std.specs.Prelude.{◌≡◌, ℕ, suc, not, Bool, true, false, Option, Some, None, option_map, List, [], ◌∷◌, ◌++◌, map, if◌then◌else◌}
use Rattle.std.specs.Str.{bytes_eq}
use Rattle.iiod_grammar.specs.Stream.{Item}
use Rattle.iio_history.specs.Event.{Event, Heard}
use Rattle.iio_history.specs.Registry.{Setup}
use Rattle.iio_history.specs.Fold.{registry_after}
use Rattle.iio_history.specs.Transcript.{Step, Feed, Drop, and_then, with_step, with_steps, lines_of_step, transcript}
use Rattle.iio_worlds.specs.Bystanders.{only_bystanders, all_meet_by}

-- a feed or a drop of another connection
abbrev pub is_others : List ℕ → Step → Bool
is_others a (Feed name bytes) = not (bytes_eq name a)
is_others a (Drop name) = not (bytes_eq name a)
is_others a step = false

-- the steps without those
abbrev pub without_others : List ℕ → List Step → List Step
without_others a [] = []
without_others a (t ∷ ts) = if is_others a t then without_others a ts else t ∷ without_others a ts

-- the transcript of all steps, without the lines of the steps of other connections
abbrev pub transcript_kept : Setup → List ℕ → List Event → List Step → List ℕ
transcript_kept s a h [] = []
transcript_kept s a h (t ∷ ts) = (if is_others a t then [] else lines_of_step s h t) ++ transcript_kept s a (with_step s h t) ts

-- the first step, counted from 0, that has an event against the rules
abbrev pub first_offence : Setup → List ℕ → List Event → List Step → Option ℕ
first_offence s a h [] = None
first_offence s a h (t ∷ ts) =
    if only_bystanders s a (with_step s h t) then option_map suc (first_offence s a (with_step s h t) ts) else Some 0

-- a connection's transcript is the same in both worlds
abbrev pub TwoWorlds : Type 0
TwoWorlds =
    (s : Setup) (a : List ℕ) (steps : List Step) → only_bystanders s a (with_steps s [] steps) ≡ true
    → transcript s [] (without_others a steps) ≡ transcript_kept s a [] steps

-- there is no such step exactly if all events meet the rules
abbrev pub OffenceIs : Type 0
OffenceIs =
    (s : Setup) (a : List ℕ) (steps : List Step) → (first_offence s a [] steps ≡ None → only_bystanders s a (with_steps s [] steps) ≡ true)
    × (only_bystanders s a (with_steps s [] steps) ≡ true → first_offence s a [] steps ≡ None)

-- if all events before a feed meet the rules, its items meet them exactly if they do so by what was open when the feed began
abbrev pub StartDecides : Type 0
StartDecides =
    (s : Setup) (a name : List ℕ) (items : List Item) (h : List Event) → only_bystanders s a h ≡ true
    → only_bystanders s a (and_then h (map (λ item. Heard name item) items)) ≡ all_meet_by s (registry_after s h) a name items
