-- What the lines of a script mean: steps, up to the first line that is refused. (This project's own.)
use Rattle.std.specs.Prelude.{ℕ, ℤ, ◌+◌, ◌==◌, ◌||◌, nat_lt, Bool, true, false, List, [], ◌∷◌, ◌++◌, length, codes, Option, Some, None, Result, Ok, Err, if◌then◌else◌}
use Rattle.std.specs.Fmt.{decimal}
use Rattle.std.specs.List.{list_any}
use Rattle.std.specs.Option.{ok_or}
use Rattle.std.specs.Str.{bytes_eq}
use Rattle.iio_base.specs.Refusals.{ensure, ◌>>=◌, ◌>>◌}
use Rattle.iio_text.specs.declared.refusals.Why.{Why}
use Rattle.iio_text.specs.declared.refusals.Why.TheVariants as why
use Rattle.iio_text.specs.Why.{why_text}
use Rattle.iio_text.specs.Words.{one_of, two_of}
use Rattle.iio_text.specs.Lines.{words_of_line}
use Rattle.iio_text.specs.Numbers.{int_of}
use Rattle.iio_text.specs.Escape.{quoted_of}
use Rattle.iio_attr.specs.Name.{is_name}
use Rattle.iiod_grammar.specs.Command.{entry_of}
use Rattle.iio_desc.specs.Description.{Description, find_trigger, find_device}
use Rattle.iio_history.specs.declared.limits.TheConstants.{MAX_NAMES}
use Rattle.iio_history.specs.Registry.{Setup}
use Rattle.iio_history.specs.Transcript.{Step, Feed, Fire, Poll, Handle, Sense, SetClock, Drop, Unplug, printed, transcript}

-- ---- words

abbrev pub trigger_word : Description → List ℕ → Result ℕ Why
trigger_word desc word = ok_or (find_trigger desc word) why.Trigger

abbrev pub device_word : Description → List ℕ → Result ℕ Why
device_word desc word = ok_or (find_device desc word) why.Device

abbrev pub moment_word : List ℕ → Result ℤ Why
moment_word word = ok_or (int_of word) why.Number

-- ---- the steps, by the words after the first one

-- `fire TRIGGER T`, `poll TRIGGER T`
abbrev pub trigger_step : (ℕ → ℤ → Step) → Description → List (List ℕ) → Result Step Why
trigger_step step desc words = do
  (trigger, moment) ← ok_or (two_of words) why.Count
  trigger ← trigger_word desc trigger
  moment ← moment_word moment
  Ok (step trigger moment)

-- `handle TRIGGER DEVICE`
abbrev pub handle_step : Description → List (List ℕ) → Result Step Why
handle_step desc words = do
  (trigger, device) ← ok_or (two_of words) why.Count
  trigger ← trigger_word desc trigger
  device ← device_word desc device
  Ok (Handle trigger device)

-- `sense DEVICE T`
abbrev pub sense_step : Description → List (List ℕ) → Result Step Why
sense_step desc words = do
  (device, moment) ← ok_or (two_of words) why.Count
  device ← device_word desc device
  moment ← moment_word moment
  Ok (Sense device moment)

-- `clock T`
abbrev pub clock_step : Description → List (List ℕ) → Result Step Why
clock_step desc words = do
  moment ← ok_or (one_of words) why.Count
  moment ← moment_word moment
  Ok (SetClock moment)

-- `drop NAME`
abbrev pub drop_step : Description → List (List ℕ) → Result Step Why
drop_step desc words = do
  name ← ok_or (one_of words) why.Count
  ensure (is_name name) why.Name
  Ok (Drop name)

-- `unplug DEVICE`
abbrev pub unplug_step : Description → List (List ℕ) → Result Step Why
unplug_step desc words = do
  device ← ok_or (one_of words) why.Count
  device ← device_word desc device
  Ok (Unplug device)

-- the first words of steps; none of them is a connection's name in a feed
abbrev pub step_words : List (List ℕ × (Description → List (List ℕ) → Result Step Why))
step_words =
    (codes "fire", trigger_step (λ t m. Fire t m))
    ∷ (codes "poll", trigger_step (λ t m. Poll t m))
    ∷ (codes "handle", handle_step)
    ∷ (codes "sense", sense_step)
    ∷ (codes "clock", clock_step)
    ∷ (codes "drop", drop_step)
    ∷ (codes "unplug", unplug_step)
    ∷ []

-- a line from its first quote on, with that quote
abbrev pub from_quote : List ℕ → List ℕ
from_quote [] = []
from_quote (b ∷ bs) = if b == 34 then b ∷ bs else from_quote bs

abbrev pub begins_quote : List ℕ → Bool
begins_quote [] = false
begins_quote (b ∷ bs) = b == 34

abbrev pub has_quote_first : List (List ℕ) → Bool
has_quote_first [] = false
has_quote_first (word ∷ words) = begins_quote word

-- `NAME "bytes"`
abbrev pub feed_step : List ℕ → List ℕ → List (List ℕ) → Result Step Why
feed_step line name words = do
  ensure (is_name name) why.Word
  ensure (has_quote_first words) why.Count
  bytes ← ok_or (quoted_of (from_quote line)) why.Text
  Ok (Feed name bytes)

abbrev pub step_by : Description → List ℕ → List ℕ → List (List ℕ) → Option (Description → List (List ℕ) → Result Step Why) → Result Step Why
step_by desc line word words None = feed_step line word words
step_by desc line word words (Some step) = step desc words

-- the step of a line with these words; a line without words is no step
abbrev pub step_of_words : Description → List ℕ → List (List ℕ) → Result (Option Step) Why
step_of_words desc line [] = Ok None
step_of_words desc line (word ∷ words) = do
  step ← step_by desc line word words (entry_of step_words word)
  Ok (Some step)

-- the step of a line; a comment, or a line without words, is none
abbrev pub step_of : Description → List ℕ → Result (Option Step) Why
step_of desc line = do
  words ← words_of_line line
  step_of_words desc line words

-- ---- the whole script

-- the maximum number of connection names that a script may feed
abbrev pub max_names : ℕ
max_names = MAX_NAMES

abbrev pub is_known : List (List ℕ) → List ℕ → Bool
is_known names name = list_any (λ known. bytes_eq known name) names

-- the names that have been fed after a step
abbrev pub names_after : List (List ℕ) → Option Step → List (List ℕ)
names_after names (Some (Feed name bytes)) = if is_known names name then names else name ∷ names
names_after names step = names

-- whether the script has fed no more names than it may after a step
abbrev pub keeps_names : List (List ℕ) → Option Step → Bool
keeps_names names (Some (Feed name bytes)) = is_known names name || nat_lt (length names) max_names
keeps_names names step = true

-- the step of a line after feeds of these names; the number of names is checked last
abbrev pub step_after : Description → List (List ℕ) → List ℕ → Result (Option Step) Why
step_after desc names line = do
  step ← step_of desc line
  ensure (keeps_names names step) why.Limit
  Ok step

-- how a script ends: with its last line, at a line that is refused, or because it is too long
pub data Ending : Type 0 where
  Finished : Ending
  Refused : (line : ℕ) (why : Why) → Ending
  TooLong : Ending

pub record Script : Type 0 where
  pub steps : List Step
  pub ending : Ending

abbrev pub first_step : Option Step → Script → Script
first_step None script = script
first_step (Some step) script = record script { steps = step ∷ script.steps }

-- the script of these lines, the first of which has number n, after feeds of these names; `ending` is how it ends if no line
-- is refused
abbrev pub script_from : Description → Ending → List (List ℕ) → ℕ → List (List ℕ) → Script
script_from desc ending names n [] = record { steps = []; ending = ending }
script_from desc ending names n (line ∷ lines) = elim (step_after desc names line) [
  | Err why ↦ record { steps = []; ending = Refused n why }
  | Ok step ↦ first_step step (script_from desc ending (names_after names step) (n + 1) lines)
]

-- what an ending prints
abbrev pub ending_text : Ending → List ℕ
ending_text Finished = []
ending_text (Refused line why) = printed (codes "refused" ∷ decimal line ∷ why_text why ∷ [])
ending_text TooLong = printed (codes "too long" ∷ [])

-- what a script prints: the transcript of its steps, and its end
abbrev pub script_text : Setup → Script → List ℕ
script_text s script = transcript s [] script.steps ++ ending_text script.ending
