-- What the steps of a script print. (This project's own.)
use Rattle.std.specs.Prelude.{ℕ, ℤ, ◌&&◌, not, List, [], ◌∷◌, ◌++◌, map, length, codes, Option, Some, None, slice_get, if◌then◌else◌}
use Rattle.std.specs.Fmt.{decimal, signed_decimal}
use Rattle.iio_text.specs.Escape.{quoted}
use Rattle.iio_sensor.specs.Driver.{next_count}
use Rattle.iio_desc.specs.Description.{trigger_name, device_name}
use Rattle.iio_desc.specs.Kind.{Kind, Average, is_average}
use Rattle.iio_output.specs.Last.{GivenScan}
use Rattle.hex.specs.Hex.{encode_lower}
use Rattle.iiod_reply.specs.Reply.{line, text_of}
use Rattle.iio_device.specs.Sensing.{Sensed as Sensing, sensed}
use Rattle.iio_device.specs.Site.{is_empty}
use Rattle.iio_history.specs.Who.{Who}
use Rattle.iiod_grammar.specs.Stream.{Scanner, InLine, items_from}
use Rattle.iio_history.specs.Event.{Event, Arrived, Heard, Dropped, Polled, Handled, Clock, Sensed, Unplugged}
use Rattle.iio_history.specs.Registry.{Setup, attachments_of, outline_of, has_ended, is_live}
use Rattle.iio_core.specs.Attached.{entries_from}
use Rattle.iio_core.specs.Trigger.{entries_at, entry_of, missed_at}
use Rattle.iio_history.specs.Act.{Act, Capturing, Failing, Giving, handled_act}
use Rattle.iio_history.specs.Told.{Line, Seat, Station, Told, device_of, next_given, registry_of, told}
use Rattle.iio_history.specs.Reply.{reply}
use Rattle.std.specs.Str.{bytes_eq}
use Rattle.iio_trigger.specs.Trigger.{Handed}

-- a step; triggers and devices are given by their numbers in the description
pub data Step : Type 0 where
  Feed : (name : List ℕ) (bytes : List ℕ) → Step
  Fire : (trigger : ℕ) (moment : ℤ) → Step
  Poll : (trigger : ℕ) (moment : ℤ) → Step
  Handle : (trigger : ℕ) (device : ℕ) → Step
  Sense : (device : ℕ) (moment : ℤ) → Step
  SetClock : (moment : ℤ) → Step
  Drop : (name : List ℕ) → Step
  Unplug : (device : ℕ) → Step

-- ---- the events of a step

abbrev pub line_named : List ℕ → List Line → Option Line
line_named name [] = None
line_named name (l ∷ ls) = if bytes_eq l.user.who name then Some l else line_named name ls

-- what a connection has begun
abbrev pub begun_by : List ℕ → List Line → Scanner
begun_by name ls = elim (line_named name ls) [ None ↦ InLine [] | Some l ↦ l.begun ]

-- the entries that a poll makes, if it is accepted
abbrev pub poll_entries : Told → ℕ → ℤ → List Handed
poll_entries m trigger moment = if is_empty (entries_at m.triggers trigger) then entries_from 0 trigger moment (attachments_of (registry_of m)) else []

-- the events that a step stands for, the first of them first: a feed stands for the items that its bytes complete, a fire for
-- a poll and, if that is accepted, for the handling of each entry that it made
abbrev pub events_of_step : Told → Step → List Event
events_of_step m (Feed name bytes) =
    if has_ended name (registry_of m).users then []
    else Arrived name bytes ∷ map (λ item. Heard name item) (items_from (begun_by name m.lines) bytes)
events_of_step m (Fire trigger moment) = Polled trigger moment ∷ map (λ (e : Handed). Handled trigger e.dev) (poll_entries m trigger moment)
events_of_step m (Poll trigger moment) = Polled trigger moment ∷ []
events_of_step m (Handle trigger device) = Handled trigger device ∷ []
events_of_step m (Sense device moment) = Sensed device moment ∷ []
events_of_step m (SetClock moment) = Clock moment ∷ []
events_of_step m (Drop name) = Dropped name ∷ []
events_of_step m (Unplug device) = Unplugged device ∷ []

-- ---- what an event prints, by the state before it

-- words with spaces between them
abbrev pub spaced : List (List ℕ) → List ℕ
spaced [] = []
spaced (w ∷ []) = w
spaced (w ∷ ws) = w ++ 32 ∷ spaced ws

abbrev pub printed : List (List ℕ) → List ℕ
printed words = line (spaced words)

abbrev pub poll_words : Told → ℕ → ℤ → List (List ℕ)
poll_words m trigger moment =
    if is_empty (entries_at m.triggers trigger)
    then codes "accepted" ∷ decimal (length (poll_entries m trigger moment)) ∷ []
    else codes "missed" ∷ decimal (next_count (missed_at m.triggers trigger)) ∷ []

abbrev pub given_word : Option GivenScan → List ℕ
given_word None = codes "underrun"
given_word (Some x) = codes "given " ++ encode_lower x.bytes

abbrev pub act_word : List Seat → Act → List ℕ
act_word xs (Capturing c) = codes "captured"
act_word xs Giving = given_word (next_given xs)
act_word xs (Failing moment) = codes "fault"
act_word xs act = codes "idle"

abbrev pub handled_word : Option Station → Option Handed → List ℕ
handled_word (Some st) (Some e) = act_word st.seats (handled_act (outline_of (device_of st)) (Some e))
handled_word st e = codes "none"

abbrev pub sensed_words : Sensing Who → List (List ℕ)
sensed_words x = if x.fault then codes "fault" ∷ [] else codes "sensed" ∷ decimal x.count ∷ []

-- an averaging device has no thresholds, and is never gone by itself
abbrev pub sense_by : Kind → Station → ℤ → List (List ℕ)
sense_by (Average base window) st moment = codes "sensed" ∷ decimal 0 ∷ []
sense_by kind st moment = if st.site.plugged then sensed_words (sensed st.shape moment st.site) else codes "gone" ∷ []

abbrev pub sense_words : Option Station → ℤ → List (List ℕ)
sense_words None moment = codes "gone" ∷ []
sense_words (Some st) moment = sense_by st.kind st moment

abbrev pub unplug_word : Option Station → List ℕ
unplug_word None = codes "gone"
unplug_word (Some st) = if st.site.plugged && not (is_average st.kind) then codes "unplugged" else codes "gone"

abbrev pub event_text : Setup → Told → Event → List ℕ
event_text s m (Heard name item) = text_of (reply s m name item)
event_text s m (Polled trigger moment) = printed (codes "poll" ∷ trigger_name s.desc trigger ∷ poll_words m trigger moment)
event_text s m (Handled trigger device) =
    printed (codes "handle" ∷ trigger_name s.desc trigger ∷ device_name s.desc device
    ∷ handled_word (slice_get m.stations device) (entry_of device (entries_at m.triggers trigger)) ∷ [])
event_text s m (Sensed device moment) = printed (device_name s.desc device ∷ sense_words (slice_get m.stations device) moment)
event_text s m (Clock moment) = printed (codes "clock" ∷ signed_decimal moment ∷ [])
event_text s m (Dropped name) = printed (name ∷ (if is_live name (registry_of m).users then codes "dropped" else codes "closed") ∷ [])
event_text s m (Unplugged device) = printed (device_name s.desc device ∷ unplug_word (slice_get m.stations device) ∷ [])
event_text s m e = []

-- ---- the lines of steps

-- the history with further events, given with the first of them first
abbrev pub and_then : List Event → List Event → List Event
and_then h [] = h
and_then h (e ∷ es) = and_then (e ∷ h) es

-- what further events print after a history
abbrev pub texts_after : Setup → List Event → List Event → List ℕ
texts_after s h [] = []
texts_after s h (e ∷ es) = event_text s (told s h) e ++ texts_after s (e ∷ h) es

abbrev pub closed_line : List ℕ → List ℕ
closed_line name = printed (name ∷ codes "closed" ∷ [])

-- the lines of a step whose events print that text; those of a feed also say whether the connection has ended
abbrev pub step_text : Told → Told → Step → List ℕ → List ℕ
step_text before after (Feed name bytes) text =
    (if has_ended name (registry_of before).users then [] else printed (name ∷ quoted text ∷ []))
    ++ (if has_ended name (registry_of after).users then closed_line name else [])
step_text before after step text = text

-- the history with a step
abbrev pub with_step : Setup → List Event → Step → List Event
with_step s h step = and_then h (events_of_step (told s h) step)

-- the history with steps, given with the first of them first
abbrev pub with_steps : Setup → List Event → List Step → List Event
with_steps s h [] = h
with_steps s h (t ∷ ts) = with_steps s (with_step s h t) ts

-- the lines that a step prints after a history
abbrev pub lines_of_step : Setup → List Event → Step → List ℕ
lines_of_step s h step = step_text (told s h) (told s (with_step s h step)) step (texts_after s h (events_of_step (told s h) step))

-- the transcript of steps after a history
abbrev pub transcript : Setup → List Event → List Step → List ℕ
transcript s h [] = []
transcript s h (step ∷ steps) = lines_of_step s h step ++ transcript s (with_step s h step) steps
