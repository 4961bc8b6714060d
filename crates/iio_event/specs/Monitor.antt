-- The thresholds of a device's channels, and the queue of their events. (This project's own, after the kernel's events:
-- one holder at a time, a queue of 16, and a new event at a full queue dropped are the kernel's.)
use Rattle.std.specs.Prelude.{ℕ, ◌&&◌, nat_lt, not, Bool, true, false, if◌then◌else◌, List, [], ◌∷◌, ◌++◌, length, map, fold, drop, slice_get, slice_index_or, slice_set, Option, Some, None, is_some, ⊤, Result, Ok, Err, ℤ, pos, int_lt}
use Rattle.std.specs.Option.{option_map_or}
use Rattle.iio_base.specs.Refusals.{ensure}
use Rattle.iio_layout.specs.Shape.{ShapeRecord}
use Rattle.iio_layout.specs.declared.channel.Channel.{Channel}
use Rattle.iio_layout.specs.declared.channel.Kind.TheVariants.{Voltage}
use Rattle.iio_layout.specs.declared.channel.Suffix.TheVariants.{Bare}
use Rattle.iio_event.specs.declared.event.Edge.{Edge}
use Rattle.iio_event.specs.declared.event.Edge.TheVariants.{Rising, Falling}
use Rattle.iio_event.specs.declared.event.EventData.{EventData}
use Rattle.iio_event.specs.declared.watch.Watch.{Watch}
use Rattle.iio_event.specs.declared.watch.Watched.{Watched}
use Rattle.iio_event.specs.declared.monitor.Held.{Held}
use Rattle.iio_event.specs.declared.monitor.NotHolder.{NotHolder}
use Rattle.iio_event.specs.declared.monitor.TheConstants.{MAX_EVENTS}
use Rattle.iio_event.specs.Code.{code_of}

-- the channels, in the order of their numbers; who holds the events; and those that wait, the oldest first
pub record MonitorRecord (Who : Type 0) : Type 0 where
  pub channels : List Watched
  pub holder : Option Who
  pub events : List EventData

-- ---- one channel

-- an edge that isn't watched, with the threshold 0
abbrev pub idle_watch : Watch
idle_watch = record { enabled = false; threshold = pos 0; before = None }

abbrev pub idle_channel : Channel → Watched
idle_channel channel = record { kind = channel.kind; suffix = channel.suffix; rising = idle_watch; falling = idle_watch }

abbrev pub watch_of : Edge → Watched → Watch
watch_of Rising w = w.rising
watch_of Falling w = w.falling

abbrev pub with_watch : Edge → Watch → Watched → Watched
with_watch Rising watch w = record w { rising = watch }
with_watch Falling watch w = record w { falling = watch }

-- a value is past a threshold: above it for rising, below it for falling
abbrev pub is_past : Edge → ℤ → ℤ → Bool
is_past Rising threshold value = int_lt threshold value
is_past Falling threshold value = int_lt value threshold

-- a value crosses: it is past the threshold, and the value before it, if there was one, isn't past it
abbrev pub crosses : Edge → Watch → ℤ → Bool
crosses edge watch value =
    watch.enabled && is_past edge watch.threshold value && not (option_map_or (λ before. is_past edge watch.threshold before) watch.before false)

-- the watch of an edge after a value
abbrev pub sensed_watch : ℤ → Watch → Watch
sensed_watch value watch = if watch.enabled then record watch { before = Some value } else watch

-- the watch of an edge that is switched: enabling it forgets the value before
abbrev pub switched_watch : Bool → Watch → Watch
switched_watch true watch = if watch.enabled then watch else record watch { enabled = true; before = None }
switched_watch false watch = record watch { enabled = false }

abbrev pub sensed_channel : ℤ → Watched → Watched
sensed_channel value w = record w { rising = sensed_watch value w.rising; falling = sensed_watch value w.falling }

abbrev pub fired_at : Edge → ℤ → ℤ → Watched → List EventData
fired_at edge value t w =
    if crosses edge (watch_of edge w) value then (let event : EventData = record { code = code_of w.kind w.suffix edge; t = t } in event ∷ []) else []

-- the events that a value at a moment fires at a channel, the rising one first
abbrev pub fired_events : ℤ → ℤ → Watched → List EventData
fired_events value t w = fired_at Rising value t w ++ fired_at Falling value t w

-- ---- the monitor

abbrev pub new_monitor : {Who : Type 0} → ShapeRecord → MonitorRecord Who
new_monitor shape = record { channels = map idle_channel shape.channels; holder = None; events = [] }

-- channel c, or an idle one if there is none
abbrev pub channel_at : {Who : Type 0} → ℕ → MonitorRecord Who → Watched
channel_at c m = slice_index_or m.channels c (record { kind = Voltage; suffix = Bare; rising = idle_watch; falling = idle_watch })

abbrev pub with_channel : {Who : Type 0} → ℕ → Watched → MonitorRecord Who → MonitorRecord Who
with_channel c w m = record m { channels = slice_set m.channels c w }

-- an edge of channel c
abbrev pub watch_at : {Who : Type 0} → ℕ → Edge → MonitorRecord Who → Watch
watch_at c edge m = watch_of edge (channel_at c m)

-- a new threshold; the value before stays
abbrev pub set_threshold : {Who : Type 0} → ℕ → Edge → ℤ → MonitorRecord Who → MonitorRecord Who
set_threshold c edge value m = with_channel c (with_watch edge (record (watch_at c edge m) { threshold = value }) (channel_at c m)) m

abbrev pub switch_edge : {Who : Type 0} → ℕ → Edge → Bool → MonitorRecord Who → MonitorRecord Who
switch_edge c edge on m = with_channel c (with_watch edge (switched_watch on (watch_at c edge m)) (channel_at c m)) m

-- the queue after an event, which is kept while somebody holds the queue and fewer than 16 wait
abbrev pub queue_after : Bool → List EventData → EventData → List EventData
queue_after held events event = if held && nat_lt (length events) MAX_EVENTS then events ++ event ∷ [] else events

-- a value of channel c at a moment
abbrev pub after_value : {Who : Type 0} → ℕ → ℤ → ℤ → MonitorRecord Who → MonitorRecord Who
after_value c value t m =
    record (with_channel c (sensed_channel value (channel_at c m)) m)
    { events = fold (queue_after (is_some m.holder)) m.events (fired_events value t (channel_at c m)) }

-- ---- the holder. `same` compares two

abbrev pub is_holder : {Who : Type 0} → (Who → Who → Bool) → Who → MonitorRecord Who → Bool
is_holder same who m = option_map_or (same who) m.holder false

-- the two refusals
abbrev pub held : Held
held = record {}

abbrev pub not_holder : NotHolder
not_holder = record {}

abbrev pub open_answer : {Who : Type 0} → MonitorRecord Who → Result ⊤ Held
open_answer m = ensure (not (is_some m.holder)) held

abbrev pub after_open : {Who : Type 0} → Who → MonitorRecord Who → MonitorRecord Who
after_open who m = if is_some m.holder then m else record m { holder = Some who; events = [] }

abbrev pub read_answer : {Who : Type 0} → (Who → Who → Bool) → Who → MonitorRecord Who → Result (Option EventData) NotHolder
read_answer same who m = if is_holder same who m then Ok (slice_get m.events 0) else Err not_holder

abbrev pub after_read : {Who : Type 0} → (Who → Who → Bool) → Who → MonitorRecord Who → MonitorRecord Who
after_read same who m = if is_holder same who m then record m { events = drop 1 m.events } else m

abbrev pub close_answer : {Who : Type 0} → (Who → Who → Bool) → Who → MonitorRecord Who → Result ⊤ NotHolder
close_answer same who m = ensure (is_holder same who m) not_holder

abbrev pub after_close : {Who : Type 0} → (Who → Who → Bool) → Who → MonitorRecord Who → MonitorRecord Who
after_close same who m = if is_holder same who m then record m { holder = None; events = [] } else m
