-- The end of a holding of events in a history, where the holder is given by whose membership it is.
use Rattle.std.specs.Prelude.{Bool, false, List, [], Option, Some, None, if◌then◌else◌}
use Rattle.iio_event.specs.Monitor.{MonitorRecord}
use Rattle.iio_history.specs.Who.{Who, is_among}

abbrev pub held_among : List Who → Option Who → Bool
held_among gone None = false
held_among gone (Some holder) = is_among holder gone

-- if the holder is one of these, the holding ends and the queue is emptied
abbrev pub released : List Who → MonitorRecord Who → MonitorRecord Who
released gone m = if held_among gone m.holder then record m { holder = None; events = [] } else m
