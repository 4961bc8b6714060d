-- Steps of the code as steps of the definitions.
use Rattle.std.specs.Prelude.{ℕ, ◌+◌, ◌<◌, length}
use Rattle.iio_history.specs.Transcript.{Step, Feed, Fire, Poll, Handle, Sense, SetClock, Drop, Unplug}
use Rattle.iio_system.specs.declared.step.Step.{Step as CodeStep}
use Rattle.iio_system.specs.declared.step.Step.TheVariants as code

abbrev pub step_view : CodeStep → Step
step_view (code.Feed name bytes) = Feed name bytes
step_view (code.Fire trigger moment) = Fire trigger moment
step_view (code.Poll trigger moment) = Poll trigger moment
step_view (code.Handle trigger device) = Handle trigger device
step_view (code.Sense device moment) = Sense device moment
step_view (code.Clock moment) = SetClock moment
step_view (code.Drop name) = Drop name
step_view (code.Unplug device) = Unplug device

-- the numbers in a step are below these
abbrev pub IsValid : (triggers devices : ℕ) → CodeStep → Type 0
IsValid triggers devices (code.Fire trigger moment) = trigger < triggers
IsValid triggers devices (code.Poll trigger moment) = trigger < triggers
IsValid triggers devices (code.Handle trigger device) = (trigger < triggers) × (device < devices)
IsValid triggers devices (code.Sense device moment) = device < devices
IsValid triggers devices (code.Unplug device) = device < devices
IsValid triggers devices step = Unit {0}

-- the cost of a step: 1, and the number of bytes that it feeds
abbrev pub cost_of : CodeStep → ℕ
cost_of (code.Feed name bytes) = 1 + length bytes
cost_of step = 1
