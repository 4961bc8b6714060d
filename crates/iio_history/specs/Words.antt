-- The words of the lines that steps print.
use Rattle.std.specs.Prelude.{ℕ, Bool, List, [], ◌∷◌, ◌++◌, codes, Option, Some, None, if◌then◌else◌}
use Rattle.std.specs.Fmt.{decimal}
use Rattle.hex.specs.Hex.{encode_lower}
use Rattle.iio_trigger.specs.declared.Polled.{Polled}
use Rattle.iio_trigger.specs.declared.Polled.TheVariants.{Accepted, Missed}
use Rattle.iio_device.specs.declared.handling.Handled.{Handled}
use Rattle.iio_device.specs.declared.handling.Handled.TheVariants.{Captured, Fault, Idle}
use Rattle.iio_device.specs.declared.handling.Sensed.{Sensed}
use Rattle.iio_device.specs.declared.handling.Sensed.TheVariants as sense
use Rattle.iio_core.specs.declared.became.Became.{Became}
use Rattle.iio_core.specs.declared.became.Became.TheVariants.{Asked, Gave}
use Rattle.iio_core.specs.declared.became.Gave.{Gave as Giving}
use Rattle.iio_core.specs.declared.became.Gave.TheVariants as gave

abbrev pub polled_words : Polled → List (List ℕ)
polled_words (Accepted n) = codes "accepted" ∷ decimal n ∷ []
polled_words (Missed n) = codes "missed" ∷ decimal n ∷ []

-- the word for a handled entry; `none` if there was no entry
abbrev pub handled_word : Option Handled → List ℕ
handled_word None = codes "none"
handled_word (Some (Captured n)) = codes "captured"
handled_word (Some Fault) = codes "fault"
handled_word (Some Idle) = codes "idle"

-- the word for an output device's entry, which was given that scan
abbrev pub gave_word : Giving → (scan : List ℕ) → List ℕ
gave_word gave.Given scan = codes "given " ++ encode_lower scan
gave_word gave.Underrun scan = codes "underrun"
gave_word gave.Idle scan = codes "idle"

-- the word for a device's entry; `room` has the scan that an output device was given
abbrev pub became_word : Option Became → (room : List ℕ) → List ℕ
became_word None room = handled_word None
became_word (Some (Asked handled)) room = handled_word (Some handled)
became_word (Some (Gave answer)) room = gave_word answer room

abbrev pub sensed_words : Sensed → List (List ℕ)
sensed_words (sense.Fired n) = codes "sensed" ∷ decimal n ∷ []
sensed_words sense.Fault = codes "fault" ∷ []
sensed_words sense.Gone = codes "gone" ∷ []

abbrev pub dropped_word : Bool → List ℕ
dropped_word live = if live then codes "dropped" else codes "closed"

abbrev pub unplugged_word : Bool → List ℕ
unplugged_word plugged = if plugged then codes "unplugged" else codes "gone"
