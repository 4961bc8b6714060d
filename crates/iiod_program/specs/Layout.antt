-- What `layout` prints for an input, and how it ends. (This project's own.)
use Rattle.std.specs.Prelude.{ℕ, suc, List, Option, Some, None, option_and_then, slice_get}
use Rattle.iio_text.specs.declared.refusals.Why.TheVariants.{Device, Mask}
use Rattle.iio_mask.specs.Text.{mask_of}
use Rattle.iio_layout.specs.Shape.{ShapeRecord, count_of}
use Rattle.iio_desc.specs.declared.reader.DescFault.TheVariants.{Line, Mem}
use Rattle.iio_desc.specs.Description.{Description, DeviceRecord, find_device}
use Rattle.iio_history.specs.Outcome.{Cut, Described, Faulty, Head, Outcome, head_of, only_ending}
use Rattle.iio_history.specs.Script.{Finished, Refused, TooLong}
use Rattle.iio_script.specs.declared.status.Status.{Status}
use Rattle.iio_script.specs.declared.status.Status.TheVariants as status
use Rattle.iio_script.specs.LineReader.{TakesNear}
use Rattle.iiod_program.specs.Placing.{layout_text}

-- if a line of the description is refused, not much more was taken than up to its end; line 0 stands for the program's words
abbrev pub TakesForLine : Status → List ℕ → Option (List ℕ) → Type 0
TakesForLine (status.Refused (suc n) why) left remaining = TakesNear (suc n) left remaining
TakesForLine st left remaining = Unit {0}

-- the first device of that name
abbrev pub device_named : Description → List ℕ → Option DeviceRecord
device_named desc name = option_and_then (λ k. slice_get desc.devices k) (find_device desc name)

-- the layout under the mask that a text gives
abbrev pub laid_under : ShapeRecord → List ℕ → Outcome
laid_under shape mask = elim (mask_of mask (count_of shape)) [
  | None ↦ only_ending (Refused 0 Mask)
  | Some bits ↦ record { printed = layout_text shape bits; ending = Finished }
]

-- the layout of a device, which is looked up before the mask is read; both are words of the program, and refused at line 0
abbrev pub laid_out : Description → List ℕ → List ℕ → Outcome
laid_out desc device mask = elim (device_named desc device) [ None ↦ only_ending (Refused 0 Device) | Some d ↦ laid_under d.shape mask ]

-- what is printed for an input by its head; the lines after the description aren't looked at
abbrev pub laid : (device mask : List ℕ) → Head → Outcome
laid device mask (Described desc first lines) = laid_out desc device mask
laid device mask (Faulty (Line n why)) = only_ending (Refused n why)
laid device mask (Faulty Mem) = only_ending Finished
laid device mask Cut = only_ending TooLong

-- what an input prints for a device and a mask, and how it ends; its description may use `drivers` drivers
abbrev pub layout_of : (drivers : ℕ) (input device mask : List ℕ) → Outcome
layout_of drivers input device mask = laid device mask (head_of drivers input)
