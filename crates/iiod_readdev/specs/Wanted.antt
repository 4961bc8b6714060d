-- What the words of `readdev` want of a description. (This project's own.)
use Rattle.std.specs.Prelude.{ℕ, if◌then◌else◌, List, Option, Some, None, Result, Ok, Err, option_and_then, slice_get}
use Rattle.iio_mask.specs.Text.{mask_of}
use Rattle.iio_layout.specs.Active.{has_data}
use Rattle.iio_layout.specs.Shape.{ShapeRecord, count_of}
use Rattle.iio_text.specs.declared.refusals.Why.{Why}
use Rattle.iio_text.specs.declared.refusals.Why.TheVariants.{Device, Mask}
use Rattle.iio_desc.specs.Description.{Description, DeviceRecord, find_device}
use Rattle.iiod_client.specs.Ask.{Wanted}
use Rattle.iiod_readdev.specs.Words.{ReaddevWords}

-- a mask, if it has a data channel
abbrev pub with_data : ShapeRecord → (mask : ℕ) → Option ℕ
with_data shape mask = if has_data shape mask then Some mask else None

-- the mask of a device that a text gives, if it has a data channel
abbrev pub data_mask : ShapeRecord → List ℕ → Option ℕ
data_mask shape text = option_and_then (λ mask. with_data shape mask) (mask_of text (count_of shape))

-- what is wanted under the mask of the words, or why they are refused
abbrev pub wanted_under : ShapeRecord → ReaddevWords → Option ℕ → Result Wanted Why
wanted_under shape said None = Err Mask
wanted_under shape said (Some mask) = Ok (record { device = said.device; shape = shape; mask = mask; samples = said.samples; scans = said.scans })

-- what is wanted of the device of the words; the device is looked up before the mask is read
abbrev pub wanted_at : ReaddevWords → Option DeviceRecord → Result Wanted Why
wanted_at said None = Err Device
wanted_at said (Some device) = wanted_under device.shape said (data_mask device.shape said.mask)

-- what is wanted of the first device of the name
abbrev pub wanted_of : Description → ReaddevWords → Result Wanted Why
wanted_of desc said = wanted_at said (option_and_then (λ k. slice_get desc.devices k) (find_device desc said.device))
