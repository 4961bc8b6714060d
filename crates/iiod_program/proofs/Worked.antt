-- Worked inputs: what the definitions say that `layout` prints for each, and how it ends.
use Rattle.std.proofs.Common.{◌≡◌, List, ℕ, refl, codes}
use Rattle.std.specs.Fmt.{digits}
use Rattle.iio_text.specs.declared.refusals.Why.TheVariants.{Device, Mask}
use Rattle.iio_history.specs.Script.{Finished, Refused}
use Rattle.iiod_program.specs.Layout.{layout_of}

-- a device with three channels of two bytes and a timestamp
abbrev adc0 : List ℕ
adc0 =
    codes "trigger t0 2\ndevice adc0 t0\nchannel voltage0 le:u12/16>>4\nchannel voltage1 le:u12/16>>4\nchannel accel_x be:s16/16>>0\ntimestamp\n%%\nno line of a description\n"

-- the timestamp stands at a multiple of its size
first_and_timestamp : layout_of 0 adc0 (codes "adc0") (codes "00000009")
    ≡ record { printed = codes "voltage0 0 2 le:u12/16>>4\ntimestamp 8 8 le:s64/64>>0\nscan 16\n"; ending = Finished }
unfolding digits
first_and_timestamp = refl

short_mask : layout_of 0 adc0 (codes "adc0") (codes "5") ≡ record { printed = codes "refused 0 mask\n"; ending = Refused 0 Mask }
unfolding digits
short_mask = refl

-- the device is looked up first
other_device : layout_of 0 adc0 (codes "adc1") (codes "5") ≡ record { printed = codes "refused 0 device\n"; ending = Refused 0 Device }
unfolding digits
other_device = refl
