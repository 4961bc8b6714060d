-- What a client wants of a device, and the lines that it sends for it. (libiio 0.25's iiod: the commands; how many scans are
-- asked for at a time is this project's own.)
use Rattle.std.specs.Prelude.{◌≡◌, ℕ, ◌-◌, ◌*◌, ◌^◌, ◌<◌, ◌≤◌, min, true, List, [], ◌∷◌, ◌++◌, codes, length}
use Rattle.std.specs.Fmt.{decimal}
use Rattle.iio_mask.specs.Mask.{has}
use Rattle.iio_mask.specs.Text.{mask_text}
use Rattle.iio_layout.specs.Layout.{scan_size}
use Rattle.iio_layout.specs.Shape.{ShapeRecord, count_of}
use Rattle.iiod_client.specs.declared.ask.Ask.{Ask}
use Rattle.iiod_client.specs.declared.client.TheConstants.{MOST_SCANS}
use Rattle.iiod_client.specs.Answer.{Asked}

-- what is wanted, regardless of where it lies in memory
pub record Wanted : Type 0 where
  pub device : List ℕ
  pub shape : ShapeRecord
  pub mask : ℕ
  pub samples : ℕ
  pub scans : ℕ

abbrev pub wanted_by : Ask → Wanted
wanted_by ask = record { device = ask.device.now; shape = ask.shape.now; mask = ask.mask.bits; samples = ask.samples; scans = ask.scans }

-- the mask has a data channel, and no bit at or above the channel count; there is something to ask for
pub record IsAsk (w : Wanted) : Type 0 where
  pub below : w.mask < 2 ^ count_of w.shape
  pub channel : ℕ
  pub is_channel : channel < length w.shape.channels
  pub selected : has w.mask channel ≡ true
  pub samples : 1 ≤ w.samples
  pub scans : 1 ≤ w.scans

-- the size of a scan
abbrev pub size_for : Wanted → ℕ
size_for w = scan_size w.shape w.mask

-- the number of bytes that are asked for after `got` scans
abbrev pub batch : Wanted → (got : ℕ) → ℕ
batch w got = size_for w * min MOST_SCANS (w.scans - got)

-- the answer that is awaited after `got` scans
abbrev pub question : Wanted → (got : ℕ) → Asked
question w got = record { bytes = batch w got; mask = w.mask; channels = count_of w.shape; size = size_for w }

-- `OPEN DEVICE SAMPLES MASK`
abbrev pub open_line : Wanted → List ℕ
open_line w = codes "OPEN " ++ (w.device ++ 32 ∷ (decimal w.samples ++ 32 ∷ (mask_text (count_of w.shape) w.mask ++ 10 ∷ [])))

-- `READBUF DEVICE BYTES`
abbrev pub readbuf_line : Wanted → (bytes : ℕ) → List ℕ
readbuf_line w bytes = codes "READBUF " ++ (w.device ++ 32 ∷ (decimal bytes ++ 10 ∷ []))

-- `CLOSE DEVICE`
abbrev pub close_line : Wanted → List ℕ
close_line w = codes "CLOSE " ++ (w.device ++ 10 ∷ [])

abbrev pub exit_line : List ℕ
exit_line = codes "EXIT" ++ 10 ∷ []
