-- What each line of a description says, and the first check that fails if it is refused, in the order of the
-- checks. (This project's own.)
use Rattle.std.specs.Prelude.{ℕ, ◌&&◌, nat_lt, nat_le, Bool, false, not, ℤ, pos, negsuc, List, [], ◌∷◌, ◌++◌, length, codes, Option, Some, None, is_none, option_and_then, unwrap_or, Result, Ok, if◌then◌else◌}
use Rattle.std.specs.Option.{ok_or}
use Rattle.std.specs.Str.{bytes_eq}
use Rattle.iio_base.specs.Refusals.{ensure, ◌>>=◌, ◌>>◌}
use Rattle.iio_text.specs.declared.refusals.Why.{Why}
use Rattle.iio_text.specs.declared.refusals.Why.TheVariants as why
use Rattle.iio_text.specs.Words.{words_of, is_space, two_of, three_of, from_word}
use Rattle.iio_text.specs.Lines.{words_of_line}
use Rattle.iio_text.specs.Numbers.{int_of}
use Rattle.iio_text.specs.Escape.{quoted_of}
use Rattle.iio_attr.specs.Name.{is_name}
use Rattle.iio_layout.specs.declared.channel.Direction.{Direction}
use Rattle.iio_layout.specs.declared.channel.Direction.TheVariants as direction
use Rattle.iio_desc.specs.declared.keywords.Keyword.{Keyword}
use Rattle.iio_desc.specs.declared.keywords.Keyword.TheVariants.{Context, Trigger, Device, Output, Average, Channel, Timestamp, Masks, Row, Driver, Attr}
use Rattle.iio_trigger.specs.declared.limits.TheConstants.{MAX_PLACES}
use Rattle.iio_desc.specs.declared.limits.TheConstants.{MAX_TRIGGERS, MAX_DEVICES, MAX_WINDOW}
use Rattle.iio_desc.specs.Description.{Description, input_number, trigger_number}
use Rattle.iio_desc.specs.DeviceLines.{unless_dash, channel_line, stamp_line, masks_line, row_line, driver_line, attr_line}
use Rattle.iio_desc.specs.PartialDevice.{PartialDevice, new_device}
use Rattle.iio_desc.specs.PartialDesc.{PartialDesc, all_devices, all_outputs, device_count, earlier_rows, is_taken, is_current_whole}

-- `context "TEXT"`; all from the second word on is the quoted text
abbrev pub context_line : PartialDesc → List (List ℕ) → List ℕ → Result PartialDesc Why
context_line desc words text = do
  ensure (is_none desc.context) why.Order
  ensure (nat_lt 0 (length words)) why.Count
  context ← ok_or (quoted_of text) why.Text
  Ok (record desc { context = Some context })

-- how many devices a trigger can serve
abbrev pub places_within : ℤ → Option ℕ
places_within (pos n) = if nat_le 1 n && nat_le n MAX_PLACES then Some n else None
places_within (negsuc n) = None

abbrev pub places_of : List ℕ → Option ℕ
places_of word = option_and_then (λ n. places_within n) (int_of word)

-- `trigger NAME PLACES`
abbrev pub trigger_line : PartialDesc → List (List ℕ) → Result PartialDesc Why
trigger_line desc words = do
  (name, places) ← ok_or (two_of words) why.Count
  ensure (is_name name) why.Name
  ensure (not (is_taken desc name)) why.Taken
  places ← ok_or (places_of places) why.Number
  ensure (nat_lt (length desc.triggers) MAX_TRIGGERS) why.Limit
  Ok (record desc { triggers = desc.triggers ++ (record { name = name; places = places }) ∷ [] })

-- `device NAME TRIGGER` or `output NAME TRIGGER`, where TRIGGER is `-` for none
abbrev pub device_line : PartialDesc → Direction → List (List ℕ) → Result PartialDesc Why
device_line desc direction words = do
  ensure (is_current_whole desc.current) why.Order
  (name, trigger) ← ok_or (two_of words) why.Count
  ensure (is_name name) why.Name
  ensure (not (is_taken desc name)) why.Taken
  trigger ← ok_or (unless_dash (trigger_number desc.triggers) trigger) why.Trigger
  ensure (nat_lt (device_count desc) MAX_DEVICES) why.Limit
  Ok (record desc { devices = all_devices desc; outputs = all_outputs desc; current = Some (new_device direction name trigger) })

-- how many captures make a mean
abbrev pub window_within : ℤ → Option ℕ
window_within (pos n) = if nat_le 2 n && nat_le n MAX_WINDOW then Some n else None
window_within (negsuc n) = None

abbrev pub window_of : List ℕ → Option ℕ
window_of word = option_and_then (λ n. window_within n) (int_of word)

-- with another averaging device; the device before has no further line, and no line of a device may follow
abbrev pub with_average : PartialDesc → List ℕ → ℕ → ℕ → PartialDesc
with_average desc name base window = record desc {
  devices = all_devices desc;
  outputs = all_outputs desc;
  averages = desc.averages ++ (record { name = name; base = base; window = window }) ∷ [];
  current = None;
}

-- `average NAME BASE W`, where BASE is the name of a `device` line above
abbrev pub average_line : PartialDesc → List (List ℕ) → Result PartialDesc Why
average_line desc words = do
  ensure (is_current_whole desc.current) why.Order
  (name, base, window) ← ok_or (three_of words) why.Count
  ensure (is_name name) why.Name
  ensure (not (is_taken desc name)) why.Taken
  base ← ok_or (input_number (all_devices desc) base) why.Device
  window ← ok_or (window_of window) why.Number
  ensure (nat_lt (device_count desc) MAX_DEVICES) why.Limit
  Ok (with_average desc name base window)

-- a line of the device whose lines are being read
abbrev pub part_line : PartialDesc → (PartialDevice → Result PartialDevice Why) → Result PartialDesc Why
part_line desc line = do
  device ← ok_or desc.current why.Order
  device ← line device
  Ok (record desc { current = Some device })

-- ---- a line by its first word

-- the words that begin lines
abbrev pub keywords : List (List ℕ × Keyword)
keywords =
    (codes "row", Row) ∷ (codes "channel", Channel) ∷ (codes "timestamp", Timestamp) ∷ (codes "masks", Masks) ∷ (codes "attr", Attr)
    ∷ (codes "driver", Driver) ∷ (codes "device", Device) ∷ (codes "output", Output)
    ∷ (codes "average", Average) ∷ (codes "trigger", Trigger) ∷ (codes "context", Context) ∷ []

-- the line that a word begins, among those of some keywords
abbrev pub keyword_among : List (List ℕ × Keyword) → List ℕ → Option Keyword
keyword_among [] word = None
keyword_among (k ∷ ks) word = if bytes_eq word k.0 then Some k.1 else keyword_among ks word

abbrev pub keyword_of : List ℕ → Option Keyword
keyword_of word = keyword_among keywords word

-- a line by its first word, the words after that, and the text from the second word on
abbrev pub keyword_line : PartialDesc → Keyword → List (List ℕ) → List ℕ → Result PartialDesc Why
keyword_line desc Context words text = context_line desc words text
keyword_line desc Trigger words text = trigger_line desc words
keyword_line desc Device words text = device_line desc direction.Input words
keyword_line desc Output words text = device_line desc direction.Output words
keyword_line desc Average words text = average_line desc words
keyword_line desc Channel words text = part_line desc (λ device. channel_line device words)
keyword_line desc Timestamp words text = part_line desc (λ device. stamp_line device words)
keyword_line desc Masks words text = part_line desc (λ device. masks_line device words)
keyword_line desc Row words text = part_line desc (λ device. row_line (earlier_rows desc) device words)
keyword_line desc Driver words text = part_line desc (λ device. driver_line desc.drivers desc.devices device words)
keyword_line desc Attr words text = part_line desc (λ device. attr_line device words)

-- a text from its first space on
abbrev pub from_space : List ℕ → List ℕ
from_space [] = []
from_space (b ∷ bs) = if is_space b then b ∷ bs else from_space bs

-- a line from its second word on
abbrev pub from_second_word : List ℕ → List ℕ
from_second_word line = from_word (from_space (from_word line))

-- a line by its words; one without a word means nothing
abbrev pub line_by_words : PartialDesc → List ℕ → List (List ℕ) → Result PartialDesc Why
line_by_words desc line [] = Ok desc
line_by_words desc line (word ∷ words) = do
  keyword ← ok_or (keyword_of word) why.Word
  keyword_line desc keyword words (from_second_word line)

-- what the lines say with another one
abbrev pub after_line : PartialDesc → List ℕ → Result PartialDesc Why
after_line desc line = do
  words ← words_of_line line
  line_by_words desc line words

-- ---- the end

-- the description, if no further line follows
abbrev pub desc_of : PartialDesc → Result Description Why
desc_of desc = do
  ensure (is_current_whole desc.current) why.Order
  Ok (record {
    context = unwrap_or desc.context [];
    triggers = desc.triggers;
    devices = all_devices desc;
    outputs = all_outputs desc;
    averages = desc.averages;
  })

-- whether a line ends the description: its first word is `%%`
abbrev pub begins_end : List (List ℕ) → Bool
begins_end [] = false
begins_end (word ∷ words) = bytes_eq word (codes "%%")

abbrev pub is_end : List ℕ → Bool
is_end line = begins_end (words_of is_space line)

-- the description, ended by a line in which no further word may stand
abbrev pub desc_at_end : PartialDesc → List ℕ → Result Description Why
desc_at_end desc line = do
  words_of_line line
  description ← desc_of desc
  ensure (nat_le (length (words_of is_space line)) 1) why.Count
  Ok description
