-- The lines of a description, one after another. (This project's own.)
use Rattle.std.specs.Prelude.{ℕ, ◌+◌, List, [], ◌∷◌, Option, Some, None, Result, Ok, Err}
use Rattle.iio_base.specs.Refusals.{◌>>=◌}
use Rattle.iio_text.specs.Lines.{lines_of}
use Rattle.iio_desc.specs.declared.reader.DescFault.{DescFault}
use Rattle.iio_desc.specs.Description.{Description}
use Rattle.iio_desc.specs.DescFault.{at_line}
use Rattle.iio_desc.specs.Lines as line
use Rattle.iio_desc.specs.PartialDesc.{PartialDesc, new_desc}

-- how many lines were read, and what they say
pub record Reading : Type 0 where
  pub lines : ℕ
  pub desc : PartialDesc

-- a reader is what it has read, or the fault that it returns from then on
abbrev pub Reader : Type 0
Reader = Result Reading DescFault

-- before the first line, of a description that may use `drivers` drivers
abbrev pub new_reader : ℕ → Reader
new_reader drivers = Ok (record { lines = 0; desc = new_desc drivers })

-- how many lines were read; after a fault none
abbrev pub line_count : Reader → ℕ
line_count (Ok reading) = reading.lines
line_count (Err fault) = 0

-- how many drivers the description may use; after a fault none
abbrev pub drivers_of : Reader → ℕ
drivers_of (Ok reading) = reading.desc.drivers
drivers_of (Err fault) = 0

-- after another line; lines are numbered from 1
abbrev pub after_line : Reader → List ℕ → Reader
after_line reader text = do
  reading ← reader
  desc ← at_line (reading.lines + 1) (line.after_line reading.desc text)
  Ok (record { lines = reading.lines + 1; desc = desc })

-- the description, if no further line follows. One that may not end yet is refused at the line after the last
abbrev pub finished : Reader → Result Description DescFault
finished reader = do
  reading ← reader
  at_line (reading.lines + 1) (line.desc_of reading.desc)

-- the description, given the line that ends it
abbrev pub ended_by : Reader → List ℕ → Result Description DescFault
ended_by reader text = do
  reading ← reader
  at_line (reading.lines + 1) (line.desc_at_end reading.desc text)

-- the description, with these lines as the last ones
abbrev pub read_lines : Reader → List (List ℕ) → Result Description DescFault
read_lines reader [] = finished reader
read_lines reader (text ∷ lines) = read_lines (after_line reader text) lines

-- the description that a text says, or its first line that is refused with the first check that fails
abbrev pub read_of : ℕ → List ℕ → Result Description DescFault
read_of drivers text = read_lines (new_reader drivers) (lines_of text)

-- what the fields of a reader show
abbrev pub reader_of : ℕ → PartialDesc → Option DescFault → Reader
reader_of lines desc None = Ok (record { lines = lines; desc = desc })
reader_of lines desc (Some fault) = Err fault
