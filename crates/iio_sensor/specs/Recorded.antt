-- Recorded values as a driver.
use Rattle.std.specs.Prelude.{ℕ, zero, suc, ◌+◌, ◌*◌, List, [], take, drop, count_by, slice_index_or, ℤ, pos, int_le, Option}
use Rattle.iio_scan_type.specs.Format.{Format}
use Rattle.iio_layout.specs.Shape.{RowsRecord, formats_of}
use Rattle.iio_layout.specs.Layout.{format_at}
use Rattle.iio_layout.specs.Scan.{first_value}
use Rattle.iio_sensor.specs.Driver.{Driver, bias_in, with_bias}

-- the number of moments that have come
abbrev pub come_by : List ℤ → ℤ → ℕ
come_by moments t = count_by (λ m. int_le m t) moments

-- the last of the first n rows, or none if n is 0
abbrev pub row_before : RowsRecord → ℕ → List ℤ
row_before rows zero = []
row_before rows (suc k) = take rows.width (drop (k * rows.width) rows.values)

-- the row that holds at a moment: each holds from its moment to the next (this project's own)
abbrev pub row_at : RowsRecord → ℤ → List ℤ
row_at rows t = row_before rows (come_by rows.moments t)

-- the number for element k of channel c in a row; before the first row, and past a row's end, it is 0
abbrev pub number_in : List ℤ → List Format → ℕ → ℕ → ℤ
number_in row formats c k = slice_index_or row (first_value formats c + k) (pos 0)

-- the value for element k of channel c
abbrev pub value_in : List ℤ → List ℤ → List Format → ℕ → ℕ → ℤ
value_in row biases formats c k = with_bias (format_at formats c) (number_in row formats c k) (bias_in biases c)

-- what a recording has been told and asked
pub record RecordedRecord : Type 0 where
  pub rows : RowsRecord
  pub biases : List ℤ
  pub asked : ℕ
  pub last : Option (ℤ × ℕ)

-- the recording as a driver: no ask fails
abbrev pub driver_of : RecordedRecord → Driver
driver_of r = record {
  sample = λ shape c k t. number_in (row_at r.rows t) (formats_of shape) c k;
  bias = bias_in r.biases;
  asked = r.asked;
  last = r.last;
  fails = [];
  faults = 0;
}
