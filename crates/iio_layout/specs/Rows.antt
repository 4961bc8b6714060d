-- Rows that can be played back. (This project's own.)
use Rattle.std.specs.Prelude.{◌≡◌, ℕ, ◌*◌, ◌<◌, List, length, slice_index_or, ℤ, ◌<ℤ◌}
use Rattle.iio_layout.specs.Shape.{RowsRecord}

-- each moment is after those before it
abbrev pub Rises : List ℤ → Type 0
Rises moments = (i j : ℕ) (d : ℤ) → i < j → j < length moments → slice_index_or moments i d <ℤ slice_index_or moments j d

-- moments that rise, and as many values for each as a row has
pub record IsRecording (rows : RowsRecord) : Type 0 where
  pub rises : Rises rows.moments
  pub whole : length rows.values ≡ length rows.moments * rows.width
