-- What a run has written when reading its input fails.
use Rattle.std.specs.Prelude.{◌≡◌, ℕ, ◌+◌, ◌≤◌, true, false, List, [], ◌++◌, length, take, drop, Option, Some}
use Rattle.iio_text.specs.Lines.{lines_of}
use Rattle.iio_sensor.specs.Driver.{Driver}
use Rattle.iio_desc.specs.DescReader.{new_reader}
use Rattle.iio_io.specs.Bytes.{TakesAtMost}
use Rattle.iio_history.specs.Input.{ended_part, input_limit}
use Rattle.iio_history.specs.Outcome.{Head, Cut, Described, Faulty, head_from, outcome_of, outcome_of_head}
use Rattle.iio_script.specs.declared.status.Status.{Status}
use Rattle.iio_script.specs.declared.status.Status.TheVariants.{Memory, ReadFault, WriteFault}
use Rattle.iio_script.specs.LineReader.{piece_size}
use Rattle.iio_script.specs.Plays.{FinishesAt, IsFrontOf, WritesText}

-- what the lines up to here print, if more may follow: nothing before the end of the description
abbrev pub so_far : List Driver → Head → List ℕ
so_far drivers Cut = []
so_far drivers (Described desc first lines) = (outcome_of_head drivers false (Described desc first lines)).printed
so_far drivers (Faulty fault) = (outcome_of_head drivers false (Faulty fault)).printed

-- what is printed for those lines of a front part of an input that end in an LF
abbrev pub whole_lines_of : List Driver → List ℕ → List ℕ
whole_lines_of drivers taken = so_far drivers (head_from true (new_reader (length drivers)) 1 (lines_of (ended_part taken)))

-- a read failed: a front part of the input was taken, and its whole lines print that text
pub record FailsRun (drivers : List Driver) (input text : List ℕ) (left : Option (List ℕ)) : Type 0 where
  pub begins : IsFrontOf (outcome_of drivers input) text
  pub count : ℕ
  pub rest : left ≡ Some (drop count input)
  pub lines : text ≡ whole_lines_of drivers (take count input)

-- before the last piece was taken, all that the whole lines taken until then print had been written
pub record AnswersFirst (drivers : List Driver) (input text : List ℕ) (left : Option (List ℕ)) : Type 0 where
  pub count : ℕ
  pub rest : left ≡ Some (drop count input)
  pub before : ℕ
  pub near : count ≤ before + piece_size
  pub more : List ℕ
  pub written : text ≡ whole_lines_of drivers (take before input) ++ more

-- how a run ends that has written that text
abbrev pub EndsRun : List Driver → (input : List ℕ) → Status → (text : List ℕ) → (left : Option (List ℕ)) → Type 0
EndsRun drivers input ReadFault text left = FailsRun drivers input text left
EndsRun drivers input WriteFault text left = IsFrontOf (outcome_of drivers input) text
EndsRun drivers input Memory text left = IsFrontOf (outcome_of drivers input) text
EndsRun drivers input status text left = FinishesAt (outcome_of drivers input) status input text left

-- a run over an input, with what it took and wrote
pub record Runs (drivers : List Driver) (input : List ℕ) (status : Status) (left before after : Option (List ℕ)) : Type 0 where
  pub text : List ℕ
  pub writes : WritesText before after text
  pub ends : EndsRun drivers input status text left
  pub takes : TakesAtMost input (input_limit + 1) left
  pub answers : AnswersFirst drivers input text left

-- a front part was taken, and exactly what its whole lines print was written
pub record WritesLines (drivers : List Driver) (left before : List ℕ) (remaining after : Option (List ℕ)) : Type 0 where
  pub count : ℕ
  pub rest : remaining ≡ Some (drop count left)
  pub written : after ≡ Some (before ++ whole_lines_of drivers (take count left))

-- the text that was written contains what the whole lines taken before the last piece print
pub record WritesFirst (drivers : List Driver) (left before : List ℕ) (remaining after : Option (List ℕ)) : Type 0 where
  pub text : List ℕ
  pub written : after ≡ Some (before ++ text)
  pub answers : AnswersFirst drivers left text remaining
