-- What the head of an input is read as.
use Rattle.std.specs.Prelude.{◌≡◌, ℕ, ◌+◌, ◌≤◌, Bool, true, false, List, [], ◌++◌, length, take, drop, Option, Some}
use Rattle.iio_text.specs.Lines.{lines_of}
use Rattle.iio_desc.specs.declared.reader.DescFault.TheVariants.{Line}
use Rattle.iio_desc.specs.Description.{Description}
use Rattle.iio_desc.specs.DescReader.{new_reader}
use Rattle.iio_desc.specs.WellFormed.{IsWellFormed}
use Rattle.iio_history.specs.Input.{ended_part, is_overlong}
use Rattle.iio_history.specs.Outcome.{Head, Cut, Described, Faulty, head_from, head_of}
use Rattle.iio_script.specs.LineReader.{Follows, Hand, TakesNear, piece_size}
use Rattle.iio_script.specs.declared.opening.Opening.{Opening}
use Rattle.iio_script.specs.declared.opening.Opening.TheVariants as read

-- the head that an opening stands for, if the lines `more` come after it and the next line has the number `next`
abbrev pub told : ℕ → List (List ℕ) → Opening → Head
told next more (read.Described desc first) = Described desc first more
told next more (read.Alone desc) = Described desc next []
told next more (read.Refused line why) = Faulty (Line line why)
told next more read.Cut = Cut

-- the description is well formed with `drivers` drivers
abbrev pub IsSoundOpening : ℕ → Opening → Type 0
IsSoundOpening drivers (read.Described desc first) = IsWellFormed drivers desc
IsSoundOpening drivers (read.Alone desc) = IsWellFormed drivers desc
IsSoundOpening drivers (read.Refused line why) = Unit {0}
IsSoundOpening drivers read.Cut = Unit {0}

-- if it is refused, it is at that line
abbrev pub IsRefusedAt : ℕ → Opening → Type 0
IsRefusedAt number (read.Refused line why) = line ≡ number
IsRefusedAt number opening = Unit {0}

-- an opening that the line with that number ended, and one that no line ended
abbrev pub IsEnded : ℕ → Opening → Type 0
IsEnded number (read.Described desc first) = first ≡ number + 1
IsEnded number (read.Alone desc) = ⊥
IsEnded number opening = Unit {0}

abbrev pub IsUnended : Opening → Type 0
IsUnended (read.Described desc first) = ⊥
IsUnended opening = Unit {0}

-- a line ended the description: whatever comes after the lines that were given is its script
pub record EndsAt (drivers : ℕ) (desc : Description) (first : ℕ) (input : List ℕ) (h : Hand) (left : Option (List ℕ)) : Type 0 where
  pub front : List (List ℕ)
  pub follows : Follows input front h left
  pub next : first ≡ length front + 1
  pub head : (overlong : Bool) (more : List (List ℕ)) → head_from overlong (new_reader drivers) 1 (front ++ more) ≡ Described desc first more
  pub behind : List (List ℕ)
  pub whole : head_of drivers input ≡ Described desc first behind

-- the description ended with the input
pub record EndsAlone (drivers : ℕ) (desc : Description) (input : List ℕ) : Type 0 where
  pub next : ℕ
  pub head : head_of drivers input ≡ Described desc next []
  pub short : is_overlong input ≡ false

-- a line of the description is refused, and not much more was taken
pub record RefusesAt (drivers : ℕ) (opening : Opening) (line : ℕ) (input : List ℕ) (left : Option (List ℕ)) : Type 0 where
  pub head : head_of drivers input ≡ told 0 [] opening
  pub near : TakesNear line input left

-- what was read from an input whose description may use `drivers` drivers
abbrev pub Opens : ℕ → Opening → (input : List ℕ) → Hand → (left : Option (List ℕ)) → Type 0
Opens drivers (read.Described desc first) input h left = EndsAt drivers desc first input h left
Opens drivers (read.Alone desc) input h left = EndsAlone drivers desc input
Opens drivers (read.Refused line why) input h left = RefusesAt drivers (read.Refused line why) line input left
Opens drivers read.Cut input h left = head_of drivers input ≡ Cut

-- the number of the line after a description is within what was taken
abbrev pub StartsAt : Opening → Hand → Type 0
StartsAt (read.Described desc first) h = first ≤ h.given + 1
StartsAt opening h = Unit {0}

-- a read failed before the description's end: none of the whole lines taken ends it, and none is refused
pub record FailsWithin (drivers : ℕ) (input : List ℕ) (left : Option (List ℕ)) : Type 0 where
  pub count : ℕ
  pub rest : left ≡ Some (drop count input)
  pub head : head_from true (new_reader drivers) 1 (lines_of (ended_part (take count input))) ≡ Cut

-- before the last piece was taken, no whole line had ended the description, and none had been refused
pub record TakesUnended (drivers : ℕ) (input : List ℕ) (left : Option (List ℕ)) : Type 0 where
  pub count : ℕ
  pub rest : left ≡ Some (drop count input)
  pub before : ℕ
  pub near : count ≤ before + piece_size
  pub head : head_from true (new_reader drivers) 1 (lines_of (ended_part (take before input))) ≡ Cut
