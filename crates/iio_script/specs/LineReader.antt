-- An input that is read line by line. (This project's own.)
use Rattle.std.specs.Prelude.{◌≡◌, ◌⊎◌, ℕ, zero, suc, min, ◌+◌, ◌-◌, ◌<◌, ◌≤◌, Bool, true, false, List, [], ◌∷◌, ◌++◌, length, take, drop, Option, Some, get_or, if◌then◌else◌}
use Rattle.std.specs.List.{list_any}
use Rattle.iio_text.specs.Lines.{is_line_end, lines_of}
use Rattle.iio_text.specs.declared.lines.TheConstants.{MAX_LINE_BYTES}
use Rattle.iio_desc.specs.Lines.{is_end}
use Rattle.iio_history.specs.Input.{ended_part, input_limit, is_overlong, scanned_lines}
use Rattle.iio_script.specs.declared.line_reader.TheConstants.{MAX_PIECE_BYTES}
use Rattle.iio_script.specs.declared.line_reader.Found.{Found}
use Rattle.iio_script.specs.declared.line_reader.Found.TheVariants.{Cut, End, Line, Long}

-- the maximum number of bytes that one read asks for
abbrev pub piece_size : ℕ
piece_size = MAX_PIECE_BYTES

-- what a reader has in hand: the bytes that were taken and not given yet; the number of them that were looked at, none of
-- which is an LF; the number of bytes given before; whether the source has shown its end; and whether its last line was given
pub record Hand : Type 0 where
  pub bytes : List ℕ
  pub looked : ℕ
  pub given : ℕ
  pub ended : Bool
  pub over : Bool

-- what a reader has in hand before the first byte
abbrev pub empty_hand : Hand
empty_hand = record { bytes = []; looked = 0; given = 0; ended = false; over = false }

-- the number of bytes that were taken in all
abbrev pub taken_of : Hand → ℕ
taken_of h = h.given + length h.bytes

-- the line in hand
abbrev pub line_of : Hand → List ℕ
line_of h = take h.looked h.bytes

-- no byte of a text is an LF
abbrev pub IsPlain : List ℕ → Type 0
IsPlain text = list_any is_line_end text ≡ false

-- at most a piece was taken beyond what was looked at, and in all no more than one byte beyond the limit
pub record IsHand (h : Hand) : Type 0 where
  pub looked : h.looked ≤ length h.bytes
  pub plain : IsPlain (line_of h)
  pub near : length h.bytes ≤ h.looked + piece_size
  pub few : length h.bytes ≤ MAX_LINE_BYTES + piece_size
  pub given : h.given ≤ input_limit
  pub within : taken_of h ≤ input_limit + 1

-- a read appended the next bytes to those taken before; it gives none only at the end
pub record ReadsPiece (left before after : List ℕ) (count : ℕ) (remaining : Option (List ℕ)) : Type 0 where
  pub enough : count ≤ length left
  pub bytes : after ≡ before ++ take count left
  pub rest : remaining ≡ Some (drop count left)
  pub end : count ≡ 0 → left ≡ []

-- ---- what the bytes in hand show

-- the next byte is an LF
pub record StandsAtEnd (h : Hand) : Type 0 where
  pub some : h.looked < length h.bytes
  pub end : get_or h.bytes h.looked 0 ≡ 10

-- a whole line, with its LF
pub record HasEnded (h : Hand) : Type 0 where
  pub going : h.over ≡ false
  pub stands : StandsAtEnd h
  pub within : h.given + h.looked < input_limit

-- the last line, which ends with the input
pub record HasLast (h : Hand) : Type 0 where
  pub going : h.over ≡ false
  pub ended : h.ended ≡ true
  pub some : 0 < h.looked
  pub all : h.looked ≡ length h.bytes
  pub within : taken_of h ≤ input_limit

-- a line
abbrev pub HasLine : Hand → Type 0
HasLine h = HasEnded h ⊎ HasLast h

-- more bytes of a line than it may have
pub record IsLong (h : Hand) : Type 0 where
  pub going : h.over ≡ false
  pub long : MAX_LINE_BYTES < h.looked
  pub within : h.given + MAX_LINE_BYTES < input_limit

-- the input has more bytes than are looked at, and no further line is certain
pub record IsCut (h : Hand) : Type 0 where
  pub going : h.over ≡ false
  pub all : length h.bytes ≤ h.looked + 1
  pub more : taken_of h ≡ input_limit + 1
  pub short : input_limit ≤ h.given + MAX_LINE_BYTES

-- no line is left: the last one was given, or no byte comes after the one before
pub record IsSpent (h : Hand) : Type 0 where
  pub ended : h.ended ≡ true
  pub none : h.bytes ≡ []

abbrev pub IsDone : Hand → Type 0
IsDone h = (h.over ≡ true) ⊎ IsSpent h

-- a part of a line, or nothing; more may come
pub record NeedsMore (h : Hand) : Type 0 where
  pub going : h.over ≡ false
  pub unended : h.ended ≡ false
  pub all : h.looked ≡ length h.bytes
  pub short : length h.bytes ≤ MAX_LINE_BYTES
  pub within : taken_of h ≤ input_limit

abbrev pub Shows : Found → Hand → Type 0
Shows Line h = HasLine h
Shows Long h = IsLong h
Shows End h = IsDone h
Shows Cut h = IsCut h

-- how much can still be taken, counting the end as one
abbrev pub to_take : Hand → ℕ
to_take h = if h.ended then 0 else input_limit + 2 - taken_of h

-- ---- the input that a reader goes through

-- the number of bytes of lines, with an LF for each
abbrev pub ended_size : List (List ℕ) → ℕ
ended_size [] = 0
ended_size (line ∷ lines) = length line + 1 + ended_size lines

-- a front part of a text that is empty or ends with an LF, and its lines, which are the same whatever follows
pub record IsFront (bytes : List ℕ) (front : List (List ℕ)) : Type 0 where
  pub lines : (more : List ℕ) → lines_of (bytes ++ more) ≡ front ++ lines_of more
  pub ended : (more : List ℕ) → ended_part (bytes ++ more) ≡ bytes ++ ended_part more
  pub size : ended_size front ≡ length bytes

-- these lines of the input were given, the bytes in hand come next, and the source has those after them
pub record FollowsFront (input : List ℕ) (front : List (List ℕ)) (h : Hand) (left : Option (List ℕ)) : Type 0 where
  pub bytes : List ℕ
  pub rest : List ℕ
  pub left_is : left ≡ Some rest
  pub parts : input ≡ bytes ++ (h.bytes ++ rest)
  pub given : length bytes ≡ h.given
  pub front_is : IsFront bytes front
  pub end : h.ended ≡ true → rest ≡ []

-- all lines of the input were given, and the last one had no LF
pub record FollowsAll (input : List ℕ) (front : List (List ℕ)) (left : Option (List ℕ)) : Type 0 where
  pub none_left : left ≡ Some []
  pub lines : scanned_lines input ≡ front
  pub every : lines_of input ≡ front
  pub short : is_overlong input ≡ false
  pub size : length input ≤ ended_size front

-- a reader with this in hand has given these lines of the input
abbrev pub FollowsBy : (over : Bool) (input : List ℕ) (front : List (List ℕ)) (h : Hand) (left : Option (List ℕ)) → Type 0
FollowsBy true input front h left = FollowsAll input front left
FollowsBy false input front h left = FollowsFront input front h left

abbrev pub Follows : (input : List ℕ) (front : List (List ℕ)) (h : Hand) (left : Option (List ℕ)) → Type 0
Follows input front h left = FollowsBy h.over input front h left

-- ---- how much was taken

-- the number of bytes of lines up to the byte at which the line with that
-- number, counted from 1, fails: its LF, or the first byte that is too many
abbrev pub bytes_until : ℕ → List (List ℕ) → ℕ
bytes_until n [] = 0
bytes_until zero (line ∷ lines) = 0
bytes_until (suc zero) (line ∷ lines) = min (length line) MAX_LINE_BYTES + 1
bytes_until (suc (suc n)) (line ∷ lines) = length line + 1 + bytes_until (suc n) lines

-- a front part was taken, which goes at most a piece beyond the byte at which the line with that number fails
pub record TakesNear (line : ℕ) (left : List ℕ) (remaining : Option (List ℕ)) : Type 0 where
  pub count : ℕ
  pub enough : count ≤ length left
  pub near : count ≤ bytes_until line (lines_of left) + piece_size
  pub rest : remaining ≡ Some (drop count left)

-- whether a line of a text, ended by an LF, is the end of a description
abbrev pub has_end : List ℕ → Bool
has_end text = list_any is_end (lines_of (ended_part text))

-- a front part was taken: at most one byte more than are looked at, and less
-- than a piece more than any front part with a line that ends the description
pub record TakesBlocks (left : List ℕ) (remaining : Option (List ℕ)) : Type 0 where
  pub count : ℕ
  pub within : count ≤ input_limit + 1
  pub near : (m : ℕ) → has_end (take m left) ≡ true → count < m + piece_size
  pub rest : remaining ≡ Some (drop count left)
