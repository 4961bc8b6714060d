-- What an item of a connection is answered, and the bytes of the answer. (libiio 0.25's iiod. That a value's number leaves out
-- its closing LF, and READBUF's block with its one mask and its closing 0, are this project's own.)
use Rattle.std.specs.Prelude.{◌≡◌, ◌+◌, ◌≤◌, ℕ, ℤ, pos, negsuc, neg_ℤ, nat_lt, if◌then◌else◌, codes, ⊤, List, [], ◌∷◌, ◌++◌, length, Result, Ok, Err, IsOk}
use Rattle.std.specs.Fmt.{decimal, signed_decimal}
use Rattle.std.specs.List.{flat_map}
use Rattle.iio_base.specs.declared.Mem.{Mem}
use Rattle.iio_text.specs.declared.errors.Errno.{Errno}
use Rattle.iio_text.specs.Errno.{errno_number}
use Rattle.iio_mask.specs.Text.{digit_count, mask_text}

pub data Reply : Type 0 where
  -- no answer: to a line without a word, and to EXIT
  Nothing : Reply
  -- a plain number
  Number : (n : ℤ) → Reply
  -- minus the number of an error
  Refusal : (error : Errno) → Reply
  -- a text that is a line of its own, the answer to HELP and VERSION
  Line : (text : List ℕ) → Reply
  -- a value, the answer to PRINT, READ and GETTRIG
  Value : (bytes : List ℕ) → Reply
  -- bytes with no line after them, the answer to EVREAD
  Raw : (bytes : List ℕ) → Reply
  -- READBUF's scans under the member's own mask, with the number of channels, and the number of bytes that were asked for
  Block : (channels mask : ℕ) (scans : List (List ℕ)) (asked : ℕ) → Reply
  -- memory ran out, which only a server answers
  NoMemory : Reply

-- a text and LF
abbrev pub line : List ℕ → List ℕ
line text = text ++ 10 ∷ []

-- a number in decimal, with its sign if it is negative, and LF
abbrev pub number_text : ℤ → List ℕ
number_text n = line (signed_decimal n)

-- the number of bytes that follow, in a line of its own
abbrev pub length_text : List ℕ → List ℕ
length_text bytes = number_text (pos (length bytes))

abbrev pub value_text : List ℕ → List ℕ
value_text bytes = length_text bytes ++ line bytes

-- a 0 if fewer bytes came than were asked for
abbrev pub closing_text : ℕ → ℕ → List ℕ
closing_text came asked = if nat_lt came asked then line (codes "0") else []

-- what comes before the bytes of a block's scans: their number, and the mask that they are under
abbrev pub head_text : ℕ → ℕ → ℕ → List ℕ
head_text channels mask came = number_text (pos came) ++ line (mask_text channels mask)

-- the number of bytes of that head
abbrev pub head_length : ℕ → ℕ → ℕ
head_length channels came = length (decimal came) + 1 + digit_count channels + 1

abbrev pub block_text : ℕ → ℕ → List ℕ → ℕ → List ℕ
block_text channels mask bytes asked = head_text channels mask (length bytes) ++ (bytes ++ closing_text (length bytes) asked)

-- the bytes of scans, one after another
abbrev pub joined_scans : List (List ℕ) → List ℕ
joined_scans scans = flat_map (λ scan. scan) scans

-- the bytes of a reply
abbrev pub text_of : Reply → List ℕ
text_of Nothing = []
text_of (Number n) = number_text n
text_of (Refusal error) = number_text (neg_ℤ (pos (errno_number error)))
text_of (Line text) = line text
text_of (Value bytes) = value_text bytes
text_of (Raw bytes) = length_text bytes ++ bytes
text_of (Block channels mask scans asked) = block_text channels mask (joined_scans scans) asked
text_of NoMemory = number_text (negsuc 11)

-- `text` is appended to what was there; or memory ran out, and what was there stays
abbrev pub Appends : List ℕ → List ℕ → Result ⊤ Mem → List ℕ → Type 0
Appends text old (Ok done) new = new ≡ old ++ text
Appends text old (Err mem) new = new ≡ old

-- `n` bytes of any value are appended; or memory ran out, and what was there stays
abbrev pub AppendsRoom : ℕ → List ℕ → Result ⊤ Mem → List ℕ → Type 0
AppendsRoom n old (Ok done) new = (room : List ℕ) × (length room ≡ n) × (new ≡ old ++ room)
AppendsRoom n old (Err mem) new = new ≡ old

-- if the room is there already, memory doesn't run out
abbrev pub FitsInRoom : List ℕ → List ℕ → ℕ → Result ⊤ Mem → Type 0
FitsInRoom text old capacity result = length old + length text ≤ capacity → IsOk result
