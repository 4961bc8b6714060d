-- What a whole line does to an answer. Only private functions cite this.
use Rattle.std.specs.Prelude.{◌≡◌, ℕ, ◌≤◌, ◌<◌, ◌+◌, List, [], length, Some}
use Rattle.iio_text.specs.Numbers.{number_of}
use Rattle.iio_mask.specs.Text.{IsMaskText}
use Rattle.iiod_client.specs.declared.answer.Place.{Place}
use Rattle.iiod_client.specs.declared.answer.Place.TheVariants.{Length, Mask, Data, Done, Refused, Malformed}
use Rattle.iiod_client.specs.Standing.{AnswerRecord}
use Rattle.iiod_client.specs.Line.{zero_line, refusal_of}
use Rattle.iiod_client.specs.Answer.{Asked, AreScans, IsWrongLine}

-- after a line where a length line is due; `body` are the bytes before it
abbrev pub AfterLength : Asked → (body line : List ℕ) → Place → Type 0
AfterLength q body line Length = ⊥
AfterLength q body line (Mask n) = (number_of line ≡ Some n) × (1 ≤ n) × (n ≤ q.bytes) × (body ≡ [])
AfterLength q body line (Data n) = (number_of line ≡ Some n) × (1 ≤ n) × (length body + n ≤ q.bytes) × (1 ≤ length body)
AfterLength q body line Done = (line ≡ zero_line) × (1 ≤ length body) × AreScans q body
AfterLength q body line (Refused n) = (refusal_of line ≡ Some n) × AreScans q body
AfterLength q body line Malformed = IsWrongLine q body line

-- after a line where the mask's line is due; the length line before it gave n
abbrev pub AfterMask : Asked → (n : ℕ) → (line : List ℕ) → Place → Type 0
AfterMask q n line (Data missing) = (missing ≡ n) × IsMaskText q.channels line q.mask
AfterMask q n line Malformed = IsMaskText q.channels line q.mask → ⊥
AfterMask q n line place = ⊥

-- after the end of a block; `body` are the data bytes
abbrev pub AfterBlock : Asked → (body : List ℕ) → Place → Type 0
AfterBlock q body Length = length body < q.bytes
AfterBlock q body Done = (length body ≡ q.bytes) × AreScans q body
AfterBlock q body Malformed = (length body ≡ q.bytes) × (AreScans q body → ⊥)
AfterBlock q body place = ⊥

-- after some bytes of a block, of which `left` are still to come; `body` are the data bytes so far
abbrev pub AfterBytes : Asked → (left : ℕ) → (body : List ℕ) → Place → Type 0
AfterBytes q left body (Data missing) = (missing ≡ left) × (1 ≤ left) × (length body + left ≤ q.bytes)
AfterBytes q left body place = (left ≡ 0) × AfterBlock q body place

-- after the line that ends
abbrev pub AfterLineAt : Place → Asked → (line body : List ℕ) → Place → Type 0
AfterLineAt Length q line body place = AfterLength q body line place
AfterLineAt (Mask n) q line body place = AfterMask q n line place
AfterLineAt at q line body place = Unit {0}

abbrev pub AfterLine : AnswerRecord → Place → Type 0
AfterLine x place = AfterLineAt x.place x.asked x.line x.body place
