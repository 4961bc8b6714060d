-- Where an answer of which some bytes have come stands in the grammar of answers.
use Rattle.std.specs.Prelude.{◌≡◌, ◌⊎◌, ℕ, ◌≤◌, ◌<◌, ◌+◌, ◌-◌, ◌*◌, Option, Some, List, [], ◌++◌, length}
use Rattle.iiod_client.specs.declared.answer.State.{State}
use Rattle.iiod_client.specs.declared.answer.State.TheVariants as state
use Rattle.iiod_client.specs.declared.answer.Place.{Place}
use Rattle.iiod_client.specs.declared.answer.Place.TheVariants.{Length, Mask, Data, Done, Refused, Malformed}
use Rattle.iiod_client.specs.Line.{line_text, IsBegunLine}
use Rattle.iiod_client.specs.Answer.{Asked, Begins, AreBlocks, IsAnswer, IsRefusal, IsMalformed, IsFirstLength}

-- what was asked for, the place, the bytes of a line that hasn't ended, and the data bytes so far
pub record AnswerRecord : Type 0 where
  pub asked : Asked
  pub place : Place
  pub line : List ℕ
  pub body : List ℕ

-- an answer of which nothing has come
abbrev pub new_answer : Asked → AnswerRecord
new_answer q = record { asked = q; place = Length; line = []; body = [] }

-- after blocks, or at the beginning, within a line where a length line is due
pub record InLength (q : Asked) (line body text : List ℕ) : Type 0 where
  pub blocks : List ℕ
  pub begins : Begins q blocks body
  pub short : length body < q.bytes
  pub begun : IsBegunLine line
  pub text_is : text ≡ blocks ++ line

-- after the first length line, within the mask's line
pub record InMask (q : Asked) (n : ℕ) (line body text : List ℕ) : Type 0 where
  pub first : List ℕ
  pub is_first : IsFirstLength q n first
  pub begun : IsBegunLine line
  pub none : body ≡ []
  pub text_is : text ≡ line_text first ++ line

-- within the bytes of a block, of which `missing` are still to come, whatever these are
pub record InData (q : Asked) (missing : ℕ) (body text : List ℕ) : Type 0 where
  pub some : 1 ≤ missing
  pub within : length body + missing ≤ q.bytes
  pub whole : (rest : List ℕ) → length rest ≡ missing → AreBlocks q (text ++ rest) (body ++ rest)

-- the bytes so far are this text
abbrev pub StandsAt : Place → Asked → (line body text : List ℕ) → Type 0
StandsAt Length q line body text = InLength q line body text
StandsAt (Mask n) q line body text = InMask q n line body text
StandsAt (Data missing) q line body text = InData q missing body text
StandsAt Done q line body text = IsAnswer q text body
StandsAt (Refused n) q line body text = IsRefusal q n text
StandsAt Malformed q line body text = IsMalformed q text

abbrev pub Stands : AnswerRecord → List ℕ → Type 0
Stands x text = StandsAt x.place x.asked x.line x.body text

-- the beginning of an answer, which isn't whole in any way yet
abbrev pub IsPartial : Asked → (text body : List ℕ) → Type 0
IsPartial q text body =
    ((line : List ℕ) × InLength q line body text) ⊎ (((n : ℕ) × (line : List ℕ) × InMask q n line body text) ⊎ ((missing : ℕ) × InData q missing body text))

-- what a state says about the text so far and its data bytes
abbrev pub Reads : Asked → State → (text body : List ℕ) → Type 0
Reads q state.More text body = IsPartial q text body
Reads q state.Done text body = IsAnswer q text body
Reads q (state.Refused n) text body = IsRefusal q n text
Reads q state.Malformed text body = IsMalformed q text

-- the state of a place
abbrev pub state_of : Place → State
state_of Length = state.More
state_of (Mask n) = state.More
state_of (Data missing) = state.More
state_of Done = state.Done
state_of (Refused n) = state.Refused n
state_of Malformed = state.Malformed

abbrev pub most_at : Place → (missing line : ℕ) → ℕ
most_at Length missing line = 200 * missing + (33 - line)
most_at (Mask n) missing line = 200 * missing - 100 + (33 - line)
most_at (Data n) missing line = 200 * missing - 150
most_at Done missing line = 0
most_at (Refused n) missing line = 0
most_at Malformed missing line = 0

-- an upper bound of the bytes that may still come: each byte of a line
-- counts once, and each byte still asked for as if it had a block of its own
abbrev pub most_to_come : AnswerRecord → ℕ
most_to_come x = most_at x.place (x.asked.bytes - length x.body) (length x.line)

-- ---- what the code's steps ensure. Only private functions cite this

-- what the code may rely on at a place
abbrev pub IsSoundPlace : Place → Asked → (line body : List ℕ) → Type 0
IsSoundPlace Length q line body = length body < q.bytes
IsSoundPlace (Mask n) q line body = (1 ≤ n) × (n ≤ q.bytes) × (body ≡ [])
IsSoundPlace (Data missing) q line body = (1 ≤ missing) × (length body + missing ≤ q.bytes) × (line ≡ [])
IsSoundPlace Done q line body = Unit {0}
IsSoundPlace (Refused n) q line body = Unit {0}
IsSoundPlace Malformed q line body = Unit {0}

-- ---- a law

-- the states of an answer that has ended
abbrev pub IsEnd : State → Type 0
IsEnd state.More = ⊥
IsEnd state.Done = Unit {0}
IsEnd (state.Refused n) = Unit {0}
IsEnd state.Malformed = Unit {0}

-- the data bytes of a whole answer
abbrev pub told_body : State → List ℕ → List ℕ
told_body state.Done body = body
told_body s body = []

-- the reading of a text: its state, and the data bytes if it is a whole answer
abbrev pub reading_of : State → List ℕ → Option (State × List ℕ)
reading_of s body = Some (s, told_body s body)

-- a text that has ended has no other reading, and no longer text that begins with it has any
abbrev pub OneReading : Type 0
OneReading = (q : Asked) (s t : State) (text more body other : List ℕ) → IsEnd s → Reads q s text body → Reads q t (text ++ more) other
    → (more ≡ []) × (reading_of t other ≡ reading_of s body)
