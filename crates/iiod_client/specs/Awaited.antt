-- What a client awaits after a line: a plain answer after OPEN and CLOSE, an
-- answer to READBUF after READBUF, nothing after EXIT. (libiio 0.25's iiod.)
use Rattle.std.specs.Prelude.{◌≡◌, ◌⊎◌, ℕ, List, [], Some, None}
use Rattle.iiod_client.specs.Line.{line_text, zero_line, refusal_of, IsBegunLine, IsLongLine}
use Rattle.iiod_client.specs.Answer.{Asked, IsAnswer, IsRefusal, IsMalformed}
use Rattle.iiod_client.specs.Standing.{IsPartial}

pub data Awaited : Type 0 where
  Plain : Awaited
  Scans : (q : Asked) → Awaited
  Nothing : Awaited

-- the text is the awaited answer, with these data bytes: a plain one is the line `0`
abbrev pub IsAccepted : Awaited → (text body : List ℕ) → Type 0
IsAccepted Plain text body = (text ≡ line_text zero_line) × (body ≡ [])
IsAccepted (Scans q) text body = IsAnswer q text body
IsAccepted Nothing text body = ⊥

-- a plain answer that is the negative number -n
pub record IsPlainRefusal (n : ℕ) (text : List ℕ) : Type 0 where
  pub line : List ℕ
  pub is_line : IsBegunLine line
  pub number : refusal_of line ≡ Some n
  pub text_is : text ≡ line_text line

-- the text is a refusal by -n instead of that answer
abbrev pub IsRefused : Awaited → ℕ → List ℕ → Type 0
IsRefused Plain n text = IsPlainRefusal n text
IsRefused (Scans q) n text = IsRefusal q n text
IsRefused Nothing n text = ⊥

-- a line that isn't a plain answer
pub record IsWrongPlain (text : List ℕ) : Type 0 where
  pub line : List ℕ
  pub is_line : IsBegunLine line
  pub no_zero : line ≡ zero_line → ⊥
  pub no_refusal : refusal_of line ≡ None
  pub text_is : text ≡ line_text line

-- since its last byte the text begins neither
abbrev pub IsWrong : Awaited → List ℕ → Type 0
IsWrong Plain text = IsWrongPlain text ⊎ IsLongLine text
IsWrong (Scans q) text = IsMalformed q text
IsWrong Nothing text = ⊥

-- the text may go on
abbrev pub IsUnfinished : Awaited → List ℕ → Type 0
IsUnfinished Plain text = IsBegunLine text
IsUnfinished (Scans q) text = (body : List ℕ) × IsPartial q text body
IsUnfinished Nothing text = ⊥
