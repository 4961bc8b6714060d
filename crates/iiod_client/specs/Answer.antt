-- A whole answer to READBUF. (libiio 0.25's iiod: blocks, the mask's line in the first of them, a closing 0 if fewer bytes
-- came than were asked for; that an answer has at least one block and whole scans is this project's own.)
use Rattle.std.specs.Prelude.{◌≡◌, ◌⊎◌, ℕ, ◌≤◌, ◌<◌, ◌+◌, ◌%◌, ◌==◌, if◌then◌else◌, List, [], ◌++◌, length, Some}
use Rattle.std.specs.List.{AllByRecursion, flat_map}
use Rattle.iio_text.specs.Numbers.{number_of}
use Rattle.iio_mask.specs.Text.{IsMaskText}
use Rattle.iiod_client.specs.Line.{line_text, zero_line, refusal_of, IsBegunLine, IsLongLine}

-- what a READBUF asks for: the number of bytes, the mask, its number of channels, and the size of a scan
pub record Asked : Type 0 where
  pub bytes : ℕ
  pub mask : ℕ
  pub channels : ℕ
  pub size : ℕ

-- a block: its length line, and its bytes
pub record Block : Type 0 where
  pub line : List ℕ
  pub bytes : List ℕ

-- the line gives the number of the block's bytes, which is at least 1
pub record IsBlock (block : Block) : Type 0 where
  pub is_line : IsBegunLine block.line
  pub counted : number_of block.line ≡ Some (length block.bytes)
  pub some : 1 ≤ length block.bytes

abbrev pub block_text : Block → List ℕ
block_text block = line_text block.line ++ block.bytes

-- the text of blocks; in the first one the mask's line comes after the length line
abbrev pub blocks_text : (mask : List ℕ) → (first : Block) → (later : List Block) → List ℕ
blocks_text mask first later = line_text first.line ++ (line_text mask ++ (first.bytes ++ flat_map block_text later))

-- the bytes of blocks, one after the other
abbrev pub blocks_body : (first : Block) → (later : List Block) → List ℕ
blocks_body first later = first.bytes ++ flat_map (λ (block : Block). block.bytes) later

-- a text that consists of one or more blocks with these bytes, no more than were asked for
pub record AreBlocks (q : Asked) (text body : List ℕ) : Type 0 where
  pub first : Block
  pub mask : List ℕ
  pub later : List Block
  pub is_first : IsBlock first
  pub is_mask_line : IsBegunLine mask
  pub is_mask : IsMaskText q.channels mask q.mask
  pub are_later : AllByRecursion IsBlock later
  pub body_is : body ≡ blocks_body first later
  pub text_is : text ≡ blocks_text mask first later
  pub within : length body ≤ q.bytes

-- blocks, or nothing yet
abbrev pub Begins : Asked → (text body : List ℕ) → Type 0
Begins q text body = ((text ≡ []) × (body ≡ [])) ⊎ AreBlocks q text body

-- the bytes are whole scans
abbrev pub AreScans : Asked → List ℕ → Type 0
AreScans q body = length body % q.size ≡ 0

-- what closes an answer: a line `0` if fewer bytes came than were asked for, and nothing if all came
abbrev pub closing : Asked → List ℕ → List ℕ
closing q body = if length body == q.bytes then [] else line_text zero_line

-- an answer of these bytes
pub record IsAnswer (q : Asked) (text body : List ℕ) : Type 0 where
  pub blocks : List ℕ
  pub are_blocks : AreBlocks q blocks body
  pub scans : AreScans q body
  pub text_is : text ≡ blocks ++ closing q body

-- an answer that ends with the refusal -n: in its first line, or in a later line where a length line is due
pub record IsRefusal (q : Asked) (n : ℕ) (text : List ℕ) : Type 0 where
  pub blocks : List ℕ
  pub body : List ℕ
  pub line : List ℕ
  pub begins : Begins q blocks body
  pub scans : AreScans q body
  pub short : length body < q.bytes
  pub is_line : IsBegunLine line
  pub number : refusal_of line ≡ Some n
  pub text_is : text ≡ blocks ++ line_text line

-- ---- texts that begin no answer

-- a line that can't stand where a length line is due after these bytes: neither the length of a block that fits, nor a
-- closing 0, nor a refusal
pub record IsWrongLine (q : Asked) (body line : List ℕ) : Type 0 where
  pub no_length : (n : ℕ) → number_of line ≡ Some n → 1 ≤ n → length body + n ≤ q.bytes → ⊥
  pub no_closing : line ≡ zero_line → 1 ≤ length body → AreScans q body → ⊥
  pub no_refusal : (n : ℕ) → refusal_of line ≡ Some n → AreScans q body → ⊥

-- such a line comes after blocks
pub record HasWrongLine (q : Asked) (text : List ℕ) : Type 0 where
  pub blocks : List ℕ
  pub body : List ℕ
  pub line : List ℕ
  pub begins : Begins q blocks body
  pub short : length body < q.bytes
  pub is_line : IsBegunLine line
  pub wrong : IsWrongLine q body line
  pub text_is : text ≡ blocks ++ line_text line

-- the length line of a first block that fits
pub record IsFirstLength (q : Asked) (n : ℕ) (line : List ℕ) : Type 0 where
  pub is_line : IsBegunLine line
  pub counted : number_of line ≡ Some n
  pub some : 1 ≤ n
  pub within : n ≤ q.bytes

-- the line after the first length line is not the mask's
pub record HasWrongMask (q : Asked) (text : List ℕ) : Type 0 where
  pub n : ℕ
  pub first : List ℕ
  pub line : List ℕ
  pub is_first : IsFirstLength q n first
  pub is_line : IsBegunLine line
  pub wrong : IsMaskText q.channels line q.mask → ⊥
  pub text_is : text ≡ line_text first ++ line_text line

-- what may come before a line: blocks that don't have all bytes yet, or the first length line
abbrev pub IsBeforeLine : Asked → List ℕ → Type 0
IsBeforeLine q front =
    ((body : List ℕ) × Begins q front body × (length body < q.bytes))
    ⊎ ((n : ℕ) × (first : List ℕ) × IsFirstLength q n first × (front ≡ line_text first))

-- a line is too long
pub record HasLongLine (q : Asked) (text : List ℕ) : Type 0 where
  pub front : List ℕ
  pub line : List ℕ
  pub before : IsBeforeLine q front
  pub long : IsLongLine line
  pub text_is : text ≡ front ++ line

-- all bytes that were asked for came, and they aren't whole scans
pub record HasUnevenEnd (q : Asked) (text : List ℕ) : Type 0 where
  pub body : List ℕ
  pub are_blocks : AreBlocks q text body
  pub full : length body ≡ q.bytes
  pub uneven : AreScans q body → ⊥

-- a text that begins no answer since its last byte
abbrev pub IsMalformed : Asked → List ℕ → Type 0
IsMalformed q text = HasWrongLine q text ⊎ (HasWrongMask q text ⊎ (HasLongLine q text ⊎ HasUnevenEnd q text))
