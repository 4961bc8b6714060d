-- The input that a number makes: a device with eight channels and recorded rows, and steps of four connections at it. (This
-- project's own.)
use Rattle.std.specs.Prelude.{◌≡◌, ℕ, zero, suc, ◌+◌, ◌*◌, ◌==◌, nat_le, if◌then◌else◌, List, [], ◌∷◌, ◌++◌, codes, slice_index_or}
use Rattle.std.specs.Fmt.{decimal}
use Rattle.iio_text.specs.Escape.{quoted}
use Rattle.iio_mask.specs.Text.{mask_text}
use Rattle.iiod_reply.specs.Reply.{line}
use Rattle.iio_gen.specs.declared.description.TheConstants.{CHANNELS, ROWS, ROW_TIME, TYPES, VALUES}
use Rattle.iio_gen.specs.declared.digits.TheConstants.{MASK_BITS}
use Rattle.iio_gen.specs.declared.feeds.TheConstants.{BYTES, CONNECTIONS, MASKS, SAMPLES}
use Rattle.iio_gen.specs.declared.steps.TheConstants.{KINDS, STEPS, STEP_TIME}
use Rattle.iio_gen.specs.Generator.{Drawn, draw, given, ◌>>=◌}

-- the texts made for the numbers below n, one after another
unfoldable pub several : (ℕ → Drawn (List ℕ)) → ℕ → Drawn (List ℕ)
several make zero = given []
several make (suc n) = do
  front ← several make n
  last ← make n
  given (front ++ last)

-- ---- the description

-- the types that channels may have
abbrev pub types : List (List ℕ)
types =
    codes "le:u12/16>>4"
    ∷ codes "be:s16/16>>0"
    ∷ codes "le:u8/8>>0"
    ∷ codes "be:s24/32>>8"
    ∷ codes "le:s64/64>>0"
    ∷ codes "be:u32/32>>0"
    ∷ []

-- `channel voltageI TYPE`
abbrev pub channel_line : ℕ → Drawn (List ℕ)
channel_line i = do
  kind ← draw TYPES
  given (line (codes "channel voltage" ++ (decimal i ++ (codes " " ++ slice_index_or types kind []))))

-- a value of a row, after a space
abbrev pub value_word : ℕ → Drawn (List ℕ)
value_word channel = do
  value ← draw VALUES
  given (codes " " ++ decimal value)

-- `row T v ..`, with a value for each channel
abbrev pub row_line : ℕ → Drawn (List ℕ)
row_line i = do
  values ← several value_word CHANNELS
  given (line (codes "row " ++ (decimal (ROW_TIME * i) ++ values)))

abbrev pub description : Drawn (List ℕ)
description = do
  channels ← several channel_line CHANNELS
  rows ← several row_line ROWS
  given (codes "trigger t0 2\ndevice dev0 t0\n" ++ (channels ++ (codes "timestamp\n" ++ (rows ++ codes "%%\n"))))

-- ---- the steps

-- connection cC is fed this line
abbrev pub feed_line : ℕ → List ℕ → List ℕ
feed_line c command = line (codes "c" ++ (decimal c ++ (codes " " ++ quoted (line command))))

-- an OPEN for one sample or more, under any mask but the empty one
abbrev pub open_line : Drawn (List ℕ)
open_line = do
  c ← draw CONNECTIONS
  s ← draw SAMPLES
  m ← draw MASKS
  given (feed_line c (codes "OPEN dev0 " ++ (decimal (1 + s) ++ (codes " " ++ mask_text MASK_BITS (1 + m)))))

abbrev pub close_line : Drawn (List ℕ)
close_line = do
  c ← draw CONNECTIONS
  given (feed_line c (codes "CLOSE dev0"))

-- `fire t0 T`
abbrev pub fire_line : ℕ → Drawn (List ℕ)
fire_line i = given (line (codes "fire t0 " ++ decimal (STEP_TIME * i)))

abbrev pub read_line : Drawn (List ℕ)
read_line = do
  c ← draw CONNECTIONS
  b ← draw BYTES
  given (feed_line c (codes "READBUF dev0 " ++ decimal b))

-- by its kind d a step is an OPEN, a CLOSE, a poll (four kinds), or a READBUF
abbrev pub step_of_kind : ℕ → ℕ → Drawn (List ℕ)
step_of_kind i d =
    if d == 0 then open_line
    else if d == 1 then close_line
    else if nat_le d 5 then fire_line i
    else read_line

abbrev pub step_line : ℕ → Drawn (List ℕ)
step_line i = do
  d ← draw KINDS
  step_of_kind i d

-- ---- the whole

abbrev pub input : Drawn (List ℕ)
input = do
  front ← description
  steps ← several step_line STEPS
  given (front ++ steps)

-- the input that a number makes
abbrev pub made : ℕ → List ℕ
made n = (input n).0

-- the text that draws make was appended, and the state is the one after them
pub record Appends (text : Drawn (List ℕ)) (state state' : ℕ) (out out' : List ℕ) : Type 0 where
  pub appended : out' ≡ out ++ (text state).0
  pub left : state' ≡ (text state).1
