-- What a command line says. (libiio 0.25's iiod, its text protocol. SET's BUFFERS_COUNT is also libiio's; EVOPEN, EVREAD,
-- EVCLOSE and REMASK, the numbers and the CRs before an LF are this project's own.)
use Rattle.std.specs.Prelude.{ℕ, ⊤, Bool, true, false, List, [], ◌∷◌, ◌==◌, reverse, codes, Option, Some, None, unwrap_or, Result, Ok, Err, if◌then◌else◌}
use Rattle.std.specs.Option.{ok_or}
use Rattle.std.specs.Str.{bytes_eq}
use Rattle.iio_base.specs.Refusals.{◌>>=◌, ensure}
use Rattle.iio_text.specs.Words.{words_of, is_blank}
use Rattle.iio_text.specs.Numbers.{number_of}
use Rattle.iiod_grammar.specs.declared.command.Refused.{Refused}
use Rattle.iiod_grammar.specs.declared.command.Refused.TheVariants.{Empty, Unknown, Shape, Number}

-- where an attribute stands
pub data Place : Type 0 where
  AtDevice : Place
  AtBuffer : Place
  AtDebug : Place
  AtInput : (channel : List ℕ) → Place
  AtOutput : (channel : List ℕ) → Place

-- a place, and the attribute's name if one is given
abbrev pub Target : Type 0
Target = Place × Option (List ℕ)

-- a command with its words and numbers
pub data Command : Type 0 where
  Help : Command
  Exit : Command
  Version : Command
  Print : Command
  Timeout : (milliseconds : ℕ) → Command
  Open : (device : List ℕ) (samples : ℕ) (mask : List ℕ) (cyclic : Bool) → Command
  Close : (device : List ℕ) → Command
  Read : (device : List ℕ) (place : Place) (attribute : Option (List ℕ)) → Command
  -- no target if the words between the device and the count have no form of READ
  Write : (device : List ℕ) (target : Option Target) (count : ℕ) → Command
  ReadBuf : (device : List ℕ) (bytes : ℕ) → Command
  WriteBuf : (device : List ℕ) (count : ℕ) → Command
  GetTrig : (device : List ℕ) → Command
  -- no trigger removes the device's trigger
  SetTrig : (device : List ℕ) (trigger : Option (List ℕ)) → Command
  SetBuffers : (device : List ℕ) (count : ℕ) → Command
  Remask : (device : List ℕ) (mask : List ℕ) → Command
  EvOpen : (device : List ℕ) → Command
  EvRead : (device : List ℕ) → Command
  EvClose : (device : List ℕ) → Command

-- the entry of a word in a table
abbrev pub entry_of : {A : Type 0} → List (List ℕ × A) → List ℕ → Option A
entry_of [] word = None
entry_of (e ∷ es) word = if bytes_eq word e.0 then Some e.1 else entry_of es word

-- the number that a word stands for
abbrev pub number : List ℕ → Result ℕ Refused
number word = ok_or (number_of word) Number

-- ---- targets

-- an attribute's name at a place, or none
abbrev pub at_place : Place → List (List ℕ) → Option Target
at_place place [] = Some (place, None)
at_place place (attribute ∷ []) = Some (place, Some attribute)
at_place place (attribute ∷ more ∷ words) = None

-- a channel, and an attribute's name or none
abbrev pub at_channel : (List ℕ → Place) → List (List ℕ) → Option Target
at_channel place [] = None
at_channel place (channel ∷ words) = at_place (place channel) words

-- an attribute's name and nothing more
abbrev pub at_device : List ℕ → List (List ℕ) → Option Target
at_device attribute [] = Some (AtDevice, Some attribute)
at_device attribute (more ∷ words) = None

-- the words for a place, none of which is an attribute's name, and what may stand after each
abbrev pub places : List (List ℕ × (List (List ℕ) → Option Target))
places =
    (codes "BUFFER", at_place AtBuffer)
    ∷ (codes "DEBUG", at_place AtDebug)
    ∷ (codes "INPUT", at_channel AtInput)
    ∷ (codes "OUTPUT", at_channel AtOutput)
    ∷ []

-- the target that the words after the device name
abbrev pub target_of : List (List ℕ) → Option Target
target_of [] = Some (AtDevice, None)
target_of (word ∷ words) = unwrap_or (entry_of places word) (at_device word) words

-- ---- forms: what the words after a command's first one say

-- no word
abbrev pub no_words : List (List ℕ) → Result ⊤ Refused
no_words [] = Ok tt
no_words (word ∷ words) = Err Shape

-- exactly one word
abbrev pub one_word : List (List ℕ) → Result (List ℕ) Refused
one_word (word ∷ []) = Ok word
one_word words = Err Shape

-- exactly two words
abbrev pub two_words : List (List ℕ) → Result (List ℕ × List ℕ) Refused
two_words (first ∷ second ∷ []) = Ok (first, second)
two_words words = Err Shape

-- a command that is only its first word
abbrev pub bare_form : Command → List (List ℕ) → Result Command Refused
bare_form command words = do
  none ← no_words words
  Ok command

abbrev pub timeout_form : List (List ℕ) → Result Command Refused
timeout_form words = do
  milliseconds ← one_word words
  n ← number milliseconds
  Ok (Timeout n)

-- only a device
abbrev pub device_form : (List ℕ → Command) → List (List ℕ) → Result Command Refused
device_form command words = do
  device ← one_word words
  Ok (command device)

-- a word and a number
abbrev pub counted_word : List (List ℕ) → Result (List ℕ × ℕ) Refused
counted_word words = do
  pair ← two_words words
  n ← number pair.1
  Ok (pair.0, n)

-- a device and a number of bytes
abbrev pub bytes_form : (List ℕ → ℕ → Command) → List (List ℕ) → Result Command Refused
bytes_form command words = do
  counted ← counted_word words
  Ok (command counted.0 counted.1)

-- whether CYCLIC stands at the end; nothing else may stand there
abbrev pub cyclic_of : List (List ℕ) → Result Bool Refused
cyclic_of [] = Ok false
cyclic_of (word ∷ []) = if bytes_eq word (codes "CYCLIC") then Ok true else Err Shape
cyclic_of (word ∷ more ∷ words) = Err Shape

abbrev pub open_form : List (List ℕ) → Result Command Refused
open_form (device ∷ samples ∷ mask ∷ words) = do
  cyclic ← cyclic_of words
  n ← number samples
  Ok (Open device n mask cyclic)
open_form words = Err Shape

abbrev pub read_form : List (List ℕ) → Result Command Refused
read_form [] = Err Shape
read_form (device ∷ words) = do
  target ← ok_or (target_of words) Shape
  Ok (Read device target.0 target.1)

-- the last of these words, of which `word` is the first, and those before it
abbrev pub last_of : List ℕ → List (List ℕ) → List ℕ
last_of word [] = word
last_of word (next ∷ words) = last_of next words

abbrev pub all_but_last : List ℕ → List (List ℕ) → List (List ℕ)
all_but_last word [] = []
all_but_last word (next ∷ words) = word ∷ all_but_last next words

-- the target that the words before the last one name, if any, and the last one
abbrev pub counted_target : List (List ℕ) → Result (Option Target × List ℕ) Refused
counted_target [] = Err Shape
counted_target (word ∷ words) = Ok (target_of (all_but_last word words), last_of word words)

abbrev pub write_form : List (List ℕ) → Result Command Refused
write_form [] = Err Shape
write_form (device ∷ words) = do
  counted ← counted_target words
  count ← number counted.1
  Ok (Write device counted.0 count)

abbrev pub trigger_form : List (List ℕ) → Result Command Refused
trigger_form (device ∷ []) = Ok (SetTrig device None)
trigger_form (device ∷ trigger ∷ []) = Ok (SetTrig device (Some trigger))
trigger_form words = Err Shape

abbrev pub set_form : List (List ℕ) → Result Command Refused
set_form [] = Err Shape
set_form (device ∷ words) = do
  pair ← two_words words
  is_count ← ensure (bytes_eq pair.0 (codes "BUFFERS_COUNT")) Shape
  n ← number pair.1
  Ok (SetBuffers device n)

-- a device and a mask
abbrev pub remask_form : List (List ℕ) → Result Command Refused
remask_form words = do
  pair ← two_words words
  Ok (Remask pair.0 pair.1)

-- ---- lines

-- the commands: the first word, which has to be in upper case, and the form of the words after it
abbrev pub commands : List (List ℕ × (List (List ℕ) → Result Command Refused))
commands =
    (codes "HELP", bare_form Help)
    ∷ (codes "EXIT", bare_form Exit)
    ∷ (codes "VERSION", bare_form Version)
    ∷ (codes "PRINT", bare_form Print)
    ∷ (codes "TIMEOUT", timeout_form)
    ∷ (codes "OPEN", open_form)
    ∷ (codes "CLOSE", device_form Close)
    ∷ (codes "READ", read_form)
    ∷ (codes "WRITE", write_form)
    ∷ (codes "READBUF", bytes_form ReadBuf)
    ∷ (codes "WRITEBUF", bytes_form WriteBuf)
    ∷ (codes "GETTRIG", device_form GetTrig)
    ∷ (codes "SETTRIG", trigger_form)
    ∷ (codes "SET", set_form)
    ∷ (codes "REMASK", remask_form)
    ∷ (codes "EVOPEN", device_form EvOpen)
    ∷ (codes "EVREAD", device_form EvRead)
    ∷ (codes "EVCLOSE", device_form EvClose)
    ∷ []

-- what the words of a line say
abbrev pub command_of_words : List (List ℕ) → Result Command Refused
command_of_words [] = Err Empty
command_of_words (word ∷ words) = do
  form ← ok_or (entry_of commands word) Unknown
  form words

-- the bytes without the CRs that they begin with
abbrev pub drop_returns : List ℕ → List ℕ
drop_returns [] = []
drop_returns (b ∷ bs) = if b == 13 then drop_returns bs else b ∷ bs

-- a line without the CRs right before its LF
abbrev pub without_returns : List ℕ → List ℕ
without_returns line = reverse (drop_returns (reverse line))

-- what a line says, without its LF, or why it is not a command, in this order: it has no word, its first word is not a command,
-- its words fit no form, or a word that stands for a number is not one
abbrev pub command_of : List ℕ → Result Command Refused
command_of line = command_of_words (words_of is_blank (without_returns line))
