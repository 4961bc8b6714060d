-- The answer to a command, as the code has it, and what the functions that print it promise. Cited only by private functions.
use Rattle.std.specs.Prelude.{◌≡◌, ◌⊎◌, ℕ, ◌≤◌, pos, ⊤, List, ◌++◌, length, Option, Result, Ok, Err, string_bytes}
use Rattle.std.specs.Fmt.{decimal, signed_decimal}
use Rattle.iio_event.specs.Code.{event_bytes}
use Rattle.iiod_grammar.specs.Command.{Command, Open, Close, Read, GetTrig, SetTrig, SetBuffers, Remask, EvOpen, EvRead, EvClose}
use Rattle.iiod_grammar.specs.Stream.{Item}
use Rattle.iiod_reply.specs.Reply.{Reply, Number, Value, Raw, NoMemory, text_of}
use Rattle.iiod_commands.specs.declared.answers.Answer.{Answer}
use Rattle.iiod_commands.specs.declared.answers.Answer.TheVariants as answer
use Rattle.iiod_commands.specs.declared.iio.No.{No}
use Rattle.iiod_commands.specs.declared.manner.Manner.{Manner}
use Rattle.iiod_commands.specs.Acts.{help_reply, version_reply}
use Rattle.iiod_commands.specs.Client.{State}
use Rattle.iio_core.specs.Front.{Front, find_device, trigger_name}
use Rattle.iiod_commands.specs.Moves.{Serves}
use Rattle.iiod_commands.specs.Performs.{IsAllowed, reply_by}

-- ---- answers

-- an answer as a reply
abbrev pub reply_of : Front → Result Answer No → Reply
reply_of front (Ok (answer.Number n)) = Number (pos n)
reply_of front (Ok answer.Help) = help_reply
reply_of front (Ok answer.Version) = version_reply
reply_of front (Ok answer.Context) = Value front.context
reply_of front (Ok (answer.Fixed digits)) = Value (string_bytes digits)
reply_of front (Ok (answer.Int n)) = Value (signed_decimal n)
reply_of front (Ok (answer.Count n)) = Value (decimal n)
reply_of front (Ok (answer.Name name)) = Value name
reply_of front (Ok (answer.Trigger t)) = Value (trigger_name front t)
reply_of front (Ok (answer.Event event)) = Raw (event_bytes event)
reply_of front (Err why) = reply_by (Err why)

-- a number, if a call isn't refused
abbrev pub answer_by : ℕ → Result ⊤ No → Result Answer No
answer_by n (Ok done) = Ok (answer.Number n)
answer_by n (Err why) = Err why

-- the room that is taken first is enough for the answer, unless it is long
abbrev pub Fits : Result Answer No → Type 0
Fits (Ok (answer.Fixed digits)) = length (string_bytes digits) ≤ 32
Fits r = Unit {0}

-- an answer that may have any length. Nothing has changed then, so that lack of memory can be answered instead
abbrev pub IsLong : Result Answer No → Type 0
IsLong (Ok answer.Help) = Unit {0}
IsLong (Ok answer.Version) = Unit {0}
IsLong (Ok answer.Context) = Unit {0}
IsLong (Ok (answer.Trigger t)) = Unit {0}
IsLong r = ⊥

-- what a READ, an EVREAD and a GETTRIG can be answered
abbrev pub IsText : Result Answer No → Type 0
IsText (Ok (answer.Fixed digits)) = length (string_bytes digits) ≤ 32
IsText (Ok (answer.Int n)) = Unit {0}
IsText (Ok (answer.Count n)) = Unit {0}
IsText (Ok (answer.Name name)) = Unit {0}
IsText (Ok other) = ⊥
IsText (Err why) = Unit {0}

abbrev pub IsEvent : Result Answer No → Type 0
IsEvent (Ok (answer.Event event)) = Unit {0}
IsEvent (Ok other) = ⊥
IsEvent (Err why) = Unit {0}

abbrev pub IsTrigger : Result Answer No → Type 0
IsTrigger (Ok (answer.Number n)) = n ≡ 0
IsTrigger (Ok (answer.Trigger t)) = Unit {0}
IsTrigger (Ok other) = ⊥
IsTrigger (Err why) = Unit {0}

-- ---- commands at a device

-- the device that the command names has that number, or no device has its name
abbrev pub IsAt : Front → Option ℕ → Command → Type 0
IsAt front dev (Open device samples text cyclic) = dev ≡ find_device front device
IsAt front dev (Close device) = dev ≡ find_device front device
IsAt front dev (Read device place name) = dev ≡ find_device front device
IsAt front dev (GetTrig device) = dev ≡ find_device front device
IsAt front dev (SetTrig device name) = dev ≡ find_device front device
IsAt front dev (SetBuffers device n) = dev ≡ find_device front device
IsAt front dev (Remask device text) = dev ≡ find_device front device
IsAt front dev (EvOpen device) = dev ≡ find_device front device
IsAt front dev (EvRead device) = dev ≡ find_device front device
IsAt front dev (EvClose device) = dev ≡ find_device front device
IsAt front dev command = ⊥

-- ---- items

-- an item and its answer
pub record ServesBy (front : Front) (a : State) (item : Item) (r : Result Answer No) (b : State) : Type 0 where
  pub served : Serves front a item (reply_of front r) b
  pub short : IsLong r → Serves front a item NoMemory b

-- the answer was printed, or, instead of a long one, lack of memory
pub record Prints (manner : Manner) (front : Front) (r : Result Answer No) (before after : List ℕ) : Type 0 where
  pub reply : Reply
  pub is : (reply ≡ reply_of front r) ⊎ ((reply ≡ NoMemory) × IsLong r)
  pub text : after ≡ before ++ text_of reply
  pub allowed : IsAllowed manner reply
