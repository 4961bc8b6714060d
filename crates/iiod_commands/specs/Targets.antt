-- What READ and WRITE name, and what they answer, as contracts of the code see it. Cited only by private functions.
use Rattle.std.specs.Prelude.{ℕ, pos, ⊤, List, Option, Some, Result, Ok, Err}
use Rattle.std.specs.Option.{ok_or}
use Rattle.iio_base.specs.Refusals.{◌>>=◌}
use Rattle.iio_text.specs.declared.errors.Errno.{Errno}
use Rattle.iio_text.specs.declared.errors.Errno.TheVariants.{ENOENT}
use Rattle.iio_attr.specs.declared.attributes.Scope.{Scope}
use Rattle.iio_attr.specs.declared.attributes.Scope.TheVariants as scope
use Rattle.iio_desc.specs.Kind.{Kind}
use Rattle.iio_layout.specs.Shape.{ShapeRecord, channel_of}
use Rattle.iiod_reply.specs.Reply.{Reply, Number, Refusal, NoMemory}
use Rattle.iiod_commands.specs.declared.iio.No.{No}
use Rattle.iiod_commands.specs.declared.iio.No.TheVariants.{Errno as NoErrno, Mem as NoMem}
use Rattle.iiod_commands.specs.declared.targets.Assignment.{Assignment as CodeAssignment}
use Rattle.iiod_commands.specs.declared.targets.Named.{Named as CodeNamed}
use Rattle.iiod_commands.specs.Attributes.{Assignment, Named, attribute_of}

-- ---- names

abbrev pub named_of_code : CodeNamed → Named
named_of_code x = record { channel = x.channel; attribute = x.attribute }

abbrev pub named_view : Result CodeNamed Errno → Result Named Errno
named_view (Ok x) = Ok (named_of_code x)
named_view (Err e) = Err e

abbrev pub assignment_of_code : CodeAssignment → Assignment
assignment_of_code x = record { target = named_of_code x.target; value = x.value }

abbrev pub assignment_view : Result CodeAssignment Errno → Result Assignment Errno
assignment_view (Ok x) = Ok (assignment_of_code x)
assignment_view (Err e) = Err e

-- the attribute of that name in a scope
abbrev pub named_in : Kind → Scope → Option ℕ → List ℕ → Result Named Errno
named_in kind scope channel name = do
  a ← attribute_of kind scope name
  Ok (record { channel = channel; attribute = a })

-- ... for the channel of that ID
abbrev pub named_at_channel : Kind → ShapeRecord → (id name : List ℕ) → Result Named Errno
named_at_channel kind shape id name = do
  c ← ok_or (channel_of shape id) ENOENT
  named_in kind scope.Channel (Some c) name

-- ---- replies

-- the reply to a WRITE of `count` bytes
abbrev pub written_by : ℕ → Result ⊤ No → Reply
written_by count (Ok done) = Number (pos count)
written_by count (Err (NoErrno e)) = Refusal e
written_by count (Err NoMem) = NoMemory
