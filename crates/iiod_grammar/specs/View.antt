-- A command of the code as the command of the definitions: each slice by its bytes.
use Rattle.std.specs.Prelude.{ℕ, List, Option, Result, Ok, Err, option_map}
use Rattle.std.specs.Option.{option_copied}
use Rattle.std.specs.Borrow.{Bor}
use Rattle.iiod_grammar.specs.declared.command.Refused.{Refused}
use Rattle.iiod_grammar.specs.declared.command.Place.{Place as CodePlace}
use Rattle.iiod_grammar.specs.declared.command.Place.TheVariants.{Device, Buffer, Debug, Input, Output}
use Rattle.iiod_grammar.specs.declared.command.Command.{Command as CodeCommand}
use Rattle.iiod_grammar.specs.declared.command.Command.TheVariants as code
use Rattle.iiod_grammar.specs.Command.{Place, AtDevice, AtBuffer, AtDebug, AtInput, AtOutput, Target, Command, Help, Exit, Version, Print, Timeout, Open, Close, Read, Write, ReadBuf, WriteBuf, GetTrig, SetTrig, SetBuffers, Remask, EvOpen, EvRead, EvClose}

abbrev pub place_view : CodePlace → Place
place_view Device = AtDevice
place_view Buffer = AtBuffer
place_view Debug = AtDebug
place_view (Input channel) = AtInput channel.now
place_view (Output channel) = AtOutput channel.now

abbrev pub target_view : CodePlace × Option (Bor (List ℕ)) → Target
target_view target = (place_view target.0, option_copied target.1)

abbrev pub command_view : CodeCommand → Command
command_view code.Help = Help
command_view code.Exit = Exit
command_view code.Version = Version
command_view code.Print = Print
command_view (code.Timeout ms) = Timeout ms
command_view (code.Open dev samples mask cyclic) = Open dev.now samples mask.now cyclic
command_view (code.Close dev) = Close dev.now
command_view (code.Read dev place attr) = Read dev.now (place_view place) (option_copied attr)
command_view (code.Write dev target count) = Write dev.now (option_map target_view target) count
command_view (code.ReadBuf dev bytes) = ReadBuf dev.now bytes
command_view (code.WriteBuf dev bytes) = WriteBuf dev.now bytes
command_view (code.GetTrig dev) = GetTrig dev.now
command_view (code.SetTrig dev trigger) = SetTrig dev.now (option_copied trigger)
command_view (code.SetBuffers dev count) = SetBuffers dev.now count
command_view (code.Remask dev mask) = Remask dev.now mask.now
command_view (code.EvOpen dev) = EvOpen dev.now
command_view (code.EvRead dev) = EvRead dev.now
command_view (code.EvClose dev) = EvClose dev.now

abbrev pub line_view : Result CodeCommand Refused → Result Command Refused
line_view (Ok command) = Ok (command_view command)
line_view (Err refused) = Err refused
