-- Parts of a line as the code has them. Cited only by the private functions of `read_line`.
use Rattle.std.specs.Prelude.{ℕ, List, Option, Result, Ok, Err, option_map}
use Rattle.std.specs.Borrow.{Bor}
use Rattle.iiod_grammar.specs.declared.command.Refused.{Refused}
use Rattle.iiod_grammar.specs.declared.command.Place.{Place as CodePlace}
use Rattle.iiod_grammar.specs.declared.words.PlaceWord.{PlaceWord}
use Rattle.iiod_grammar.specs.declared.words.PlaceWord.TheVariants as word
use Rattle.iiod_grammar.specs.declared.words.Verb.{Verb}
use Rattle.iiod_grammar.specs.declared.words.Verb.TheVariants as verb
use Rattle.iiod_grammar.specs.Command.{at_place, at_channel, bare_form, timeout_form, open_form, device_form, bytes_form, read_form, write_form, trigger_form, set_form, remask_form}
use Rattle.iiod_grammar.specs.Command.{AtBuffer, AtDebug, AtInput, AtOutput, Target, Command, Help, Exit, Version, Print, Close, ReadBuf, WriteBuf, GetTrig, EvOpen, EvRead, EvClose}
use Rattle.iiod_grammar.specs.View.{target_view}

abbrev pub word_view : Result (Bor (List ℕ)) Refused → Result (List ℕ) Refused
word_view (Ok word) = Ok word.now
word_view (Err refused) = Err refused

abbrev pub pair_view : Result (Bor (List ℕ) × Bor (List ℕ)) Refused → Result (List ℕ × List ℕ) Refused
pair_view (Ok pair) = Ok (pair.0.now, pair.1.now)
pair_view (Err refused) = Err refused

abbrev pub counted_view : Result (Bor (List ℕ) × ℕ) Refused → Result (List ℕ × ℕ) Refused
counted_view (Ok counted) = Ok (counted.0.now, counted.1)
counted_view (Err refused) = Err refused

abbrev pub split_view : Result (Option (CodePlace × Option (Bor (List ℕ))) × Bor (List ℕ)) Refused → Result (Option Target × List ℕ) Refused
split_view (Ok split) = Ok (option_map target_view split.0, split.1.now)
split_view (Err refused) = Err refused

-- the table's entry of a word
abbrev pub place_form : PlaceWord → List (List ℕ) → Option Target
place_form word.Buffer = at_place AtBuffer
place_form word.Debug = at_place AtDebug
place_form word.Input = at_channel AtInput
place_form word.Output = at_channel AtOutput

abbrev pub command_form : Verb → List (List ℕ) → Result Command Refused
command_form verb.Help = bare_form Help
command_form verb.Exit = bare_form Exit
command_form verb.Version = bare_form Version
command_form verb.Print = bare_form Print
command_form verb.Timeout = timeout_form
command_form verb.Open = open_form
command_form verb.Close = device_form Close
command_form verb.Read = read_form
command_form verb.Write = write_form
command_form verb.ReadBuf = bytes_form ReadBuf
command_form verb.WriteBuf = bytes_form WriteBuf
command_form verb.GetTrig = device_form GetTrig
command_form verb.SetTrig = trigger_form
command_form verb.Set = set_form
command_form verb.Remask = remask_form
command_form verb.EvOpen = device_form EvOpen
command_form verb.EvRead = device_form EvRead
command_form verb.EvClose = device_form EvClose
