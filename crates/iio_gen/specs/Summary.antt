-- The summary of the input that a number makes. (This project's own.)
use Rattle.std.specs.Prelude.{ℕ, List, [], ◌++◌, codes}
use Rattle.std.specs.Fmt.{decimal}
use Rattle.iio_history.specs.Outcome.{Outcome}
use Rattle.iio_history.specs.Script.{Finished}
use Rattle.iio_kinds.specs.declared.tally.Tally.{Tally}
use Rattle.iio_system.specs.Tally.{tally_of}
use Rattle.iio_script.specs.declared.status.Status.{Status}
use Rattle.iio_script.specs.declared.status.Status.TheVariants.{Done, WriteFault, Memory}
use Rattle.iio_script.specs.Tallies.{summary_of_input}
use Rattle.iiod_reply.specs.Reply.{line}
use Rattle.iio_gen.specs.Input.{made}

-- `WORD COUNT`
abbrev pub count_line : List ℕ → ℕ → List ℕ
count_line word count = line (word ++ (codes " " ++ decimal count))

-- the four lines of a count
abbrev pub tally_text : Tally → List ℕ
tally_text tally =
    count_line (codes "captures") tally.captures
    ++ (count_line (codes "scans") tally.scans
    ++ (count_line (codes "overruns") tally.overruns ++ count_line (codes "bytes") tally.bytes))

-- the counts of a number's input, played without drivers
abbrev pub summary_text : ℕ → List ℕ
summary_text n = tally_text (tally_of (summary_of_input [] (made n)))

-- what `gen` prints for a number, and how it ends
abbrev pub summarized : ℕ → Outcome
summarized n = record { printed = summary_text n; ending = Finished }

-- how `gen` may end: it reads nothing, and no line of its input is refused
abbrev pub EndsGen : Status → Type 0
EndsGen Done = Unit {0}
EndsGen WriteFault = Unit {0}
EndsGen Memory = Unit {0}
EndsGen status = ⊥
