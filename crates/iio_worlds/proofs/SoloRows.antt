-- Worked inputs of `solo`: what each prints, and how it ends.
use Rattle.std.proofs.Common.{◌≡◌, ℕ, List, [], ◌++◌, refl, codes}
use Rattle.std.specs.Fmt.{digits}
use Rattle.iio_text.specs.declared.refusals.Why.TheVariants.{Bystander, Word}
use Rattle.iio_history.specs.Outcome.{Outcome, only_ending}
use Rattle.iio_history.specs.Script.{Finished, Refused}
use Rattle.iio_worlds.specs.Solo.{solo_outcome_of}

abbrev adc : List ℕ
adc =
    codes "trigger t0 2\ndevice adc0 t0\nchannel voltage0 le:u12/16>>4\nchannel voltage1 le:u12/16>>4\nchannel accel_x be:s16/16>>0\ntimestamp\nrow 0 1 2 -3\n"

-- with one more device
abbrev adcs : List ℕ
adcs = adc ++ codes "device adc1 t0\nchannel voltage0 le:u8/8>>0\n"

abbrev solo : List ℕ → List ℕ → List ℕ → Outcome
solo name description script = solo_outcome_of name [] (description ++ codes "%%\n" ++ script)

abbrev A : List ℕ
A = codes "A"

-- what is done and printed
abbrev done : List ℕ → Outcome
done text = record { printed = text; ending = Finished }

-- B sets, opens and closes beside A: lines 9 to 14
two_texts : solo A adc (codes
    "A \"OPEN adc0 1 00000005\\n\"\nB \"SET adc0 BUFFERS_COUNT 1\\nOPEN adc0 1 00000002\\n\"\nfire t0 1000\nfire t0 2000\nB \"CLOSE adc0\\n\"\nA \"READBUF adc0 8\\n\"\n")
    ≡ done (codes "A \"0\\n\"\npoll t0 accepted 1\nhandle t0 adc0 captured\npoll t0 accepted 1\nhandle t0 adc0 captured\nA \"8\\n00000005\\n\\x10\\x00\\xff\\xfd\\x10\\x00\\xff\\xfd\"\n%%\nA \"0\\n\"\npoll t0 accepted 1\nhandle t0 adc0 captured\npoll t0 accepted 1\nhandle t0 adc0 captured\nA \"8\\n00000005\\n\\x10\\x00\\xff\\xfd\\x10\\x00\\xff\\xfd\"\n")
unfolding digits
two_texts = refl

-- B opens what A doesn't have open
opening_offends : solo A adcs (codes "A \"OPEN adc0 1 00000005\\n\"\nB \"OPEN adc1 1 00000001\\n\"\n") ≡ only_ending (Refused 12 Bystander)
unfolding digits
opening_offends = refl

-- A closes beside B
closing_offends : solo A adc
    (codes "A \"OPEN adc0 1 00000005\\n\"\nB \"SET adc0 BUFFERS_COUNT 1\\nOPEN adc0 1 00000002\\n\"\nfire t0 1000\nfire t0 2000\nA \"CLOSE adc0\\n\"\nA \"READBUF adc0 8\\n\"\n") ≡ only_ending (Refused 13 Bystander)
unfolding digits
closing_offends = refl

closing_prints : (solo A adc (codes "A \"OPEN adc0 1 00000005\\n\"\nB \"OPEN adc0 1 00000002\\n\"\nfire t0 1000\nfire t0 2000\nA \"CLOSE adc0\\n\"\n")).printed
    ≡ codes "refused 13 bystander\n"
unfolding digits
closing_prints = refl

-- a bad line after the step that offends
bad_line_behind : (solo A adc (codes "A \"OPEN adc0 1 00000005\\n\"\nB \"EVOPEN adc0\\n\"\nfires t0 1000\n")).printed ≡ codes "refused 11 count\n"
unfolding digits
bad_line_behind = refl

-- the name never occurs: others may say what asks for nothing, and nobody has a device open
never_named : solo (codes "Z") adc (codes "A \"VERSION\\n\\nNOTHING\\n\"\nfire t0 1000\ndrop A\ndrop B\nsense adc0 5\n")
    ≡ done (codes "poll t0 accepted 0\nadc0 sensed 0\n%%\npoll t0 accepted 0\nadc0 sensed 0\n")
unfolding digits
never_named = refl

never_named_offends : solo (codes "Z") adc (codes "fire t0 1000\nA \"VERSION\\n\"\nA \"READ adc0 name\\n\"\nZ \"VERSION\\n\"\n")
    ≡ only_ending (Refused 11 Bystander)
unfolding digits
never_named_offends = refl

-- nothing is printed; no line ends the description; and a line of it is refused
nothing_printed : solo A adc (codes "B \"EXIT\\nOPEN adc0 1 00000001\\n\"\n") ≡ done (codes "%%\n")
unfolding digits
nothing_printed = refl

description_alone : solo_outcome_of A [] adc ≡ done (codes "%%\n")
unfolding digits
description_alone = refl

description_refused : solo_outcome_of A [] (adc ++ codes "rows 0\n%%\nB \"OPEN adc0 1 00000001\\n\"\n") ≡ only_ending (Refused 8 Word)
unfolding digits
description_refused = refl

-- an item offends at the step that completes it: B's begins while A has the device open
begun_before : solo A adc (codes "A \"OPEN adc0 1 00000001\\n\"\nB \"READ adc0\"\nA \"CLOSE adc0\\n\"\n# nothing\nB \" name\\n\"\n")
    ≡ only_ending (Refused 13 Bystander)
unfolding digits
begun_before = refl

-- a count that no payload may have makes a command nevertheless; a line that is too long doesn't
counting_offends : solo A adc (codes "A \"OPEN adc0 1 00000001\\n\"\nB \"WRITE adc0 INPUT voltage0 calibbias 65537\\n\"\n") ≡ only_ending (Refused 10 Bystander)
unfolding digits
counting_offends = refl

-- A is lost beside B; and A says EXIT beside B at the end
losing_offends : solo A adc (codes "A \"OPEN adc0 1 00000001\\n\"\nB \"OPEN adc0 1 00000001\\n\"\ndrop A\n") ≡ only_ending (Refused 11 Bystander)
unfolding digits
losing_offends = refl

exit_offends : solo A adc (codes "A \"OPEN adc0 1 00000001\\n\"\nB \"OPEN adc0 1 00000001\\n\"\nA \"EXIT\\n\"\n") ≡ only_ending (Refused 11 Bystander)
unfolding digits
exit_offends = refl

-- A may leave after B has left
leaving_last : solo A adc (codes "A \"OPEN adc0 1 00000001\\n\"\nB \"OPEN adc0 1 00000001\\n\"\ndrop B\nA \"REMASK adc0 00000002\\nCLOSE adc0\\n\"\ndrop A\n")
    ≡ done (codes "A \"0\\n\"\nA \"0\\n0\\n\"\nA dropped\n%%\nA \"0\\n\"\nA \"0\\n0\\n\"\nA dropped\n")
unfolding digits
leaving_last = refl
