-- The counts of a text, from what its parts did.
use Rattle.std.proofs.Common.{◌≡◌, ℕ, ◌+◌, Bool, false, List, [], ◌++◌, length, map, Option, Result, Ok, Err, sym, ap, subst, rules}
use Rattle.iio_text.specs.declared.refusals.Why.{Why}
use Rattle.iio_sensor.specs.Driver.{Driver}
use Rattle.iio_desc.specs.Description.{Description}
use Rattle.iio_device.specs.declared.plug.Plug.{Plug}
use Rattle.iio_history.specs.Input.{is_overlong, scanned_lines}
use Rattle.iio_history.specs.Outcome.{Head, Described, head_of, last_ending, outcome_of_head, outcome_of_script}
use Rattle.iio_history.specs.Script.{Ending, Finished, Script, script_from}
use Rattle.iio_history.specs.Script as ending
use Rattle.iio_system.specs.declared.system.System.{System}
use Rattle.iio_kinds.specs.declared.tally.Tally.{Tally}
use Rattle.iio_system.specs.Standing.{StandsFor}
use Rattle.iio_system.specs.Tally.{tally_of}
use Rattle.iio_script.specs.declared.opening.Opening.TheVariants as read
use Rattle.iio_script.specs.declared.status.Status.TheVariants.{Done, Refused}
use Rattle.iio_script.specs.declared.stop.Stop.{Stop}
use Rattle.iio_script.specs.declared.stop.Stop.TheVariants as stop
use Rattle.iio_script.specs.Ends.{status_of}
use Rattle.iio_script.specs.LineReader.{Follows, Hand, IsHand}
use Rattle.iio_script.specs.Plays.{EndsSteps, Start}
use Rattle.iio_script.specs.Tallies.{Tallies, TalliesScript, summary_of_head}
use Rattle.iio_script.specs.Told.{EndsAlone, EndsAt, RefusesAt}
use Rattle.iio_script.proofs.FollowLaws.{follows_begin}

-- ---- how a script ended, by its status

done_ends : (end : Ending) → Done ≡ status_of end → end ≡ Finished
done_ends end is = search rules

refused_ends : (line : ℕ) (why : Why) (end : Ending) → Refused line why ≡ status_of end → end ≡ ending.Refused line why
refused_ends line why end is = search rules

pub script_done : (start : Start) (script : Script) (input sent kept : List ℕ) (left : Option (List ℕ))
    → EndsSteps start (outcome_of_script start.setup script) input (Ok Done) sent kept left → script.ending ≡ Finished
script_done start script input sent kept left f = done_ends script.ending f.finishes.ends

pub script_refused : (start : Start) (script : Script) (line : ℕ) (why : Why) (input sent kept : List ℕ)
    (left : Option (List ℕ))
    → EndsSteps start (outcome_of_script start.setup script) input (Ok (Refused line why)) sent kept left → script.ending ≡ ending.Refused line why
script_refused start script line why input sent kept left f = refused_ends line why script.ending f.finishes.ends

-- ---- no drivers

pub without_drivers : {X : Type 0} {V : X → Type 0} (driver : Plug X V → Driver) {A : Type 0} (f : A → Driver) (drivers : List A) (desc : Description)
    (x : System X V) → drivers ≡ []
    → StandsFor driver (record { desc = desc; drivers = map f drivers }) [] x → StandsFor driver (record { desc = desc; drivers = [] }) [] x
without_drivers driver f drivers desc x none stands = subst (λ ds. StandsFor driver (record { desc = desc; drivers = map f ds }) [] x) none stands

-- ---- by the head of the text

abbrev TalliesHead : Bool → Head → Result Tally Stop → Type 0
TalliesHead over head (Ok tally) = ((outcome_of_head [] over head).ending ≡ Finished) × (tally ≡ tally_of (summary_of_head [] over head))
TalliesHead over head (Err (stop.Refused line why)) = (outcome_of_head [] over head).ending ≡ ending.Refused line why
TalliesHead over head (Err stop.Mem) = Unit {0}

of_text : (text : List ℕ) (r : Result Tally Stop) → TalliesHead (is_overlong text) (head_of 0 text) r → Tallies text r
of_text text r t = search rules

of_script : (desc : Description) (over : Bool) (first : ℕ) (lines : List (List ℕ)) (r : Result Tally Stop)
    → TalliesScript (record { desc = desc; drivers = [] }) (script_from desc (last_ending over) [] first lines) r
    → TalliesHead over (Described desc first lines) r
of_script desc over first lines r t = search rules

pub described : (text : List ℕ) (desc : Description) (first : ℕ) (h : Hand) (left : Option (List ℕ)) (r : Result Tally Stop) → IsHand h
    → EndsAt 0 desc first text h left
    → ((front more : List (List ℕ)) → Follows text front h left → first ≡ length front + 1 → scanned_lines text ≡ front ++ more
    → TalliesScript (record { desc = desc; drivers = [] }) (script_from desc (last_ending (is_overlong text)) [] first more) r)
    → Tallies text r
described text desc first h left r is ends played = search (rules, follows_begin)

pub alone : (text : List ℕ) (desc : Description) (r : Result Tally Stop) → EndsAlone 0 desc text
    → ((first : ℕ) → TalliesScript (record { desc = desc; drivers = [] }) (script_from desc Finished [] first []) r) → Tallies text r
alone text desc r ends counted =
    of_text text r
    (subst (λ (x : Head). TalliesHead (is_overlong text) x r) (sym ends.head)
    (subst (λ (o : Bool). TalliesHead o (Described desc ends.next []) r) (sym ends.short) (of_script desc false ends.next [] r (counted ends.next))))

pub refused : (text : List ℕ) (line : ℕ) (why : Why) (left : Option (List ℕ)) → RefusesAt 0 (read.Refused line why) line text left
    → Tallies text (Err (stop.Refused line why))
refused text line why left refuses = ap (λ (x : Head). (outcome_of_head [] (is_overlong text) x).ending) refuses.head
