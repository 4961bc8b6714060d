-- A run that keeps the lines of one connection's own world, and has reached a line. (This project's own.)
use Rattle.std.specs.Prelude.{◌≡◌, ℕ, ◌+◌, true, List, [], ◌∷◌, ◌++◌, Option, Some, None, Result, Ok, Err}
use Rattle.iio_text.specs.declared.refusals.Why.{Why}
use Rattle.iio_text.specs.declared.refusals.Why.TheVariants.{Bystander}
use Rattle.iio_sensor.specs.Driver.{Driver}
use Rattle.iio_device.specs.declared.plug.Plug.{Plug}
use Rattle.iio_history.specs.Event.{Event}
use Rattle.iio_history.specs.Numbered.{Numbered, numbered_from}
use Rattle.iio_history.specs.Registry.{Setup}
use Rattle.iio_history.specs.Script.{Ending, Refused, TooLong, script_from}
use Rattle.iio_history.specs.Transcript.{with_step}
use Rattle.iio_system.specs.declared.system.System.{System}
use Rattle.iio_system.specs.Standing.{StandsFor, names_by}
use Rattle.iio_worlds.specs.Bystanders.{only_bystanders}
use Rattle.iio_worlds.specs.KeptOn.{kept_on}
use Rattle.iio_worlds.specs.Solo.{kept_of, kept_of_script}
use Rattle.iio_script.specs.declared.keeping.Keeping.{Keeping}
use Rattle.iio_script.specs.declared.keeping.Keeping.TheVariants as keeping
use Rattle.iio_script.specs.declared.stop.Stop.{Stop}
use Rattle.iio_script.specs.declared.stop.Stop.TheVariants as stop
use Rattle.iio_script.specs.Plays.{AreSame, Progress, with_line}

-- the result of a run: what is kept, or how the input ends
abbrev pub keeping_view : Keeping → Result (List ℕ) Ending
keeping_view (keeping.Text text) = Ok text.items
keeping_view (keeping.Refused line why) = Err (Refused line why)
keeping_view keeping.TooLong = Err TooLong

-- what is kept of a text, seen as these bytes; if memory ran out, nothing is said
abbrev pub KeepsText : {B : Type 0} → (bytes : B → List ℕ) → List ℕ → List Driver → List ℕ → Result B Stop → Type 0
KeepsText bytes a drivers text (Ok kept) = kept_of a drivers text ≡ Ok (bytes kept)
KeepsText bytes a drivers text (Err (stop.Refused line why)) = kept_of a drivers text ≡ Err (Refused line why)
KeepsText bytes a drivers text (Err stop.Mem) = Unit {0}

-- when no line is left: the text that was kept, or the line of the step that offended
abbrev pub kept_at_end : Option ℕ → List ℕ → Result (List ℕ) Ending
kept_at_end None text = Ok text
kept_at_end (Some line) text = Err (Refused line Bystander)

-- what is kept of the lines of a script, the first of which has the number `first`
abbrev pub kept_of_lines : Setup → List ℕ → Ending → ℕ → List (List ℕ) → Result (List ℕ) Ending
kept_of_lines s a ending first lines = kept_of_script s a (numbered_from s.desc [] first lines) (script_from s.desc ending [] first lines).ending

-- what a run has kept so far: the number of the line whose step offended, if one did, and the text
pub record Excerpt : Type 0 where
  pub offence : Option ℕ
  pub text : List ℕ

abbrev pub excerpt_of : (offence : Option ℕ) (text : List ℕ) → Excerpt
excerpt_of offence text = record { offence = offence; text = text }

-- whose lines are kept: those of the connection of that name, at the system of a description
pub record Watch : Type 0 where
  pub setup : Setup
  pub name : List ℕ

abbrev pub watch_of : Setup → (name : List ℕ) → Watch
watch_of s name = record { setup = s; name = name }

module _ {X : Type 0} {V : X → Type 0} (driver : Plug X V → Driver) where
  -- the lines were played, and that was kept of them. This holds whatever lines follow
  pub record KeepsOn (w : Watch) (x : System X V) (excerpt : Excerpt) (run : Progress) : Type 0 where
    pub done : List Event
    pub names : List (List ℕ)
    pub stands : StandsFor driver w.setup done x
    pub same : AreSame names (names_by x)
    pub neutral : excerpt.offence ≡ None → only_bystanders w.setup w.name done ≡ true
    pub kept : (ending : Ending) (lines : List (List ℕ))
        → kept_on w.setup w.name excerpt.offence excerpt.text done (numbered_from w.setup.desc names run.next lines)
        (script_from w.setup.desc ending names run.next lines).ending
        ≡ kept_of_lines w.setup w.name ending run.first (run.given ++ lines)

  -- the step of that line was performed
  pub record KeepsStep (w : Watch) (h : List Event) (t : Numbered) (old new : Excerpt) (x' : System X V) : Type 0 where
    pub stands : StandsFor driver w.setup (with_step w.setup h t.step) x'
    pub neutral : new.offence ≡ None → only_bystanders w.setup w.name (with_step w.setup h t.step) ≡ true
    pub kept : (ts : List Numbered) (ending : Ending)
        → kept_on w.setup w.name old.offence old.text h (t ∷ ts) ending
        ≡ kept_on w.setup w.name new.offence new.text (with_step w.setup h t.step) ts ending

  -- a line was played; or it is refused, and then the input is refused there
  abbrev pub KeepsLine : Watch → System X V → Excerpt → Progress → (line : List ℕ) → Option Why → Type 0
  KeepsLine w x excerpt run line None = KeepsOn w x excerpt (with_line run line)
  KeepsLine w x excerpt run line (Some why) =
      (ending : Ending) (lines : List (List ℕ)) → kept_of_lines w.setup w.name ending run.first (run.given ++ line ∷ lines) ≡ Err (Refused run.next why)
