-- The lines of a script, one after another: what is kept of them so far, and of the lines after them.
use Rattle.std.proofs.Common.{◌≡◌, ℕ, ◌+◌, Bool, true, false, cond, List, [], ◌∷◌, ◌++◌, length, take, Option, Some, None, is_some, Ok, Err, refl, sym, ap, ◌∙◌, subst, arith, append_assoc, append-nil, rules}
use Rattle.std.proofs.lemmas.Grind.{common_steps}
use Rattle.iio_text.specs.declared.refusals.Why.{Why}
use Rattle.iio_text.specs.declared.refusals.Why.TheVariants.{Limit, Long}
use Rattle.iio_text.specs.Lines.{fits_line}
use Rattle.iio_sensor.specs.Driver.{Driver}
use Rattle.iio_desc.specs.Description.{Description}
use Rattle.iio_device.specs.declared.plug.Plug.{Plug}
use Rattle.iio_history.specs.Event.{Event}
use Rattle.iio_history.specs.Numbered.{Numbered, numbered_from}
use Rattle.iio_history.specs.Registry.{Setup}
use Rattle.iio_history.specs.Script.{Ending, Finished, Refused, Script, TooLong, keeps_names, names_after, script_from, step_of}
use Rattle.iio_history.specs.Transcript.{Step, lines_of_step, with_step}
use Rattle.iio_system.specs.declared.system.System.{System}
use Rattle.iio_system.specs.Standing.{StandsFor, names_by, names_with}
use Rattle.iio_worlds.specs.Bystanders.{only_bystanders}
use Rattle.iio_worlds.specs.KeptOn.{KeptGoesOn, kept_on}
use Rattle.iio_worlds.specs.Worlds.{is_others}
use Rattle.iio_script.specs.Keeps.{Excerpt, KeepsOn, KeepsStep, excerpt_of, kept_at_end, kept_of_lines, watch_of}
use Rattle.iio_script.specs.Plays.{AreSame, Progress, progress_of, with_line}
use Rattle.iio_script.proofs.PlayLaws.{same_after, same_kept, says_step}

-- ---- a script's first line, with its number

numbered_step : (desc : Description) (names : List (List ℕ)) (n : ℕ) (line : List ℕ) (lines : List (List ℕ)) (step : Step) → step_of desc line ≡ Ok (Some step)
    → keeps_names names (Some step) ≡ true
    → numbered_from desc names n (line ∷ lines) ≡ record { number = n; step = step } ∷ numbered_from desc (names_after names (Some step)) (n + 1) lines
numbered_step desc names n line lines step said kept = rw (said, kept, numbered_from) refl

-- ---- a step

module _ {X : Type 0} {V : X → Type 0} (driver : Plug X V → Driver) where
  -- after an offence a step is only performed
  pub step_made : KeptGoesOn
      → (s : Setup) (a : List ℕ) (h : List Event) (t : Numbered) (offence : Option ℕ) (b : Bool) (text text' : List ℕ) (x' : System X V)
      → b ≡ is_some offence → b ≡ true → StandsFor driver s (with_step s h t.step) x'
      → KeepsStep driver (watch_of s a) h t (excerpt_of offence text) (excerpt_of offence text') x'
  step_made law s a h t offence b text text' x' is some stands = search rules

  -- a step against the rules
  pub step_offends : KeptGoesOn
      → (s : Setup) (a : List ℕ) (h : List Event) (t : Numbered) (offence : Option ℕ) (b meets : Bool) (text text' : List ℕ) (x' : System X V)
      → b ≡ is_some offence → b ≡ false → ((offence ≡ None → only_bystanders s a h ≡ true))
      → (only_bystanders s a h ≡ true → meets ≡ only_bystanders s a (with_step s h t.step)) → meets ≡ false → StandsFor driver s (with_step s h t.step) x'
      → KeepsStep driver (watch_of s a) h t (excerpt_of offence text) (excerpt_of (Some t.number) text') x'
  step_offends law s a h t offence b meets text text' x' is none neutral decides against stands = search rules

  -- a step that meets the rules
  pub step_kept : KeptGoesOn
      → (s : Setup) (a : List ℕ) (h : List Event) (t : Numbered) (offence : Option ℕ) (b meets : Bool) (text whole text' : List ℕ) (count : ℕ)
      (x' : System X V)
      → b ≡ is_some offence → b ≡ false → ((offence ≡ None → only_bystanders s a h ≡ true))
      → (only_bystanders s a h ≡ true → meets ≡ only_bystanders s a (with_step s h t.step)) → meets ≡ true → StandsFor driver s (with_step s h t.step) x'
      → whole ≡ text ++ lines_of_step s h t.step → count ≡ cond (is_others a t.step) (length text) (length whole) → text' ≡ take count whole
      → KeepsStep driver (watch_of s a) h t (excerpt_of offence text) (excerpt_of offence text') x'
  step_kept law s a h t offence b meets text whole text' count x' is none neutral decides keeps stands printed counted cut = grind (arith, common_steps)

  -- ---- a run that has reached a line

  pub keeps_first : KeptGoesOn → (s : Setup) (a : List ℕ) (x : System X V) (first : ℕ) → names_by x ≡ [] → StandsFor driver s [] x
      → KeepsOn driver (watch_of s a) x (excerpt_of None []) (progress_of first first [])
  keeps_first law s a x first none stands = search rules

  -- a line that means nothing
  pub keeps_past : (s : Setup) (a : List ℕ) (x : System X V) (excerpt : Excerpt) (run : Progress) (line : List ℕ) → step_of s.desc line ≡ Ok None
      → KeepsOn driver (watch_of s a) x excerpt run → KeepsOn driver (watch_of s a) x excerpt (with_line run line)
  keeps_past s a x excerpt run line said keeps = grind (arith, common_steps)

  -- a step that was performed
  pub keeps_more : (s : Setup) (a : List ℕ) (x x' : System X V) (old new : Excerpt) (run : Progress) (line : List ℕ) (step : Step)
      → step_of s.desc line ≡ Ok (Some step) → keeps_names (names_by x) (Some step) ≡ true
      → ((h : List Event) → StandsFor driver s h x → (old.offence ≡ None → only_bystanders s a h ≡ true)
      → KeepsStep driver (watch_of s a) h (record { number = run.next; step = step }) old new x')
      → names_by x' ≡ names_with (names_by x) step
      → KeepsOn driver (watch_of s a) x old run → KeepsOn driver (watch_of s a) x' new (with_line run line)
  keeps_more s a x x' old new run line step said room makes fed keeps =
      let made = makes keeps.done keeps.stands keeps.neutral in
      let known : keeps_names keeps.names (Some step) ≡ true = same_kept keeps.names (names_by x) step keeps.same ∙ room in
      record {
        done = with_step s keeps.done step;
        names = names_after keeps.names (Some step);
        stands = made.stands;
        same = subst (AreSame (names_after keeps.names (Some step))) (sym fed) (same_after keeps.names (names_by x) step keeps.same);
        neutral = made.neutral;
        kept = λ ending lines.
            let next : Script = script_from s.desc ending (names_after keeps.names (Some step)) (run.next + 1) lines in
            let ts : List Numbered = numbered_from s.desc (names_after keeps.names (Some step)) (run.next + 1) lines in
            sym (made.kept ts next.ending)
            ∙ sym
            (ap (λ (us : List Numbered). kept_on s a old.offence old.text keeps.done us (script_from s.desc ending keeps.names run.next (line ∷ lines)).ending)
            (numbered_step s.desc keeps.names run.next line lines step said known)
            ∙ ap (λ (script : Script). kept_on s a old.offence old.text keeps.done (record { number = run.next; step = step } ∷ ts) script.ending)
            (says_step s.desc ending keeps.names run.next line lines step said known))
            ∙ keeps.kept ending (line ∷ lines)
            ∙ sym (ap (λ (ls : List (List ℕ)). kept_of_lines s a ending run.first ls) (append_assoc run.given (line ∷ []) lines));
      }

  -- ---- the end

  pub keeps_wrong : (s : Setup) (a : List ℕ) (x : System X V) (excerpt : Excerpt) (run : Progress) (line : List ℕ) (lines : List (List ℕ)) (why : Why)
      (ending : Ending)
      → step_of s.desc line ≡ Err why → KeepsOn driver (watch_of s a) x excerpt run
      → kept_of_lines s a ending run.first (run.given ++ line ∷ lines) ≡ Err (Refused run.next why)
  keeps_wrong s a x excerpt run line lines why ending said keeps = search rules

  pub keeps_over : (s : Setup) (a : List ℕ) (x : System X V) (excerpt : Excerpt) (run : Progress) (line : List ℕ) (lines : List (List ℕ)) (step : Step)
      (ending : Ending)
      → step_of s.desc line ≡ Ok (Some step) → keeps_names (names_by x) (Some step) ≡ false → KeepsOn driver (watch_of s a) x excerpt run
      → kept_of_lines s a ending run.first (run.given ++ line ∷ lines) ≡ Err (Refused run.next Limit)
  keeps_over s a x excerpt run line lines step ending said over keeps = search rules

  -- a line that is too long
  pub keeps_long : (s : Setup) (a : List ℕ) (x : System X V) (excerpt : Excerpt) (run : Progress) (line : List ℕ) (lines : List (List ℕ)) (ending : Ending)
      → fits_line line ≡ false → KeepsOn driver (watch_of s a) x excerpt run
      → kept_of_lines s a ending run.first (run.given ++ line ∷ lines) ≡ Err (Refused run.next Long)
  keeps_long s a x excerpt run line lines ending long keeps = search rules

  -- no line is left
  pub keeps_done : KeptGoesOn → (s : Setup) (a : List ℕ) (x : System X V) (excerpt : Excerpt) (run : Progress) → KeepsOn driver (watch_of s a) x excerpt run
      → kept_of_lines s a Finished run.first run.given ≡ kept_at_end excerpt.offence excerpt.text
  keeps_done law s a x excerpt run keeps =
      sym (keeps.kept Finished [] ∙ ap (λ (ls : List (List ℕ)). kept_of_lines s a Finished run.first ls) (append-nil run.given)) ∙ by excerpt.offence
    where
      by : (o : Option ℕ) → kept_on s a o excerpt.text keeps.done [] Finished ≡ kept_at_end o excerpt.text
      by o = search rules

  -- the input goes on
  pub keeps_cut : (s : Setup) (a : List ℕ) (x : System X V) (excerpt : Excerpt) (run : Progress) → KeepsOn driver (watch_of s a) x excerpt run
      → kept_of_lines s a TooLong run.first run.given ≡ Err TooLong
  keeps_cut s a x excerpt run keeps =
      sym (keeps.kept TooLong [] ∙ ap (λ (ls : List (List ℕ)). kept_of_lines s a TooLong run.first ls) (append-nil run.given))
