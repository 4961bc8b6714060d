-- The lines of a script, one after another: what was printed so far, and what the lines after them print.
use Rattle.std.proofs.Common.{◌≡◌, ℕ, ◌+◌, true, false, List, [], ◌∷◌, ◌++◌, Option, Some, None, Result, Ok, Err, IfOk, ◌⊎◌, refl, sym, ap, ◌∙◌, subst, arith, append_assoc, append-nil, rules}
use Rattle.std.proofs.lemmas.Grind.{common_steps}
use Rattle.iio_text.specs.declared.refusals.Why.{Why}
use Rattle.iio_text.specs.declared.refusals.Why.TheVariants.{Limit, Long}
use Rattle.iio_base.specs.Refusals.{◌>>=◌, ◌>>◌}
use Rattle.iio_text.specs.Lines.{fits_line, words_of_line}
use Rattle.iiod_grammar.specs.Command.{entry_of}
use Rattle.iio_sensor.specs.Driver.{Driver}
use Rattle.iio_desc.specs.Description.{Description}
use Rattle.iio_device.specs.declared.plug.Plug.{Plug}
use Rattle.iio_history.specs.Event.{Event}
use Rattle.iio_history.specs.Outcome.{Outcome, only_ending, outcome_of_script}
use Rattle.iio_history.specs.Registry.{Setup}
use Rattle.iio_history.specs.Script.{Ending, Finished, Refused, first_step, keeps_names, names_after, script_from, script_text, step_by, step_of, step_of_words, step_words}
use Rattle.iio_history.specs.Transcript.{Step, lines_of_step, with_step, with_steps}
use Rattle.iio_system.specs.declared.system.System.{System}
use Rattle.iio_system.specs.Standing.{StandsFor, names_by, names_with}
use Rattle.iio_script.specs.declared.status.Status.{Status}
use Rattle.iio_script.specs.Ends.{Finishes}
use Rattle.iio_script.specs.Plays.{AreSame, IsFrontOf, Performs, Plays, Progress, progress_of, step_kept, with_line}

-- ---- names

pub same_kept : (one other : List (List ℕ)) (step : Step) → AreSame one other → keeps_names one (Some step) ≡ keeps_names other (Some step)
same_kept one other step same = search rules

-- after a step
pub same_after : (one other : List (List ℕ)) (step : Step) → AreSame one other → AreSame (names_after one (Some step)) (names_with other step)
same_after one other step same = grind (arith, common_steps)

-- ---- a script's first line

pub says_step : (desc : Description) (ending : Ending) (names : List (List ℕ)) (n : ℕ) (line : List ℕ) (lines : List (List ℕ)) (step : Step)
    → step_of desc line ≡ Ok (Some step)
    → keeps_names names (Some step) ≡ true
    → script_from desc ending names n (line ∷ lines) ≡ first_step (Some step) (script_from desc ending (names_after names (Some step)) (n + 1) lines)
says_step desc ending names n line lines step said kept = rw (said, kept, script_from) refl

-- ---- the step of a line, by its words

pub says_nothing : (desc : Description) (line : List ℕ) → words_of_line line ≡ Ok [] → step_of desc line ≡ Ok None
says_nothing desc line said = ap (λ (r : Result (List (List ℕ)) Why). r >>= λ words. step_of_words desc line words) said

pub says_wrong : (desc : Description) (line : List ℕ) (why : Why) → words_of_line line ≡ Err why → step_of desc line ≡ Err why
says_wrong desc line why said = ap (λ (r : Result (List (List ℕ)) Why). r >>= λ words. step_of_words desc line words) said

pub says_words : (desc : Description) (line word : List ℕ) (words : List (List ℕ)) → words_of_line line ≡ Ok (word ∷ words)
    → step_of desc line ≡ (step_by desc line word words (entry_of step_words word) >>= λ step. Ok (Some step))
says_words desc line word words said = ap (λ (r : Result (List (List ℕ)) Why). r >>= λ words. step_of_words desc line words) said

-- ---- a step that was read

abbrev read_as : Step → Result Step Why
read_as step = Ok step

abbrev refused_as : Why → Result Step Why
refused_as why = Err why

-- a step that is refused: when it is read, or since it feeds a further name
abbrev IsStopped : List (List ℕ) → Result Step Why → Why → Type 0
IsStopped names reading why =
    (reading ≡ refused_as why) ⊎ ((step : Step) × ((reading ≡ read_as step) × ((keeps_names names (Some step) ≡ false) × (Limit ≡ why))))

kept_step : (names : List (List ℕ)) (reading : Result Step Why) (step : Step) → step_kept names reading ≡ read_as step
    → (reading ≡ read_as step) × (keeps_names names (Some step) ≡ true)
kept_step names reading step h = search rules

stopped_step : (names : List (List ℕ)) (reading : Result Step Why) (why : Why) → step_kept names reading ≡ refused_as why → IsStopped names reading why
stopped_step names reading why h = search rules

-- ---- a run that has reached a line

module _ {X : Type 0} {V : X → Type 0} (driver : Plug X V → Driver) where
  pub plays_first : (s : Setup) (x : System X V) (first : ℕ) → names_by x ≡ [] → StandsFor driver s [] x → Plays driver s x [] (progress_of first first [])
  plays_first s x first none stands = search rules

  -- a line that means nothing
  pub plays_past : (s : Setup) (x : System X V) (text : List ℕ) (run : Progress) (line : List ℕ) → step_of s.desc line ≡ Ok None → Plays driver s x text run
      → Plays driver s x text (with_line run line)
  plays_past s x text run line said plays = grind (arith, common_steps)

  -- a step that was performed
  pub plays_on : (s : Setup) (x x' : System X V) (text after : List ℕ) (run : Progress) (line : List ℕ) (step : Step)
      → step_of s.desc line ≡ Ok (Some step) → keeps_names (names_by x) (Some step) ≡ true
      → ((h : List Event) → StandsFor driver s h x → (after ≡ text ++ lines_of_step s h step) × StandsFor driver s (with_step s h step) x')
      → names_by x' ≡ names_with (names_by x) step
      → Plays driver s x text run → Plays driver s x' after (with_line run line)
  plays_on s x x' text after run line step said kept makes fed plays =
      let made = makes plays.done plays.stands in
      let lines_made : List ℕ = lines_of_step s plays.done step in
      let keeps : keeps_names plays.names (Some step) ≡ true = same_kept plays.names (names_by x) step plays.same ∙ kept in
      record {
        done = with_step s plays.done step;
        names = names_after plays.names (Some step);
        stands = made.1;
        same = subst (AreSame (names_after plays.names (Some step))) (sym fed) (same_after plays.names (names_by x) step plays.same);
        printed = grind (arith, common_steps);
        ends = grind (arith, common_steps);
        history = grind (arith, common_steps);
      }

  pub performs_line : {A : Type 0} (r : Result (Option Why) A) (reading : Result Step Why) (other : List ℕ → Result Step Why) (x x' : System X V)
      (before after : List ℕ) (Of : List ℕ → Type 0) → ((line : List ℕ) → Of line → other line ≡ reading)
      → IfOk r (Performs driver reading x x' before after)
      → IfOk r (λ why. (line : List ℕ) → Of line → Performs driver (other line) x x' before after why)
  performs_line r reading other x x' before after Of same performs = search rules

  -- .. that was read
  pub plays_step : (s : Setup) (x x' : System X V) (sent before after : List ℕ) (run : Progress) (line : List ℕ) (reading : Result Step Why)
      → step_of s.desc line ≡ (reading >>= λ step. Ok (Some step)) → Performs driver reading x x' before after None
      → Plays driver s x (sent ++ before) run → Plays driver s x' (sent ++ after) (with_line run line)
  plays_step s x x' sent before after run line reading said performs plays =
      let step = performs.0 in
      let performed = performs.1.1 in
      let kept = kept_step (names_by x) reading step performs.1.0 in
      plays_on s x x' (sent ++ before) (sent ++ after) run line step (said ∙ ap (λ (r : Result Step Why). r >>= λ step. Ok (Some step)) kept.0) kept.1
      (λ h stands. let made = performed.lines s h stands in (ap (λ t. sent ++ t) made.0 ∙ sym (append_assoc sent before _), made.1)) performed.names plays

  -- ---- the end

  ends_with : (s : Setup) (x : System X V) (text after : List ℕ) (run : Progress) (lines : List (List ℕ)) (ending last : Ending) (status : Status)
      → (plays : Plays driver s x text run) → script_from s.desc ending plays.names run.next lines ≡ record { steps = []; ending = last }
      → Finishes (only_ending last) status text after
      → Finishes (outcome_of_script s (script_from s.desc ending [] run.first (run.given ++ lines))) status [] after
  ends_with s x text after run lines ending last status plays left f = search rules

  pub plays_last : (s : Setup) (x : System X V) (text after : List ℕ) (run : Progress) (ending : Ending) (status : Status) → Plays driver s x text run
      → Finishes (only_ending ending) status text after
      → Finishes (outcome_of_script s (script_from s.desc ending [] run.first run.given)) status [] after
  plays_last s x text after run ending status plays f =
      subst (λ (ls : List (List ℕ)). Finishes (outcome_of_script s (script_from s.desc ending [] run.first ls)) status [] after) (append-nil run.given)
      (ends_with s x text after run [] ending ending status plays refl f)

  pub plays_refused : (s : Setup) (x : System X V) (text after : List ℕ) (run : Progress) (line : List ℕ) (lines : List (List ℕ)) (why : Why)
      (ending : Ending) (status : Status)
      → step_of s.desc line ≡ Err why → Plays driver s x text run → Finishes (only_ending (Refused run.next why)) status text after
      → Finishes (outcome_of_script s (script_from s.desc ending [] run.first (run.given ++ line ∷ lines))) status [] after
  plays_refused s x text after run line lines why ending status said plays f = search rules

  -- .. or of which the step is refused
  pub plays_stopped : (s : Setup) (x : System X V) (text after : List ℕ) (run : Progress) (line : List ℕ) (lines : List (List ℕ))
      (reading : Result Step Why) (why : Why) (ending : Ending) (status : Status)
      → step_of s.desc line ≡ (reading >>= λ step. Ok (Some step)) → step_kept (names_by x) reading ≡ Err why → Plays driver s x text run
      → Finishes (only_ending (Refused run.next why)) status text after
      → Finishes (outcome_of_script s (script_from s.desc ending [] run.first (run.given ++ line ∷ lines))) status [] after
  plays_stopped s x text after run line lines reading why ending status said stopped plays f =
      by_cause (stopped_step (names_by x) reading why stopped)
    where
      by_cause : IsStopped (names_by x) reading why
          → Finishes (outcome_of_script s (script_from s.desc ending [] run.first (run.given ++ line ∷ lines))) status [] after
      by_cause h1 = search rules

  -- a line that is too long
  pub plays_long : (s : Setup) (x : System X V) (text after : List ℕ) (run : Progress) (line : List ℕ) (lines : List (List ℕ)) (ending : Ending)
      (status : Status)
      → fits_line line ≡ false → Plays driver s x text run → Finishes (only_ending (Refused run.next Long)) status text after
      → Finishes (outcome_of_script s (script_from s.desc ending [] run.first (run.given ++ line ∷ lines))) status [] after
  plays_long s x text after run line lines ending status long plays f = search rules

  -- .. and the system stands for the history of its steps
  pub plays_done : (s : Setup) (x : System X V) (text : List ℕ) (run : Progress) (ending : Ending) → Plays driver s x text run
      → StandsFor driver s (with_steps s [] (script_from s.desc ending [] run.first run.given).steps) x
  plays_done s x text run ending plays =
      subst (λ (h : List Event). StandsFor driver s h x)
      (plays.history ending [] ∙ ap (λ ls. with_steps s [] (script_from s.desc ending [] run.first ls).steps) (append-nil run.given)) plays.stands

  -- what was printed is a front part of what any script prints that goes on like this
  pub plays_front : (s : Setup) (x : System X V) (text : List ℕ) (run : Progress) (lines : List (List ℕ)) (ending : Ending) → Plays driver s x text run
      → IsFrontOf (outcome_of_script s (script_from s.desc ending [] run.first (run.given ++ lines))) text
  plays_front s x text run lines ending plays = search rules

  -- .. and it is all that the script's lines print
  pub plays_all : (s : Setup) (x : System X V) (text : List ℕ) (run : Progress) → Plays driver s x text run
      → text ≡ script_text s (script_from s.desc Finished [] run.first run.given)
  plays_all s x text run plays =
      sym (append-nil text) ∙ plays.printed Finished [] ∙ ap (λ ls. script_text s (script_from s.desc Finished [] run.first ls)) (append-nil run.given)

-- ---- what was written before

pub behind_sent : (sent before after : List ℕ) (outcome : Outcome) (status : Status) → Finishes outcome status before after
    → Finishes outcome status (sent ++ before) (sent ++ after)
behind_sent sent before after outcome status f = grind (arith, common_steps)
