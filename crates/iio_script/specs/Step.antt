-- The reader of steps, as seen by contracts.
use Rattle.std.specs.Prelude.{ℕ, List, Result, Ok, Err}
use Rattle.std.specs.Option.{ok_or}
use Rattle.iio_base.specs.Refusals.{ensure, ◌>>=◌, ◌>>◌}
use Rattle.iio_text.specs.declared.refusals.Why.{Why}
use Rattle.iio_text.specs.declared.refusals.Why.TheVariants as why
use Rattle.iio_text.specs.Escape.{quoted_of}
use Rattle.iio_attr.specs.Name.{is_name}
use Rattle.iio_desc.specs.Description.{Description}
use Rattle.iio_history.specs.Script.{begins_quote, clock_step, drop_step, handle_step, sense_step, trigger_step, unplug_step}
use Rattle.iio_history.specs.Transcript.{Step, Feed, Fire, Poll}
use Rattle.iio_system.specs.declared.step.Step.{Step as CodeStep}
use Rattle.iio_system.specs.Step.{step_view}
use Rattle.iio_script.specs.declared.step_word.StepWord.{StepWord}
use Rattle.iio_script.specs.declared.step_word.StepWord.TheVariants as word

-- a step that was read
abbrev pub read_view : Result CodeStep Why → Result Step Why
read_view (Ok step) = Ok (step_view step)
read_view (Err why) = Err why

-- the form of the words after a step's first one
abbrev pub form_of : StepWord → Description → List (List ℕ) → Result Step Why
form_of word.Fire = trigger_step (λ t m. Fire t m)
form_of word.Poll = trigger_step (λ t m. Poll t m)
form_of word.Handle = handle_step
form_of word.Sense = sense_step
form_of word.Clock = clock_step
form_of word.Drop = drop_step
form_of word.Unplug = unplug_step

-- a feed, read from its name and from the text that begins with the word after it
abbrev pub feed_of : List ℕ → List ℕ → Result Step Why
feed_of name text = do
  ensure (is_name name) why.Word
  ensure (begins_quote text) why.Count
  bytes ← ok_or (quoted_of text) why.Text
  Ok (Feed name bytes)
