-- The machine prints the transcript.
use Rattle.std.proofs.Common.{◌≡◌, ℕ, List, [], ◌∷◌, ◌++◌, refl, ap, ◌∙◌}
use Rattle.iio_history.specs.Event.{Event}
use Rattle.iio_history.specs.Registry.{Setup}
use Rattle.iio_history.specs.Told.{Told, told}
use Rattle.iio_history.specs.Transcript.{Step, events_of_step, and_then, texts_after, with_step, lines_of_step, transcript}
use Rattle.iio_history.specs.Played.{steps, texts, state_after, step_lines, played}
use Rattle.iio_history.proofs.ToldLaws.{step_is_told}

pub steps_told : (s : Setup) (h : List Event) (es : List Event) → told s (and_then h es) ≡ steps s (told s h) es
steps_told s h [] = refl
steps_told s h (e ∷ es) = steps_told s (e ∷ h) es ∙ ap (λ (m : Told). steps s m es) (step_is_told s h e)

pub texts_told : (s : Setup) (h : List Event) (es : List Event) → texts_after s h es ≡ texts s (told s h) es
texts_told s h [] = refl
texts_told s h (e ∷ es) = simp (told, step_is_told, texts_told s (e ∷ h) es)

pub state_is : (s : Setup) (h : List Event) (t : Step) → told s (with_step s h t) ≡ state_after s (told s h) t
state_is s h t = steps_told s h (events_of_step (told s h) t)

pub lines_are : (s : Setup) (h : List Event) (t : Step) → lines_of_step s h t ≡ step_lines s (told s h) t
lines_are s h t = simp (told, state_is, texts_told)

pub transcript_is : (s : Setup) (h : List Event) (ts : List Step) → transcript s h ts ≡ played s (told s h) ts
transcript_is s h [] = refl
transcript_is s h (t ∷ ts) =
    ap (λ (text : List ℕ). text ++ transcript s (with_step s h t) ts) (lines_are s h t)
    ∙ ap (λ (text : List ℕ). step_lines s (told s h) t ++ text) (transcript_is s (with_step s h t) ts ∙ ap (λ (m : Told). played s m ts) (state_is s h t))
