-- What the plain machine prints for steps. No reader has to believe it: the law says that it is the transcript.
use Rattle.std.specs.Prelude.{ℕ, List, [], ◌∷◌, ◌++◌}
use Rattle.iio_history.specs.Event.{Event}
use Rattle.iio_history.specs.Registry.{Setup}
use Rattle.iio_history.specs.Told.{Told}
use Rattle.iio_history.specs.Machine.{step}
use Rattle.iio_history.specs.Transcript.{Step, event_text, events_of_step, step_text}

abbrev pub steps : Setup → Told → List Event → Told
steps s m [] = m
steps s m (e ∷ es) = steps s (step s m e) es

abbrev pub texts : Setup → Told → List Event → List ℕ
texts s m [] = []
texts s m (e ∷ es) = event_text s m e ++ texts s (step s m e) es

-- the state after a step
abbrev pub state_after : Setup → Told → Step → Told
state_after s m t = steps s m (events_of_step m t)

-- the lines of a step
abbrev pub step_lines : Setup → Told → Step → List ℕ
step_lines s m t = step_text m (state_after s m t) t (texts s m (events_of_step m t))

abbrev pub played : Setup → Told → List Step → List ℕ
played s m [] = []
played s m (t ∷ ts) = step_lines s m t ++ played s (state_after s m t) ts
