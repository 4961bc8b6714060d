-- What a membership sees: the captures of its device since its OPEN or its last REMASK, and what its own READBUFs ask for; at
-- an output device, what its WRITEBUFs offer, and when the device is to be given a scan.
use Rattle.std.specs.Prelude.{ℕ, ◌/◌, List, [], ◌∷◌, if◌then◌else◌}
use Rattle.iio_history.specs.Event.{Event}
use Rattle.iio_history.specs.Who.{Who, Conn, Inner, same}
use Rattle.iio_history.specs.Registry.{Setup}
use Rattle.iio_core.specs.Moves.{Capture}
use Rattle.iio_history.specs.Act.{Act, Joining, Remasking, Reading, Capturing, Writing, Giving, act_at}
use Rattle.iio_history.specs.Fold.{registry_after}

pub data Logged : Type 0 where
  Captured : (capture : Capture) → Logged
  Taken : (scans : ℕ) → Logged
  -- at an output device: its writer offers scans; the device is to be given one
  Offered : (scans : List (List ℕ)) → Logged
  Given : Logged

-- an inner member takes each capture as soon as it is made
abbrev pub logged_capture : Who → Capture → List Logged → List Logged
logged_capture (Conn name) c log = Captured c ∷ log
logged_capture (Inner device) c log = Taken 1 ∷ Captured c ∷ log

-- what an act at the device adds to the log of a membership with scans of that size: its joining, or its REMASK, begins the
-- log; the log has captures, and what the membership takes, writes and is given, and nothing else
abbrev pub logged : Act → Who → ℕ → List Logged → List Logged
logged (Joining m) who size log = if same m.who who then [] else log
logged (Remasking m mask) who size log = if same m.who who then [] else log
logged (Capturing c) who size log = logged_capture who c log
logged (Reading reader bytes) who size log = if same reader who then Taken (bytes / size) ∷ log else log
logged (Writing writer scans) who size log = if same writer who then Offered scans ∷ log else log
logged Giving who size log = Given ∷ log
logged act who size log = log

-- the log of a membership of device k, the newest entry first
abbrev pub membership_log : Setup → Who → ℕ → ℕ → List Event → List Logged
membership_log s who size k [] = []
membership_log s who size k (e ∷ h) = logged (act_at s (registry_after s h) e k) who size (membership_log s who size k h)
