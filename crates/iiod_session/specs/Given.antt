-- The scans that READBUF's answers give, for each device, by the items and their answers alone.
use Rattle.std.specs.Prelude.{◌≡◌, ℕ, ◌==◌, Bool, false, List, [], ◌∷◌, ◌++◌, Option, Some, None, Ok, if◌then◌else◌}
use Rattle.std.specs.Option.{option_map_or}
use Rattle.iiod_grammar.specs.Command.{Open, ReadBuf, Remask}
use Rattle.iiod_grammar.specs.Stream.{Item, Said}
use Rattle.iiod_reply.specs.Reply.{Reply, Number, Block}
use Rattle.iiod_commands.specs.Client.{SeatState, State}
use Rattle.iio_core.specs.Front.{Front, find_device}
use Rattle.iiod_commands.specs.Seat.{Trace}

-- whether the device of that number has the name
abbrev pub is_named : Front → List ℕ → ℕ → Bool
is_named front device dev = option_map_or (λ k. k == dev) (find_device front device) false

-- the scans given of a device, after an item is answered: an accepted OPEN or REMASK begins anew, a READBUF adds its scans
abbrev pub given_by : Front → ℕ → Item → Reply → List (List ℕ) → List (List ℕ)
given_by front dev (Said (Ok (Open device samples text cyclic))) (Number n) given = if is_named front device dev then [] else given
given_by front dev (Said (Ok (ReadBuf device asked))) (Block channels mask scans bytes) given = if is_named front device dev then given ++ scans else given
given_by front dev (Said (Ok (Remask device text))) (Number n) given = if is_named front device dev then [] else given
given_by front dev item reply given = given

-- the scans given after these items with their answers
abbrev pub given_after : Front → ℕ → List Item → List Reply → List (List ℕ) → List (List ℕ)
given_after front dev (item ∷ items) (reply ∷ replies) given = given_after front dev items replies (given_by front dev item reply given)
given_after front dev items replies given = given

-- ---- seats and their traces

-- the trace of the seat at a device
abbrev pub trace_at : ℕ → List SeatState → List (Option Trace) → Option Trace
trace_at dev (s ∷ ss) (t ∷ ts) = if s.dev == dev then t else trace_at dev ss ts
trace_at dev seats traces = None

-- the scans that a seat gave; none if there is no seat
abbrev pub given_in : Option Trace → List (List ℕ)
given_in None = []
given_in (Some t) = t.given

-- for each device whose seat has a trace: the scans that it gave are those given before, followed by those of the answers
abbrev pub GivenIs : Front → List Item → List Reply → State → State → Type 0
GivenIs front items replies a b = (dev : ℕ) (t : Trace) → trace_at dev b.client.seats b.traces ≡ Some t
    → t.given ≡ given_after front dev items replies (given_in (trace_at dev a.client.seats a.traces))
