-- How a connection ends: what was heard and said over its link, what became of what it had open, and the count of faults.
use Rattle.std.specs.Prelude.{◌≡◌, ℕ, ◌++◌, List, [], Option, Some, IfSome}
use Rattle.iio_base.specs.Faults.{Rose}
use Rattle.iiod_grammar.specs.Stream.{AtEnd, no_item}
use Rattle.iiod_commands.specs.Acts.{left_machine}
use Rattle.iio_core.specs.Front.{Front}
use Rattle.iio_core.specs.Machine.{Machine}
use Rattle.iiod_connection.specs.declared.session_end.SessionEnd.{SessionEnd}
use Rattle.iiod_connection.specs.declared.session_end.SessionEnd.TheVariants.{Eof, Ended, LinkFault, Memory}
use Rattle.iiod_connection.specs.Answers.{Answers}
use Rattle.iiod_connection.specs.Place.{Place, first_place}

-- a prefix of what was said was written after what was written before
pub record WritesFront (before said : List ℕ) (after : Option (List ℕ)) : Type 0 where
  pub sent : List ℕ
  pub rest : List ℕ
  pub whole : said ≡ sent ++ rest
  pub appended : after ≡ Some (before ++ sent)

-- what was heard of the bytes that came over the link, if it tells them: all of them if the end is `Eof`
abbrev pub Hears : SessionEnd → (left : Option (List ℕ)) → (heard : List ℕ) → (left' : Option (List ℕ)) → Type 0
Hears Eof left heard left' = IfSome left (λ xs. (xs ≡ heard) × (left' ≡ Some []))
Hears end left heard left' = IfSome left (λ xs. (more : List ℕ) × (xs ≡ heard ++ more))

-- how much of what was said was sent, if the link tells it: all, unless the link failed
abbrev pub Sends : SessionEnd → (written : Option (List ℕ)) → (said : List ℕ) → (written' : Option (List ℕ)) → Type 0
Sends LinkFault written said written' = IfSome written (λ ys. WritesFront ys said written')
Sends end written said written' = IfSome written (λ ys. written' ≡ Some (ys ++ said))

-- what is left of the stream: no whole item, if the end is `Eof`; nothing, if the stream ended itself
abbrev pub Leaves : SessionEnd → Place → Type 0
Leaves Eof b = b.stream.items ≡ []
Leaves Ended b = b.stream ≡ no_item AtEnd
Leaves end b = Unit {0}

-- a connection at its end, where `Says` says how these bytes were answered: by the items of the whole, or feed by feed
pub record Ends (Says : List ℕ → List ℕ → Place → Type 0) (end : SessionEnd)
    (left written left' written' : Option (List ℕ)) (b : Place) : Type 0 where
  pub heard : List ℕ
  pub said : List ℕ
  pub says : Says heard said b
  pub hears : Hears end left heard left'
  pub sends : Sends end written said written'
  pub leaves : Leaves end b

-- every seat is closed and every holding has ended, of those that the connection had at that place; if memory ran out, nothing
-- is said of them
abbrev pub IsClosed : Front → SessionEnd → Place → Option Machine → Type 0
IsClosed front Memory b told = Unit {0}
IsClosed front end b told = IfSome b.state.told (λ m. told ≡ Some (left_machine front m b.state.client))

-- what a connection changes: the devices, if they tell their state, and what a link has: the bytes that come, and those that were
-- written, if it tells them
pub record Exchange : Type 0 where
  pub told : Option Machine
  pub left : Option (List ℕ)
  pub written : Option (List ℕ)

abbrev pub exchange : Option Machine → (left written : Option (List ℕ)) → Exchange
exchange told left written = record { told = told; left = left; written = written }

-- a connection from its first byte to its end
abbrev pub IsServed : Front → (who : ℕ) → Exchange → SessionEnd → Exchange → Type 0
IsServed front who x end y =
    (b : Place) × Ends (Answers front (first_place who x.told)) end x.left x.written y.left y.written b × IsClosed front end b y.told

-- the count of the link's faults rose if the link failed, and otherwise it stayed
abbrev pub EndFaults : SessionEnd → ℕ → ℕ → Type 0
EndFaults LinkFault old new = Rose old new
EndFaults end old new = new ≡ old
