-- What a connection is fed and answered, feed after feed, and what of it goes over a link. No public clause cites this file.
use Rattle.std.specs.Prelude.{◌≡◌, ℕ, zero, suc, ◌<◌, ◌++◌, List, [], length, Option, Some, IfSome, Result, Ok, Err, ⊤}
use Rattle.iiod_grammar.specs.Scans.{scan_on}
use Rattle.iiod_grammar.specs.Stream.{AtEnd, no_item}
use Rattle.iiod_session.specs.declared.going.Going.{Going}
use Rattle.iiod_session.specs.declared.going.Going.TheVariants.{On, Waits}
use Rattle.iiod_session.specs.declared.going.Going.TheVariants as going
use Rattle.iiod_commands.specs.declared.manner.Manner.TheVariants.{Server}
use Rattle.iio_core.specs.Front.{Front}
use Rattle.iiod_session.specs.Run.{Feeds, feeding}
use Rattle.iiod_connection.specs.declared.session_end.SessionEnd.{SessionEnd}
use Rattle.iiod_connection.specs.declared.session_end.SessionEnd.TheVariants.{Eof, Ended, LinkFault, Memory}
use Rattle.iiod_connection.specs.Place.{Place}
use Rattle.iiod_connection.specs.SessionEnd.{EndFaults, WritesFront}

-- one more feed, of these bytes: none if a READBUF that waits is tried again. What it appends are the answers
pub record FeedsOnce (front : Front) (a : Place) (bytes text : List ℕ) (going : Going) (b : Place) : Type 0 where
  pub feeds : Feeds Server front (feeding a.state (scan_on a.stream bytes) []) (feeding b.state b.stream text) going

-- n feeds, one after another: the bytes heard, in order, and the bytes of their answers, in order
abbrev pub Talk : ℕ → Front → Place → (heard said : List ℕ) → Place → Type 0
Talk zero front a heard said b = (heard ≡ []) × (said ≡ []) × (b ≡ a)
Talk (suc k) front a heard said b =
    (mid : Place) × (h : List ℕ) × (x : List ℕ) × (bytes : List ℕ) × (text : List ℕ) × (going : Going)
    × Talk k front a h x mid × (heard ≡ h ++ bytes) × (said ≡ x ++ text) × FeedsOnce front mid bytes text going b

-- any number of feeds
pub record Talks (front : Front) (a : Place) (heard said : List ℕ) (b : Place) : Type 0 where
  pub feeds : ℕ
  pub talk : Talk feeds front a heard said b

-- what was appended is written, if the link tells it
abbrev pub Wrote : Option (List ℕ) → List ℕ → Option (List ℕ) → Type 0
Wrote old text new = IfSome old (λ ys. new ≡ Some (ys ++ text))

-- ... or a prefix of it is
abbrev pub WrotePart : Option (List ℕ) → List ℕ → Option (List ℕ) → Type 0
WrotePart old text new = IfSome old (λ ys. WritesFront ys text new)

-- after a feed each whole item was answered, or the connection waits at a device that is there, or it is at its end
abbrev pub StandsBy : Front → Going → Place → Type 0
StandsBy front On b = b.stream.items ≡ []
StandsBy front (Waits dev) b = dev < length front.devices
StandsBy front going.Ended b = b.stream ≡ no_item AtEnd

-- one feed whose answers were sent, or the reason why they weren't
abbrev pub SendsOnce : Front → Place → (bytes : List ℕ) → Option (List ℕ) → Place → Option (List ℕ) → Result Going SessionEnd → Type 0
SendsOnce front a bytes old b new (Ok going) = (text : List ℕ) × FeedsOnce front a bytes text going b × Wrote old text new × StandsBy front going b
SendsOnce front a bytes old b new (Err LinkFault) = (text : List ℕ) × (going : Going) × FeedsOnce front a bytes text going b × WrotePart old text new
SendsOnce front a bytes old b new (Err Memory) = new ≡ old
SendsOnce front a bytes old b new (Err Eof) = ⊥
SendsOnce front a bytes old b new (Err Ended) = ⊥

-- these bytes were fed, in whatever parts, and all answers to them were sent
pub record SendsAll (front : Front) (a : Place) (bytes : List ℕ) (old : Option (List ℕ)) (b : Place) (new : Option (List ℕ)) : Type 0 where
  pub said : List ℕ
  pub talks : Talks front a bytes said b
  pub wrote : Wrote old said new

-- bytes that were fed until each whole item was answered, and all answers sent; or how far this came
abbrev pub Turns : Front → Place → (bytes : List ℕ) → Option (List ℕ) → Place → Option (List ℕ) → Result ⊤ SessionEnd → Type 0
Turns front a bytes old b new (Ok done) = SendsAll front a bytes old b new × (b.stream.items ≡ [])
Turns front a bytes old b new (Err Ended) =
    (heard : List ℕ) × (rest : List ℕ) × (bytes ≡ heard ++ rest) × SendsAll front a heard old b new × (b.stream ≡ no_item AtEnd)
Turns front a bytes old b new (Err LinkFault) =
    (heard : List ℕ) × (rest : List ℕ) × (said : List ℕ) × (bytes ≡ heard ++ rest) × Talks front a heard said b × WrotePart old said new
Turns front a bytes old b new (Err Memory) =
    (heard : List ℕ) × (rest : List ℕ) × (c : Place) × (bytes ≡ heard ++ rest) × SendsAll front a heard old c new
Turns front a bytes old b new (Err Eof) = ⊥

-- what became of the link's faults
abbrev pub Faults : {A : Type 0} → Result A SessionEnd → ℕ → ℕ → Type 0
Faults (Ok x) old new = new ≡ old
Faults (Err end) old new = EndFaults end old new

-- of the bytes that came over the link these were heard, and the others are left, if the link tells them
abbrev pub IsCut : (left : Option (List ℕ)) → (heard : List ℕ) → (left' : Option (List ℕ)) → Type 0
IsCut left heard left' = IfSome left (λ xs. (more : List ℕ) × (xs ≡ heard ++ more) × (left' ≡ Some more))

-- a link of which some bytes were heard, and all their answers sent
pub record SoFar (front : Front) (a : Place) (left written : Option (List ℕ)) (b : Place) (left' written' : Option (List ℕ)) : Type 0 where
  pub heard : List ℕ
  pub sends : SendsAll front a heard written b written'
  pub cut : IsCut left heard left'

-- the place that an end speaks of is the last one; if memory ran out in a feed, it is the one before
abbrev pub IsLast : SessionEnd → Place → Place → Type 0
IsLast Memory c b = Unit {0}
IsLast end c b = c ≡ b
