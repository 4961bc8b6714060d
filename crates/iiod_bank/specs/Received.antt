-- What the reader's end of a ring knows.
use Rattle.std.specs.Prelude.{◌≡◌, ◌≢◌, ℕ, List, [], map}
use Rattle.iio_kfifo.specs.declared.view.Sent.{Sent}
use Rattle.iio_kfifo.specs.Ends.{ReaderEnd}

-- the scans that were sent
abbrev pub scans_of : List Sent → List (List ℕ)
scans_of sent = map (λ (s : Sent). s.scan) sent

-- the scans that the reader received, in order
abbrev pub received_of : ReaderEnd → List (List ℕ)
received_of r = scans_of r.knows.received

-- the number of bytes of a scan
abbrev pub size_of : ReaderEnd → ℕ
size_of r = r.size

-- its last look at the closed word showed the ring open, or closed
abbrev pub SawOpen : ReaderEnd → Type 0
SawOpen r = r.knows.word ≡ 0

abbrev pub SawClosed : ReaderEnd → Type 0
SawClosed r = r.knows.word ≢ 0

-- a new reader of scans of that size
pub record IsFresh (size : ℕ) (r : ReaderEnd) : Type 0 where
  pub sized : size_of r ≡ size
  pub none : r.knows.received ≡ []
