-- The offers made to a ring: which scans were accepted, and how many were lost. (This project's own, after the kernel's kfifo:
-- a full one takes nothing.)
use Rattle.std.specs.Prelude.{ℕ, ◌+◌, List, [], ◌∷◌}
use Rattle.iio_kfifo.specs.declared.view.Offer.{Offer}
use Rattle.iio_kfifo.specs.declared.view.Offer.TheVariants.{Accepted, Refused}
use Rattle.iio_kfifo.specs.declared.view.Sent.{Sent}

-- the accepted scans in order, each with the number lost before it; before the first offer `lost` were lost
abbrev pub accepted_after : ℕ → List Offer → List Sent
accepted_after lost [] = []
accepted_after lost (Accepted scan ∷ offers) = record { scan = scan; lost = lost } ∷ accepted_after lost offers
accepted_after lost (Refused ∷ offers) = accepted_after (lost + 1) offers

-- the accepted scans in order, each with the number lost before it
abbrev pub accepted : List Offer → List Sent
accepted offers = accepted_after 0 offers

-- how many offers were lost
abbrev pub lost_in : List Offer → ℕ
lost_in [] = 0
lost_in (Accepted scan ∷ offers) = lost_in offers
lost_in (Refused ∷ offers) = lost_in offers + 1
