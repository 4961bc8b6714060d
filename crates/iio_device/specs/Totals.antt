-- The totals of what the queues of a device gave and lost. (This project's own.)
use Rattle.std.specs.Prelude.{ℕ, ◌+◌, Bool, true, List, [], ◌∷◌, Option, None, Some}
use Rattle.std.specs.List.{sum}
use Rattle.iio_device.specs.declared.totals.Totals.{Totals}

abbrev pub no_totals : Totals
no_totals = record { scans = 0; bytes = 0; lost = 0 }

-- a scan was taken
abbrev pub with_scan : List ℕ → Totals → Totals
with_scan scan t = record t { scans = t.scans + 1; bytes = t.bytes + sum scan }

-- `count` scans were taken, which have these bytes
abbrev pub with_bytes : ℕ → List ℕ → Totals → Totals
with_bytes count bytes t = record t { scans = t.scans + count; bytes = t.bytes + sum bytes }

-- scans were taken, one after another
abbrev pub with_given : List (List ℕ) → Totals → Totals
with_given [] t = t
with_given (scan ∷ scans) t = with_given scans (with_scan scan t)

-- a take from a member's queue, which gave a scan or didn't
abbrev pub with_taken : Option Bool → (scan : List ℕ) → Totals → Totals
with_taken (Some true) scan t = with_scan scan t
with_taken taken scan t = t

-- a queue ended that had lost `lost` scans
abbrev pub with_lost : ℕ → Totals → Totals
with_lost lost t = record t { lost = t.lost + lost }

-- a queue ended, if there was one
abbrev pub with_left : Option ℕ → Totals → Totals
with_left None t = t
with_left (Some lost) t = with_lost lost t
