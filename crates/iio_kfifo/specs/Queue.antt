-- A queue of whole scans, as contracts see it. (Kernel driver-api/iio, "Buffers": kfifo; what a full queue does and
-- the count of lost scans are this project's own.)
use Rattle.std.specs.Prelude.{◌≡◌, ℕ, zero, suc, ◌+◌, ◌<◌, min, List, [], ◌∷◌, ◌++◌, length, take, drop}
use Rattle.std.specs.List.{flat_map}
use Rattle.iio_kfifo.specs.declared.tail.Offered.{Offered}
use Rattle.iio_kfifo.specs.declared.tail.Offered.TheVariants.{Taken, Lost}

-- the scans that wait, oldest first, the numbers taken in and lost so far, the bytes of a scan, and the most scans that wait
pub record Queue : Type 0 where
  pub scans : List (List ℕ)
  pub taken : ℕ
  pub lost : ℕ
  pub size : ℕ
  pub capacity : ℕ

-- one offer of `scan`: a full queue loses it, and any other has it at its end
abbrev pub Offers : Queue → List ℕ → Offered → Queue → Type 0
Offers old scan Taken new = (length old.scans < old.capacity)
    × (new ≡ record { scans = old.scans ++ scan ∷ []; taken = old.taken + 1; lost = old.lost; size = old.size; capacity = old.capacity })
Offers old scan Lost new = (length old.scans ≡ old.capacity)
    × (new ≡ record { scans = old.scans; taken = old.taken; lost = old.lost + 1; size = old.size; capacity = old.capacity })

-- the oldest scan of `old` was taken out, and nothing else changed
pub record GivesFirst (old : Queue) (scan : List ℕ) (new : Queue) : Type 0 where
  pub first : old.scans ≡ scan ∷ new.scans
  pub same : new ≡ record old { scans = new.scans }

-- the oldest scans of `old`, at most `most`, were taken out and stand after what stood before, one after the other
pub record GivesScans (most given : ℕ) (before after : List ℕ) (old new : Queue) : Type 0 where
  pub count : given ≡ min most (length old.scans)
  pub bytes : after ≡ before ++ flat_map (λ scan. scan) (take most old.scans)
  pub same : new ≡ record old { scans = drop most old.scans }

-- the first `count` scans of `size` bytes each that stand in `bytes`
abbrev pub scans_in : ℕ → ℕ → List ℕ → List (List ℕ)
scans_in size zero bytes = []
scans_in size (suc count) bytes = take size bytes ∷ scans_in size count (drop size bytes)
