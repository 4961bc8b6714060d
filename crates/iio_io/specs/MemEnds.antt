-- What a read from a source in memory and a write to a sink in memory do, exactly. (This project's own.)
use Rattle.std.specs.Prelude.{◌≡◌, ◌↔◌, ◌⊎◌, ℕ, ◌+◌, ◌-◌, ◌≤◌, List, ◌++◌, length, take, drop, min, Result, IfOk, OnErr, IsErr}
use Rattle.iio_io.specs.declared.traits.Failed.{Failed}
use Rattle.iio_io.specs.Memory.{Feed, Store, IsFull, IsListed, one_more}

-- a read into `out`, which is `into` then: it fails exactly if the call is listed; otherwise it gives what is left, up to the
-- piece and to the room
pub record MemReads (old : Feed) (out : List ℕ) (result : Result ℕ Failed) (new : Feed) (into : List ℕ) : Type 0 where
  pub piece : 1 ≤ old.piece
  pub fails : IsErr result ↔ IsListed old.fails old.calls
  pub count : IfOk result (λ n. n ≡ min old.piece (min (length out) (length old.left)))
  pub given : IfOk result (λ n. into ≡ take n old.left ++ drop n out)
  pub ok : IfOk result (λ n. new ≡ record old { left = drop n old.left; calls = one_more old.calls })
  pub err : OnErr result (new ≡ record old { calls = one_more old.calls; faults = old.faults + 1 })
  pub untouched : OnErr result (into ≡ out)

-- a write of `bytes`: it fails exactly if the call is listed or no room is left; otherwise it takes what there is room for
pub record MemWrites (old : Store) (bytes : List ℕ) (result : Result ℕ Failed) (new : Store) : Type 0 where
  pub room : length old.written ≤ old.room
  pub fails : IsErr result ↔ (IsListed old.fails old.calls ⊎ IsFull old)
  pub count : IfOk result (λ n. n ≡ min (length bytes) (old.room - length old.written))
  pub ok : IfOk result (λ n. new ≡ record old { written = old.written ++ take n bytes; calls = one_more old.calls })
  pub err : OnErr result (new ≡ record old { calls = one_more old.calls; faults = old.faults + 1 })
