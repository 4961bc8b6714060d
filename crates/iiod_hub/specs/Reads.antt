-- What a read of a hub makes of a ring's reader.
use Rattle.std.specs.Prelude.{◌≡◌, ◌≢◌, ℕ, ◌+◌, ◌≤◌, ◌<◌, List, ◌++◌, length, Result, Ok, Err}
use Rattle.iio_kfifo.specs.declared.view.Reading.{Reading}
use Rattle.iiod_reply.specs.Reply.{joined_scans}
use Rattle.iiod_hub.specs.declared.seat.ReadEnd.{ReadEnd}
use Rattle.iiod_hub.specs.declared.seat.ReadEnd.TheVariants.{Empty, Gone}
use Rattle.iiod_bank.specs.Received.{scans_of}

-- `count` scans were received, at least one, and their bytes were appended. They are fewer than `want` only if the last look of
-- this call found nothing left
pub record ReadsSome (want count : ℕ) (r r' : Reading) (before after : List ℕ) : Type 0 where
  pub scans : List (List ℕ)
  pub many : length scans ≡ count
  pub some : 1 ≤ count
  pub most : count ≤ want
  pub bytes : after ≡ before ++ joined_scans scans
  pub received : scans_of r'.received ≡ scans_of r.received ++ scans
  pub short : count < want → (r.looks < r'.looks) × (r'.left ≡ 0)

-- nothing was received: a look of this call found nothing left, after it had asked for the closed word
pub record ReadsNone (r r' : Reading) (before after : List ℕ) : Type 0 where
  pub bytes : after ≡ before
  pub received : scans_of r'.received ≡ scans_of r.received
  pub asked : r'.asks ≡ r.asks + 1
  pub first : r'.looked ≡ r.looks
  pub looked : r.looks < r'.looks
  pub none : r'.left ≡ 0

abbrev pub HubReads : (want : ℕ) → (r r' : Reading) → (before after : List ℕ) → Result ℕ ReadEnd → Type 0
HubReads want r r' before after (Ok count) = ReadsSome want count r r' before after
HubReads want r r' before after (Err Empty) = ReadsNone r r' before after × (r'.word ≡ 0)
HubReads want r r' before after (Err Gone) = ReadsNone r r' before after × (r'.word ≢ 0)
