-- One entry: three steps over a bank that tells its state.
use Rattle.std.proofs.Common.{◌≡◌, ℕ, suc, ◌+◌, Bool, Option, Some, None, arith}
use Rattle.iio_trigger.specs.Trigger.{Handed}
use Rattle.iio_device.specs.declared.handling.Handled.{Handled}
use Rattle.iiod_bank.specs.Jobs.{HandleMakes}
use Rattle.iiod_bank.specs.Told.{Told, Moves, Only, Ran, RanAt}
use Rattle.iiod_bank.specs.TriggerJobs.{DoneMakes, DueMakes}
use Rattle.iiod_hub.specs.Link.{BankHandles, Swept}

-- one move after another
pub after : (t0 t1 t2 : Option Told) (P Q R : Told → Told → Type 0) → ((b m c : Told) → P b m → Q m c → R b c) → Moves t0 t1 P → Moves t1 t2 Q → Moves t0 t2 R
after None t1 t2 P Q R f p q = tt
after (Some b) t1 t2 P Q R f p q = by t1 p.1 q
  where
    by : (t1 : Option Told) → t1 ≡ Some p.0 → Moves t1 t2 Q → (c : Told) × (t2 ≡ Some c) × R b c
    by None e q = absurd (cc)
    by (Some m) e q = let same : m ≡ p.0 = cc in (q.0, q.1, f b m q.0 (rw same p.2) q.2)

pub passes : (t0 t1 t2 t3 t4 : Option Told) (trigger dev : ℕ) (due : Handed) (h : Handled) (found : Bool)
    → Moves t0 t1 (λ b c. RanAt (DueMakes dev) trigger b (Some due) c)
    → Moves t1 t2 (λ b c. Ran (Only (HandleMakes due)) dev b h c)
    → Moves t2 t3 (λ b c. RanAt (DoneMakes due) trigger b found c)
    → t4 ≡ t3
    → Moves t0 t4 (λ b c. BankHandles trigger dev b (Some h) c)
passes t0 t1 t2 t3 t4 trigger dev due h found p q r e =
    rw e (after t0 t1 t3 _ _ _ (λ b m c x y. (due, record { handed = m; first = x; kept = y.0; second = y.1; found = found; third = y.2 })) p
    (after t1 t2 t3 _ _ (λ m c. (k : Told) × Ran (Only (HandleMakes due)) dev m h k × RanAt (DoneMakes due) trigger k found c)
    (λ b m c x y. (m, x, y)) q r))

pub swept : (t0 t1 t2 : Option Told) (trigger k : ℕ) (h : Option Handled)
    → Moves t0 t1 (λ b c. Swept trigger k b c)
    → Moves t1 t2 (λ b c. BankHandles trigger k b h c)
    → Moves t0 t2 (λ b c. Swept trigger (k + 1) b c)
swept t0 t1 t2 trigger k h p q =
    let e : k + 1 ≡ suc k = omega arith in
    rw e (after t0 t1 t2 _ _ (λ b c. Swept trigger (suc k) b c) (λ b m c x y. (m, x, (h, y))) p q)
