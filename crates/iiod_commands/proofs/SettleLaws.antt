-- What a SET answers.
use Rattle.std.proofs.Common.{◌≡◌, ℕ, ◌≤◌, Bool, true, Option, IfSome, rules}
use Rattle.iiod_commands.specs.Acts.{set_buffers_at, zero_reply}
use Rattle.iiod_commands.specs.Client.{ClientRecord, with_count}
use Rattle.iio_core.specs.Machine.{Machine, is_plugged}
use Rattle.iiod_commands.specs.Performs.{Comes}

-- SET at a device that is plugged, with a count within its limits
pub buffers_set : (told : Option Machine) (client client' : ClientRecord) (dev n : ℕ) (plugged : Bool) → IfSome told (λ m. plugged ≡ is_plugged m dev)
    → plugged ≡ true
    → 1 ≤ n → n ≤ 64 → client' ≡ with_count dev n client → IfSome told (λ m. Comes m client (set_buffers_at m client n dev) zero_reply told client')
buffers_set told client client' dev n plugged p t some few e = search rules
