-- An OPEN over a bank that tells its state.
use Rattle.std.proofs.Common.{◌≡◌, ℕ, Option, Some, None, Result, refl, subst}
use Rattle.iio_mask.specs.declared.Mask.{Mask}
use Rattle.iiod_commands.specs.declared.iio.No.{No}
use Rattle.iiod_bank.specs.declared.opening.Opened.{Opened}
use Rattle.iiod_bank.specs.Jobs.{Buffer, OpenMakes, buffer_of}
use Rattle.iiod_bank.specs.Told.{Told, Moves, Ran}
use Rattle.iiod_hub.specs.declared.seat.HubSeat.{HubSeat}
use Rattle.iiod_hub.specs.Link.{BankOpens, SeatOf}

pub same_buffer : (mask m : Mask) (scans n bytes k : ℕ) → m ≡ mask → n ≡ scans → k ≡ bytes → buffer_of m n k ≡ buffer_of mask scans bytes
same_buffer mask m scans n bytes k d e f = rw (d, e, f) refl

pub opens : (t0 t1 : Option Told) (dev : ℕ) (buffer made : Buffer) (answer : Result Opened No) (result : Result HubSeat No)
    → made ≡ buffer → SeatOf dev buffer.mask buffer.scans answer result
    → Moves t0 t1 (λ b c. Ran (OpenMakes made) dev b answer c)
    → Moves t0 t1 (λ b c. BankOpens dev buffer b result c)
opens None t1 dev buffer made answer result e seat p = tt
opens (Some b) t1 dev buffer made answer result e seat p =
    (p.0, p.1, record { answer = answer; ran = subst (λ (x : Buffer). Ran (OpenMakes x) dev b answer p.0) e p.2; seat = seat })
