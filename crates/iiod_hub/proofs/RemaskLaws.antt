-- A REMASK over a bank that tells its state.
use Rattle.std.proofs.Common.{◌≡◌, ℕ, Option, Some, None, Result, subst}
use Rattle.iiod_commands.specs.declared.iio.No.{No}
use Rattle.iiod_bank.specs.declared.remasking.Remasked.{Remasked}
use Rattle.iiod_bank.specs.Jobs.{Buffer, RemaskMakes}
use Rattle.iiod_bank.specs.Told.{Moves, Only, Ran, Told}
use Rattle.iiod_hub.specs.Remasking.{BankRemasks, SeatAfter}
use Rattle.iiod_hub.specs.declared.seat.HubSeat.{HubSeat}

pub remasks : (t0 t1 : Option Told) (dev number : ℕ) (buffer made : Buffer) (old new : HubSeat) (answer : Result Remasked No) (result : Result ℕ No)
    → number ≡ old.member.number → made ≡ buffer → SeatAfter buffer.mask answer old result new
    → Moves t0 t1 (λ b c. Ran (Only (RemaskMakes number made)) dev b answer c)
    → Moves t0 t1 (λ b c. BankRemasks dev buffer b old result new c)
remasks None t1 dev number buffer made old new answer result d e seat p = tt
remasks (Some b) t1 dev number buffer made old new answer result d e seat p = (p.0, p.1, record { answer = answer; ran = by; seat = seat })
  where
    by : Ran (Only (RemaskMakes old.member.number buffer)) dev b answer p.0
    by =
        subst (λ (x : Buffer). Ran (Only (RemaskMakes old.member.number x)) dev b answer p.0) e
        (subst (λ (x : ℕ). Ran (Only (RemaskMakes x made)) dev b answer p.0) d p.2)
