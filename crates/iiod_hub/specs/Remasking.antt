-- What a REMASK makes of a seat and of a bank that tells its state.
use Rattle.std.specs.Prelude.{◌≡◌, ℕ, false, Some, Result, Ok, Err}
use Rattle.iio_mask.specs.declared.Mask.{Mask}
use Rattle.iio_kfifo.specs.Ends.{WriterEnd}
use Rattle.iio_device.specs.Device.{DeviceView}
use Rattle.iiod_commands.specs.declared.iio.No.{No}
use Rattle.iiod_commands.specs.declared.iio.No.TheVariants.{Errno as NoErrno, Mem as NoMem}
use Rattle.iiod_bank.specs.declared.remasking.Remasked.{Remasked}
use Rattle.iiod_bank.specs.Jobs.{Buffer, RemaskMakes, remask_refusal}
use Rattle.iiod_bank.specs.Told.{Only, Ran, Told}
use Rattle.iiod_hub.specs.declared.seat.HubSeat.{HubSeat}

-- the seat after a REMASK, by what the job answered: if it was done, the seat takes from the new ring, and nothing is said of
-- the number that is answered; if it was refused, that is the answer, and the seat stays
abbrev pub SeatAfter : Mask → Result Remasked No → (old : HubSeat) → Result ℕ No → (new : HubSeat) → Type 0
SeatAfter mask (Ok o) old (Ok n) new = new ≡ record old { mask = mask; reader = o.reader; empties = 0; gone = false }
SeatAfter mask (Err e) old result new = (result ≡ Err e) × (new ≡ old)
SeatAfter mask (Ok o) old (Err e) new = ⊥

-- a REMASK's job was run once, and the bank is as it left it
pub record BankRemasks (dev : ℕ) (buffer : Buffer) (b : Told) (old : HubSeat) (result : Result ℕ No) (new : HubSeat) (c : Told) : Type 0 where
  pub answer : Result Remasked No
  pub ran : Ran (Only (RemaskMakes old.member.number buffer)) dev b answer c
  pub seat : SeatAfter buffer.mask answer old result new

-- an errno is one by which a device of that number, in some state, refuses that mask to that member
abbrev pub RemaskRefusedBySome : (dev number : ℕ) → Mask → Result ℕ No → Type 0
RemaskRefusedBySome dev number mask (Err (NoErrno e)) = (a : DeviceView WriterEnd) × (a.number ≡ dev) × (remask_refusal number mask.bits a ≡ Some e)
RemaskRefusedBySome dev number mask (Err NoMem) = Unit {0}
RemaskRefusedBySome dev number mask (Ok n) = Unit {0}
