-- Why a server ended, by its door. (This project's own.)
use Rattle.std.specs.Prelude.{◌≡◌, ℕ, Option, IfSome}
use Rattle.iio_base.specs.Faults.{Rose}
use Rattle.iiod_server.specs.declared.server.ServeEnd.{ServeEnd}
use Rattle.iiod_server.specs.declared.server.ServeEnd.TheVariants.{DoorEnd, DoorFault, Memory}

-- the door has no further connection, if it tells that; or it failed, and its count of faults rose; or no connection was asked
-- for. Otherwise no call of it failed
abbrev pub Serves : {D : Type 0} → (left : D → Option ℕ) → (faults : D → ℕ) → (old : D) → ServeEnd → (new : D) → Type 0
Serves left faults old DoorEnd new = IfSome (left new) (λ n. n ≡ 0) × (faults new ≡ faults old)
Serves left faults old DoorFault new = Rose (faults old) (faults new)
Serves left faults old Memory new = new ≡ old
