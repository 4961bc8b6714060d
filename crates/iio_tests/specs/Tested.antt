-- What tests know of the members of a device. Cited by tests alone.
use Rattle.std.specs.Prelude.{◌≡◌, ℕ, ◌+◌, ◌≤◌, List, Option, IfSome}
use Rattle.iio_derive.specs.declared.members.Membership.{Membership}
use Rattle.iio_derive.specs.Members.{member_at}

-- at most `most` offers were made to the member's queue, and its scans have `size` bytes
pub record IsTested (most size : ℕ) (m : Membership) : Type 0 where
  pub few : m.queue.taken + m.queue.lost ≤ most
  pub sized : m.queue.size ≡ size

abbrev pub AreTested : (most size : ℕ) → List (Option Membership) → Type 0
AreTested most size seats = (number : ℕ) → IfSome (member_at number seats) (λ m. IsTested most size m)
