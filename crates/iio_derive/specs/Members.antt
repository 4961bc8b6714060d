-- The members of an averaging device, each at the place that is its number. (This project's own.)
use Rattle.std.specs.Prelude.{◌≡◌, ◌≢◌, ℕ, List, Bool, Option, Some, None, count_by, is_some, slice_index_or, MatchBool, [], ℤ}
use Rattle.iio_layout.specs.Scan.{scan_of}
use Rattle.iio_layout.specs.Shape.{ShapeRecord}
use Rattle.iio_kfifo.specs.Queue.{GivesFirst, GivesScans, Offers}
use Rattle.iio_kfifo.specs.declared.tail.Offered.{Offered}
use Rattle.iio_derive.specs.declared.members.Membership.{Membership}

-- the member of that number
abbrev pub member_at : ℕ → List (Option Membership) → Option Membership
member_at number seats = slice_index_or seats number None

-- how many members there are
abbrev pub member_count : List (Option Membership) → ℕ
member_count seats = count_by is_some seats

-- this is the member of that number afterwards, and all others are as they were
pub record ChangesOne (number : ℕ) (member : Option Membership) (old new : List (Option Membership)) : Type 0 where
  pub is : member_at number new ≡ member
  pub others : (other : ℕ) → other ≢ number → member_at other new ≡ member_at other old

-- a member that was offered a scan, once
pub record WasOffered (scan : List ℕ) (old new : Membership) : Type 0 where
  pub same : new ≡ record old { queue = new.queue }
  pub answer : Offered
  pub offered : Offers old.queue scan answer new.queue

-- the member at a place, if there is one, was offered its scan of these values at this moment
abbrev pub SeatOffered : ShapeRecord → (values : List ℤ) → (moment : ℤ) → Option Membership → Option Membership → Type 0
SeatOffered shape values t None new = new ≡ None
SeatOffered shape values t (Some old) None = ⊥
SeatOffered shape values t (Some old) (Some new) = WasOffered (scan_of shape old.mask.bits values t) old new

-- the oldest scan of a member's queue is moved out; `given` says whether there was one
abbrev pub Drains : Bool → (out out' : List ℕ) → (old new : Option Membership) → Type 0
Drains given out out' None new = ⊥
Drains given out out' (Some old) None = ⊥
Drains given out out' (Some old) (Some new) =
    (new ≡ record old { queue = new.queue })
    × MatchBool given (GivesFirst old.queue out' new.queue) ((old.queue.scans ≡ []) × (new.queue ≡ old.queue) × (out' ≡ out))

-- the oldest scan of the member of that number is moved out, and the others stay
pub record Takes (number : ℕ) (given : Bool) (out out' : List ℕ) (old new : List (Option Membership)) : Type 0 where
  pub moved : Drains given out out' (member_at number old) (member_at number new)
  pub others : (other : ℕ) → other ≢ number → member_at other new ≡ member_at other old

-- the oldest scans of a member's queue, at most `most`, are taken and appended to what was there before
abbrev pub DrainsScans : (most count : ℕ) → (before after : List ℕ) → (old new : Option Membership) → Type 0
DrainsScans most count before after None new = ⊥
DrainsScans most count before after (Some old) None = ⊥
DrainsScans most count before after (Some old) (Some new) = (new ≡ record old { queue = new.queue }) × GivesScans most count before after old.queue new.queue

-- the oldest scans of the member of that number are taken, and the others stay
pub record TakesScans (number most count : ℕ) (before after : List ℕ) (old new : List (Option Membership)) : Type 0 where
  pub moved : DrainsScans most count before after (member_at number old) (member_at number new)
  pub others : (other : ℕ) → other ≢ number → member_at other new ≡ member_at other old
