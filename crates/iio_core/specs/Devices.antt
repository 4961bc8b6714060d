-- The station of an input device, by its own view, whatever queues its members have; and how the laws of its calls say what
-- becomes of it in the plain state. No member of it is an inner one. (Kernel, driver-api/iio: one device serves several
-- buffers. What a queue's end tells is this project's own.)
use Rattle.std.specs.Prelude.{◌≡◌, ℕ, ◌+◌, ◌≤◌, ◌<◌, false, List, [], ◌∷◌, ◌++◌, map, length, drop, slice_get, Option, Some, None, Result, Ok, Err}
use Rattle.std.specs.List.{AllZip}
use Rattle.iio_text.specs.declared.errors.Errno.{Errno}
use Rattle.iio_kfifo.specs.declared.tail.Offered.{Offered}
use Rattle.iio_kfifo.specs.declared.tail.Offered.TheVariants.{Taken, Lost}
use Rattle.iio_kfifo.specs.declared.tail.Tail.{Ghosts}
use Rattle.iio_kfifo.specs.declared.view.Sent.{Sent}
use Rattle.iio_kfifo.specs.Ends.{WriterEnd}
use Rattle.iio_kfifo.specs.Offers.{accepted}
use Rattle.iio_kfifo.specs.Queue.{Queue}
use Rattle.iio_output.specs.Last.{first_last}
use Rattle.iio_derive.specs.Window.{no_window}
use Rattle.iio_device.specs.declared.handling.Handled.{Handled}
use Rattle.iio_device.specs.declared.handling.Handled.TheVariants as handled
use Rattle.iio_device.specs.declared.membership.Member.{Member as MemberNumber}
use Rattle.iio_device.specs.declared.membership.Membership.{Membership}
use Rattle.iio_device.specs.declared.roster.JoinRefused.{JoinRefused}
use Rattle.iio_device.specs.declared.roster.RemaskRefused.{RemaskRefused}
use Rattle.iio_device.specs.Device.{DeviceView}
use Rattle.iio_core.specs.Calls.{CallResult}
use Rattle.iio_core.specs.Machine.{Machine, Member, Station}
use Rattle.iio_core.specs.Faults.{errno_of, remask_errno}

-- ---- a device

-- over any kind of queue's end; `ends` is what such an end tells, the ghost members of `Tail`
module _ {Q : Type 0} (ends : Ghosts Q) where
  -- a member for which these scans wait
  abbrev pub member_with : List (List ℕ) → Membership Q → Member
  member_with scans m =
      record { number = m.number; mask = m.mask.bits; capacity = ends.capacity m.tail; scans = scans; lost = ends.lost m.tail; cyclic = false; inner = None }

  -- the station of a device that has these members
  abbrev pub station_with : List Member → DeviceView Q → Station
  station_with members d =
      record {
        next = d.standing.next;
        captures = d.standing.captures;
        totals = d.totals;
        members = members;
        site = d.site;
        last = first_last d.standing.shape;
        window = no_window;
      }

  module _ (waits : Q → List (List ℕ)) where
    abbrev pub member_of : Membership Q → Member
    member_of m = member_with (waits m.tail) m

    -- the station of a device, by the scans that wait in each queue
    abbrev pub station_of : DeviceView Q → Station
    station_of d = station_with (map member_of d.standing.members) d

    -- the device is that of that number in the plain state
    abbrev pub IsAt : Machine → ℕ → DeviceView Q → Type 0
    IsAt m dev d = slice_get m.stations dev ≡ Some (station_of d)

    -- ---- what a call makes of it

    -- in the plain state too, the call has this answer and leaves this device
    pub record Does {A : Type 0} (o : CallResult A) (answer : Result A Errno) (dev : ℕ) (d : DeviceView Q) : Type 0 where
      pub answered : o.answer ≡ answer
      pub device : IsAt o.machine dev d

    -- a refusal by an errno is also that of the plain state; that memory ran out has no errno, and leaves everything as it was
    abbrev pub IsRefused : {A : Type 0} → CallResult A → Machine → Option Errno → ℕ → DeviceView Q → Type 0
    IsRefused o m (Some e) dev d = Does o (Err e) dev d
    IsRefused o m None dev d = IsAt m dev d

    -- a join
    abbrev pub IsJoined : CallResult ℕ → Machine → Result MemberNumber (JoinRefused Q) → ℕ → DeviceView Q → Type 0
    IsJoined o m (Ok member) dev d = Does o (Ok member.number) dev d
    IsJoined o m (Err refused) dev d = IsRefused o m (errno_of refused.fault) dev d

    -- an exchange of a mask: the answer is the number of scans that waited in the queue's end that is given back
    abbrev pub IsRemasked : CallResult ℕ → Machine → Result Q (RemaskRefused Q) → ℕ → DeviceView Q → Type 0
    IsRemasked o m (Ok before) dev d = Does o (Ok (length (waits before))) dev d
    IsRemasked o m (Err refused) dev d = IsRefused o m (remask_errno refused.fault) dev d

    -- ---- what a capture meets

    module _ (waited : Q → Q → List (List ℕ)) where
      -- an offer that makes `new` of `old`: if the queue that it met has room, the scan comes after those that waited;
      -- otherwise it is lost and counted
      abbrev pub IsMet : List ℕ → Offered → (old new : Q) → Type 0
      IsMet scan Taken old new = (length (waited old new) < ends.capacity old) × (ends.lost new ≡ ends.lost old) × (waits new ≡ waited old new ++ scan ∷ [])
      IsMet scan Lost old new = (ends.capacity old ≤ length (waited old new)) × (ends.lost new ≡ ends.lost old + 1) × (waits new ≡ waited old new)

      -- the members with the scans that waited for each when it was offered its scan
      abbrev pub members_met : List (Membership Q) → List (Membership Q) → List Member
      members_met [] ys = []
      members_met (x ∷ xs) [] = []
      members_met (x ∷ xs) (y ∷ ys) = member_with (waited x.tail y.tail) x ∷ members_met xs ys

      -- the device as a handling met it; if there was no capture, no queue was offered anything
      abbrev pub station_met : Handled → (old new : DeviceView Q) → Station
      station_met (handled.Captured members) old new = station_with (members_met old.standing.members new.standing.members) old
      station_met answer old new = station_of old

      -- each queue treats its offer in that way
      abbrev pub AreMet : Handled → (old new : DeviceView Q) → Type 0
      AreMet (handled.Captured members) old new =
          AllZip (λ (a b : Membership Q). (scan : List ℕ) (answer : Offered) → ends.offer_gives a.tail scan answer b.tail → IsMet scan answer a.tail b.tail)
          old.standing.members new.standing.members
      AreMet answer old new = Unit {0}

-- ---- what the kinds of ends that there are tell

-- a queue of one owner: only its own calls change what waits
abbrev pub queue_waits : Queue → List (List ℕ)
queue_waits q = q.scans

abbrev pub queue_waited : Queue → Queue → List (List ℕ)
queue_waited old new = old.scans

-- the scans that the writer's end accepted, except the first `received` of them
abbrev pub left_after : ℕ → WriterEnd → List (List ℕ)
left_after received w = map (λ (s : Sent). s.scan) (drop received (accepted w.knows.offers))

-- the writer's end of a ring: what waits is what was left by its last look at the reader's count, and an offer looks at that
-- first
abbrev pub writer_waits : WriterEnd → List (List ℕ)
writer_waits w = left_after w.knows.seen w

abbrev pub writer_waited : WriterEnd → WriterEnd → List (List ℕ)
writer_waited old new = left_after new.knows.seen old
