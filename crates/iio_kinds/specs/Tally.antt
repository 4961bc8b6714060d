-- What devices counted.
use Rattle.std.specs.Prelude.{ℕ, ◌+◌, ◌-◌, ◌%◌, ◌^◌, min, List}
use Rattle.std.specs.List.{sum_by}
use Rattle.iio_kfifo.specs.Queue.{Queue}
use Rattle.iio_device.specs.declared.membership.Membership.{Membership}
use Rattle.iio_kinds.specs.declared.any_device.AnyDevice.{AnyDevice}
use Rattle.iio_kinds.specs.declared.any_device.AnyDevice.TheVariants as any
use Rattle.iio_kinds.specs.declared.tally.Tally.{Tally}
use Rattle.iio_kinds.specs.MeanStation.{lost_of_means}
use Rattle.iio_kinds.specs.Station.{captures_by}

-- a count, which stays at the largest value of its type once it gets there
abbrev pub shown : ℕ → ℕ
shown n = min n (2 ^ 64 - 1)

module _ {X : Type 0} {V : X → Type 0} where
  -- the number of scans that a device's queues gave, of those that were lost, and the sum of the bytes of those that were
  -- given; an output device gives its members nothing, and loses nothing
  abbrev pub scans_by : AnyDevice X V → ℕ
  scans_by (any.Input d) = d.device.core.totals.scans
  scans_by (any.Output x) = 0
  scans_by (any.Average a) = a.totals.scans

  abbrev pub overruns_by : AnyDevice X V → ℕ
  overruns_by (any.Input d) = d.device.core.totals.lost + sum_by (λ (m : Membership Queue). m.tail.lost) d.device.core.roster.members.items
  overruns_by (any.Output x) = 0
  overruns_by (any.Average a) = lost_of_means a

  abbrev pub bytes_by : AnyDevice X V → ℕ
  bytes_by (any.Input d) = d.device.core.totals.bytes
  bytes_by (any.Output x) = 0
  bytes_by (any.Average a) = a.totals.bytes

  -- what devices counted
  abbrev pub devices_tally : List (AnyDevice X V) → Tally
  devices_tally devices = record {
    captures = shown (sum_by captures_by devices);
    scans = shown (sum_by scans_by devices);
    overruns = shown (sum_by overruns_by devices);
    bytes = sum_by bytes_by devices % 2 ^ 64;
  }
