-- The station of an averaging device, as an `Iio` tells it.
use Rattle.std.specs.Prelude.{◌≡◌, ℕ, ◌+◌, false, List, [], map, Option, None}
use Rattle.std.specs.List.{sum_by}
use Rattle.std.specs.Option.{option_map_or}
use Rattle.iio_desc.specs.Description.{AverageRecord, DeviceHead, DeviceRecord, average_shape}
use Rattle.iio_desc.specs.Kind.{Average}
use Rattle.iio_derive.specs.declared.members.Membership.{Membership}
use Rattle.iio_derive.specs.Members.{member_at}
use Rattle.iio_output.specs.Last.{first_last}
use Rattle.iio_layout.specs.Shape.{ShapeRecord}
use Rattle.iio_device.specs.Site.{new_site, no_driver}
use Rattle.iio_core.specs.Machine.{Member, Station, new_station}
use Rattle.iio_kinds.specs.declared.mean_device.MeanDevice.{MeanDevice}
use Rattle.iio_kinds.specs.declared.mean_device.MeanSeat.{MeanSeat}

-- a member; its queue is in its slot
abbrev pub mean_member : List (Option Membership) → MeanSeat → Member
mean_member slots s = record {
  number = s.number;
  mask = s.mask.bits;
  capacity = s.capacity;
  scans = option_map_or (λ (m : Membership). m.queue.scans) (member_at s.slot slots) [];
  lost = option_map_or (λ (m : Membership). m.queue.lost) (member_at s.slot slots) 0;
  cyclic = false;
  inner = None;
}

-- the joining of a first member is a new attachment. The device has no sensor and no trigger of its own, and its attributes are
-- never written
abbrev pub mean_station : MeanDevice → Station
mean_station d = record {
  next = d.next;
  captures = d.captures;
  totals = d.totals;
  members = map (mean_member d.average.seats) d.seats.items;
  site = record (new_site d.average.shape None no_driver) { plugged = d.plugged; attachment = d.starts };
  last = first_last d.average.shape;
  window = d.average.window;
}

-- what no call changes: its name, its base, the number of captures that make a mean, its channels
abbrev pub means_head : List ℕ → (base window : ℕ) → ShapeRecord → DeviceHead
means_head name base window shape = record { name = name; kind = Average base window; shape = shape }

abbrev pub mean_head : MeanDevice → DeviceHead
mean_head d = means_head d.name d.base d.average.size d.average.shape

-- the station before the first step, over a base of that shape
abbrev pub new_mean_station : ShapeRecord → Station
new_mean_station shape = new_station (new_site shape None no_driver) (first_last shape)

abbrev pub first_mean_station : List DeviceRecord → AverageRecord → Station
first_mean_station devices x = new_mean_station (average_shape devices x)

-- ---- for this crate's private functions alone

-- what no call changes, with the number
pub record KeepsMean (old new : MeanDevice) : Type 0 where
  pub head : mean_head new ≡ mean_head old
  pub number : new.number ≡ old.number

-- the number of scans that its members, present and past, lost
abbrev pub lost_of_means : MeanDevice → ℕ
lost_of_means d = d.totals.lost + sum_by (λ (x : Member). x.lost) (mean_station d).members
