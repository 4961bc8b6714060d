-- The station of a device, as an `Iio` tells it.
use Rattle.std.specs.Prelude.{◌≡◌, ℕ, List, [], map, Option, None, Some}
use Rattle.iio_desc.specs.Description.{DeviceHead}
use Rattle.iio_desc.specs.Kind.{Kind, Input, Output, Average}
use Rattle.iio_kfifo.specs.Queue.{Queue}
use Rattle.iio_kfifo.specs.declared.tail.Tail.{Ghosts}
use Rattle.iio_sensor.specs.Driver.{Driver}
use Rattle.iio_device.specs.declared.device.Fitted.{Fitted}
use Rattle.iio_device.specs.declared.iio_dev.IioDev.{IioDev}
use Rattle.iio_device.specs.declared.membership.Membership.{Membership}
use Rattle.iio_device.specs.declared.plug.Plug.{Plug}
use Rattle.iio_device.specs.Ends.{queue_end}
use Rattle.iio_device.specs.Device.{DeviceView, view_of}
use Rattle.iio_core.specs.Machine.{Member, Station}
use Rattle.iio_core.specs.Devices.{member_of as plain_member, queue_waits, station_of as plain_station}
use Rattle.iio_kinds.specs.declared.any_device.AnyDevice.{AnyDevice}
use Rattle.iio_kinds.specs.declared.any_device.AnyDevice.TheVariants as any
use Rattle.iio_kinds.specs.declared.in_device.InDevice.{InDevice}
use Rattle.iio_kinds.specs.Inner.{with_inner_name}
use Rattle.iio_kinds.specs.MeanStation.{mean_head, mean_station}
use Rattle.iio_kinds.specs.OutStation.{out_head, out_station}

-- a member of an input device, and the device itself
abbrev pub member_of : Membership Queue → Member
member_of m = plain_member queue_end queue_waits m

abbrev pub station_of : DeviceView Queue → Station
station_of d = plain_station queue_end queue_waits d

module _ {X : Type 0} {V : X → Type 0} {g : Ghosts Queue} (driver : Plug X V → Driver) where
  abbrev pub station_by : Fitted (IioDev Queue g) X V → Station
  station_by d = station_of (view_of driver d)

-- what no call changes
abbrev pub head_by : {g : Ghosts Queue} → IioDev Queue g → DeviceHead
head_by core = record { name = core.name; kind = Input; shape = core.roster.shape }

-- a device of any kind
module _ {X : Type 0} {V : X → Type 0} (driver : Plug X V → Driver) where
  -- an input device's inner members are told as such
  abbrev pub in_station : InDevice X V → Station
  in_station d = record (station_by driver d.device) { members = map (with_inner_name d.inners.items) (station_by driver d.device).members }

  abbrev pub any_station : AnyDevice X V → Station
  any_station (any.Input d) = in_station d
  any_station (any.Output x) = out_station x
  any_station (any.Average a) = mean_station a

  abbrev pub stations_by : List (AnyDevice X V) → List Station
  stations_by devices = map any_station devices

module _ {X : Type 0} {V : X → Type 0} where
  -- the number of a device
  abbrev pub number_by : AnyDevice X V → ℕ
  number_by (any.Input d) = d.device.core.number
  number_by (any.Output x) = x.number
  number_by (any.Average a) = a.number

  -- the number of captures that it has made by its own sensor
  abbrev pub captures_by : AnyDevice X V → ℕ
  captures_by (any.Input d) = d.device.core.roster.captures
  captures_by (any.Output x) = 0
  captures_by (any.Average a) = 0

  -- the room for the scan that an output device is given
  abbrev pub room_by : AnyDevice X V → List ℕ
  room_by (any.Input d) = []
  room_by (any.Output x) = x.room.items
  room_by (any.Average a) = []

  -- the scan of all channels that the inner members of an input device took last
  abbrev pub full_scan_by : AnyDevice X V → List ℕ
  full_scan_by (any.Input d) = d.room.items
  full_scan_by (any.Output x) = []
  full_scan_by (any.Average a) = []

  -- what no call changes
  abbrev pub in_head : InDevice X V → DeviceHead
  in_head d = head_by d.device.core

  abbrev pub any_front : AnyDevice X V → DeviceHead
  any_front (any.Input d) = in_head d
  any_front (any.Output x) = out_head x
  any_front (any.Average a) = mean_head a

  pub record KeepsHead (old new : AnyDevice X V) : Type 0 where
    pub front : any_front new ≡ any_front old
    pub number : number_by new ≡ number_by old

  -- what no connection's call changes: such a call makes no capture
  pub record KeepsFront (old new : AnyDevice X V) : Type 0 where
    pub head : KeepsHead old new
    pub captures : captures_by new ≡ captures_by old

  -- what no call changes of an input device. Only this crate's private functions cite it
  pub record KeepsIn (old new : InDevice X V) : Type 0 where
    pub front : in_head new ≡ in_head old
    pub number : new.device.core.number ≡ old.device.core.number

  pub record KeepsInCaptures (old new : InDevice X V) : Type 0 where
    pub head : KeepsIn old new
    pub captures : new.device.core.roster.captures ≡ old.device.core.roster.captures

-- the number of the base of an averaging device
abbrev pub base_of : Kind → Option ℕ
base_of (Average base window) = Some base
base_of kind = None
