-- Who has which device open after a history, what is outstanding at the triggers, and what the drivers were asked, as plain
-- data. It has no queues, scans or copy tables.
use Rattle.std.specs.Prelude.{ℕ, ◌==◌, ◌||◌, ◌&&◌, not, Bool, false, List, [], ◌∷◌, map, slice_index_or, Option, Some, None, if◌then◌else◌, ℤ}
use Rattle.std.specs.Str.{bytes_eq}
use Rattle.iio_layout.specs.Shape.{ShapeRecord}
use Rattle.iio_sensor.specs.Driver.{Driver}
use Rattle.iio_desc.specs.Description.{Description, find_device}
use Rattle.iio_desc.specs.Kind.{Kind}
use Rattle.iio_derive.specs.Window.{Window}
use Rattle.iio_device.specs.Site.{Site, is_empty}
use Rattle.iio_core.specs.Attached.{Attachment, attachment_by}
use Rattle.iio_core.specs.Trigger.{Trigger}
use Rattle.iiod_commands.specs.declared.client.TheConstants.{FIRST_BUFFERS}
use Rattle.iio_history.specs.Who.{Who, same, is_among}

-- ---- plain data

-- the description, and the drivers that were handed in
pub record Setup : Type 0 where
  pub desc : Description
  pub drivers : List Driver

-- a membership of a device: whose it is; its mask, which is that of its OPEN or of its last REMASK; the capacity of its queue
-- in scans; and whether it is a cyclic writer of an output device, whose scans are repeated
pub record Member : Type 0 where
  pub who : Who
  pub mask : ℕ
  pub capacity : ℕ
  pub cyclic : Bool

-- a device: its kind and its shape, which never change, and its members in the order of their joining
pub record Device : Type 0 where
  pub kind : Kind
  pub shape : ShapeRecord
  pub site : Site Who
  -- an averaging device's captures of its base since its last mean
  pub window : Window
  pub members : List Member

-- what a device is to its sensor and to a new member; it has no names
pub record Outline : Type 0 where
  pub kind : Kind
  pub shape : ShapeRecord
  pub site : Site Who
  pub masks : List ℕ

-- a connection: whether it has ended, and the buffers count of each device
pub record ConnectionRecord : Type 0 where
  pub who : List ℕ
  pub ended : Bool
  pub buffers : List ℕ

pub record Registry : Type 0 where
  pub clock : ℤ
  pub users : List ConnectionRecord
  pub triggers : List Trigger
  pub devices : List Device

-- ---- functions of these

abbrev pub mask_of_member : Member → ℕ
mask_of_member m = m.mask

abbrev pub outline_of : Device → Outline
outline_of d = record { kind = d.kind; shape = d.shape; site = d.site; masks = map mask_of_member d.members }

-- what triggers see of devices
abbrev pub attachment_of : Device → Attachment
attachment_of d = attachment_by d.site d.members

abbrev pub attachments_of : Registry → List Attachment
attachments_of r = map attachment_of r.devices

abbrev pub is_member : Who → List Member → Bool
is_member who [] = false
is_member who (m ∷ ms) = same who m.who || is_member who ms

-- the membership of `who`, if any
abbrev pub member_of : Who → List Member → Option Member
member_of who [] = None
member_of who (m ∷ ms) = if same who m.who then Some m else member_of who ms

-- the members other than these
abbrev pub without_members : List Who → List Member → List Member
without_members gone [] = []
without_members gone (m ∷ ms) = if is_among m.who gone then without_members gone ms else m ∷ without_members gone ms

-- whether there is a last membership that ends when those of these end
abbrev pub is_left_empty : List Who → List Member → Bool
is_left_empty gone ms = not (is_empty ms) && is_empty (without_members gone ms)

abbrev pub is_at : Option ℕ → ℕ → Bool
is_at None k = false
is_at (Some j) k = j == k

-- whether the device of that number has the name
abbrev pub is_named : Setup → List ℕ → ℕ → Bool
is_named s name k = is_at (find_device s.desc name) k

-- the connection of that name
abbrev pub user_named : List ℕ → List ConnectionRecord → Option ConnectionRecord
user_named name [] = None
user_named name (u ∷ us) = if bytes_eq u.who name then Some u else user_named name us

-- whether the connection is there and has ended, and whether it is there and hasn't
abbrev pub has_ended : List ℕ → List ConnectionRecord → Bool
has_ended name us = elim (user_named name us) [ None ↦ false | Some u ↦ u.ended ]

abbrev pub is_live : List ℕ → List ConnectionRecord → Bool
is_live name us = elim (user_named name us) [ None ↦ false | Some u ↦ not u.ended ]

-- the buffers count before a SET
abbrev pub first_buffers : ℕ
first_buffers = FIRST_BUFFERS

-- a connection's buffers count of device k
abbrev pub buffers_of : List ConnectionRecord → List ℕ → ℕ → ℕ
buffers_of us name k = elim (user_named name us) [ None ↦ first_buffers | Some u ↦ slice_index_or u.buffers k first_buffers ]
