-- What a capture by a device's driver gives its members.
use Rattle.std.proofs.Common.{◌≡◌, ◌∙◌, ap, subst, All, length, ℕ, ℤ, List, Option, Some}
use Rattle.std.specs.List.{AllZip}
use Rattle.iio_layout.specs.Scan.{scan_of}
use Rattle.iio_layout.specs.Shape.{ShapeRecord}
use Rattle.iio_kfifo.specs.declared.tail.Tail.{Ghosts}
use Rattle.iio_sensor.specs.Driver.{Driver, values_of}
use Rattle.iio_desc.specs.Description.{DeviceRecord}
use Rattle.iio_desc.specs.declared.description.AttrDesc.{AttrDesc}
use Rattle.iio_desc.specs.WellFormed.{IsWrite}
use Rattle.iio_device.specs.Device.{DeviceView, new_view}
use Rattle.iio_device.specs.Roster.{Standing, nobody}
use Rattle.iio_device.specs.Site.{Site, first_site}
use Rattle.iio_device.specs.Totals.{no_totals}
use Rattle.iio_device.specs.declared.totals.Totals.{Totals}
use Rattle.iio_device.specs.declared.membership.Membership.{Membership}
use Rattle.iio_device.specs.Members.{WasOffered}
use Rattle.iio_device.specs.Plug.{driver_in}

module _ {Q P : Type 0} (ends : Ghosts Q) (driver : P → Driver) (shape : ShapeRecord) where
  abbrev pub AreOffered : Driver → ℤ → List (Membership Q) → List (Membership Q) → Type 0
  AreOffered d t old new =
      AllZip (λ (a b : Membership Q). WasOffered ends (scan_of shape a.mask.bits (values_of d shape t) t) a b) old new

  pub offered_by : (plugged : Option P) (plug : P) (moment t : ℤ) (old new : List (Membership Q)) → plugged ≡ Some plug → moment ≡ t
      → AreOffered (driver plug) moment old new → AreOffered (driver_in driver plugged) t old new
  offered_by plugged plug moment t old new is at offered = rw is (subst (λ m. AreOffered (driver plug) m old new) at offered)

-- a device with only its site changed
pub same_but : {Q : Type 0} (name : List ℕ) (number : ℕ) (standing : Standing Q) (totals : Totals) (a b : Site ℕ) → a ≡ b
    → (let x : DeviceView Q = record { name = name; number = number; standing = standing; totals = totals; site = a } in x)
    ≡ (let y : DeviceView Q = record { name = name; number = number; standing = standing; totals = totals; site = b } in y)
same_but {Q = Q} name number standing totals a b same =
    ap (λ (s : Site ℕ). (let x : DeviceView Q = record { name = name; number = number; standing = standing; totals = totals; site = s } in x)) same

-- a device that was made from a description
pub made : {Q : Type 0} (inside desc : DeviceRecord) (number : ℕ) (driver : Driver) (standing : Standing Q) (totals : Totals) (site : Site ℕ)
    (attrs : List AttrDesc) → inside ≡ desc
    → standing ≡ nobody inside.shape → totals ≡ no_totals → site ≡ first_site inside.shape inside.trigger driver attrs → attrs ≡ inside.attrs
    → (let x : DeviceView Q = record { name = inside.name; number = number; standing = standing; totals = totals; site = site } in x)
    ≡ new_view desc number driver
made {Q = Q} inside desc number driver standing totals site attrs is alone none first same =
    ap (λ (s : Standing Q). (let x : DeviceView Q = record { name = inside.name; number = number; standing = s; totals = totals; site = site } in x)) alone
    ∙ ap (λ (t : Totals). (let x : DeviceView Q = record { name = inside.name; number = number; standing = nobody inside.shape; totals = t; site = site } in x))
    none
    ∙ same_but inside.name number (nobody inside.shape) no_totals site (first_site inside.shape inside.trigger driver inside.attrs)
    (first ∙ ap (λ (attrs : List AttrDesc). first_site inside.shape inside.trigger driver attrs) same)
    ∙ ap (λ (d : DeviceRecord). new_view {Q = Q} d number driver) is

-- its attribute lines are valid
pub right_writes : (inside desc : DeviceRecord) → inside ≡ desc → All (IsWrite (length desc.shape.channels)) desc.attrs
    → All (IsWrite (length inside.shape.channels)) inside.attrs
right_writes inside desc is right = rw is right
