-- What a call or a move keeps of a device's standing.
use Rattle.std.proofs.Common.{◌≡◌, ℕ, true, rules}
use Rattle.iio_device.specs.Site.{is_empty}
use Rattle.iio_core.specs.Attached.{is_attached}
use Rattle.iio_core.specs.Machine.{Station, attachment_of}
use Rattle.iio_kinds.specs.Inner.{has_inner}
use Rattle.iio_kinds.specs.Places.{is_hosted}

-- a device that keeps its place at each trigger
pub record KeepsPlace (st st' : Station) : Type 0 where
  pub attached : (t : ℕ) → is_attached t (attachment_of st') ≡ is_attached t (attachment_of st)
  pub attachment : st'.site.attachment ≡ st.site.attachment

-- ... and what concerns averaging devices, except captures
pub record KeepsInner (st st' : Station) : Type 0 where
  pub place : KeepsPlace st st'
  pub hosted : (n : ℕ) → is_hosted n st ≡ true → is_hosted n st' ≡ true
  pub plugged : st'.site.plugged ≡ st.site.plugged
  pub empty : is_empty st'.members ≡ is_empty st.members
  pub inner : (j : ℕ) → has_inner j st' ≡ has_inner j st

-- ... and makes no capture
pub record KeepsStanding (st st' : Station) : Type 0 where
  pub inner : KeepsInner st st'
  pub captures : st'.captures ≡ st.captures

pub inner_kept : (st st' : Station) → st'.site.trigger ≡ st.site.trigger → st'.site.attachment ≡ st.site.attachment → st'.site.plugged ≡ st.site.plugged
    → is_empty st'.members ≡ is_empty st.members
    → ((j : ℕ) → has_inner j st' ≡ has_inner j st) → KeepsInner st st'
inner_kept st st' trigger attachment plugged empty inner = search rules

pub standing : (st st' : Station) → st'.site.trigger ≡ st.site.trigger → st'.site.attachment ≡ st.site.attachment → st'.site.plugged ≡ st.site.plugged
    → is_empty st'.members ≡ is_empty st.members
    → ((j : ℕ) → has_inner j st' ≡ has_inner j st) → st'.captures ≡ st.captures → KeepsStanding st st'
standing st st' trigger attachment plugged empty inner captures = search rules
