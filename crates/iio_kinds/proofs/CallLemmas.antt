-- What a connection's call keeps of an input device, and what its queue holds.
use Rattle.std.proofs.Common.{◌≡◌, ℕ, Bool, true, false, List, [], ◌∷◌, map, length, Option, IfSome, refl, ◌∙◌, cond, option_map, rules}
use Rattle.std.specs.Prelude.{◌==◌, unwrap_or}
use Rattle.std.specs.List.{AllByRecursion, IsDistinct}
use Rattle.std.specs.Option.{option_map_or}
use Rattle.iio_text.specs.declared.values.Fixed.{Fixed}
use Rattle.iio_attr.specs.declared.attributes.Attr.{Attr}
use Rattle.iio_kfifo.specs.Queue.{Queue}
use Rattle.iio_device.specs.declared.membership.Membership.{Membership}
use Rattle.iio_device.specs.Device.{DeviceView, after_raw, after_trigger, after_write, is_idle}
use Rattle.iio_device.specs.Members.{member_of as membership_of}
use Rattle.iio_device.specs.Site.{Site, sampled}
use Rattle.iio_core.specs.Machine.{Member, MemberId, member_in, scans_in}
use Rattle.iio_kinds.specs.Acting.{KeepsCaptures, has_member, lost_in}
use Rattle.iio_kinds.specs.Station.{member_of}

-- ---- what a call keeps of a device

site_keeps : (site : Site ℕ) (b : Bool) (d d' : DeviceView Queue) → d' ≡ cond b (record d { site = site }) d → KeepsCaptures d d'
site_keeps site b d d' e = search rules

pub trigger_keeps : (trigger : Option ℕ) (d d' : DeviceView Queue) → d' ≡ after_trigger trigger d → KeepsCaptures d d'
trigger_keeps trigger d d' e = site_keeps _ (is_idle d) d d' e

pub write_keeps : (channel : Option ℕ) (a : Attr) (v : Fixed) (d d' : DeviceView Queue) → d' ≡ after_write channel a v d → KeepsCaptures d d'
write_keeps channel a v d d' e = site_keeps _ d.site.plugged d d' e

pub raw_keeps : (d d' : DeviceView Queue) → d' ≡ after_raw d → KeepsCaptures d d'
raw_keeps d d' e = site_keeps (sampled d.site) (is_idle d) d d' e

-- ---- queues

-- the member of that number has that mask, if there is one
abbrev pub IsUnder : MemberId → Option (Membership Queue) → Type 0
IsUnder id o = IfSome o (λ m. (m.mask.bits == id.mask) ≡ true)

-- what is told of a member that is there

module _ {A : Type 0} (field : Member → A) (none : A) where
  pub told_found : (id : MemberId) (ms : List (Membership Queue)) → IsUnder id (membership_of id.number ms)
      → option_map_or field (member_in id (map member_of ms)) none
      ≡ option_map_or (λ (m : Membership Queue). field (member_of m)) (membership_of id.number ms) none
  told_found id [] under = refl
  told_found id (m ∷ ms) under = search (rules, told_found id ms)

  -- nothing is told of a member that isn't there
  pub told_absent : (id : MemberId) (ms : List (Membership Queue)) → has_member id ms ≡ false
      → option_map_or field (member_in id (map member_of ms)) none ≡ none
  told_absent id [] e = refl
  told_absent id (m ∷ ms) e = search (rules, told_absent id ms)

-- the scans of a member, by the member
pub scans_told : (id : MemberId) (xs : List Member) → scans_in id xs ≡ option_map_or (λ (x : Member). x.scans) (member_in id xs) []
scans_told id [] = refl
scans_told id (x ∷ xs) = search (rules, scans_told id xs)

pub scans_found : (id : MemberId) (ms : List (Membership Queue)) → IsUnder id (membership_of id.number ms)
    → scans_in id (map member_of ms) ≡ option_map_or (λ (m : Membership Queue). m.tail.scans) (membership_of id.number ms) []
scans_found id ms under = scans_told id (map member_of ms) ∙ told_found (λ (x : Member). x.scans) [] id ms under

pub scans_absent : (id : MemberId) (ms : List (Membership Queue)) → has_member id ms ≡ false → scans_in id (map member_of ms) ≡ []
scans_absent id ms e = scans_told id (map member_of ms) ∙ told_absent (λ (x : Member). x.scans) [] id ms e

pub lost_absent : (id : MemberId) (ms : List (Membership Queue)) → has_member id ms ≡ false → lost_in id (map member_of ms) ≡ 0
lost_absent id ms e = told_absent (λ (x : Member). x.lost) 0 id ms e

-- members' numbers differ, so a member that is there is the one of its number
passed_on : (id : MemberId) (m : Membership Queue) (ms : List (Membership Queue))
    → AllByRecursion (λ y. (m.number == y) ≡ false) (map (λ (m : Membership Queue). m.number) ms) → (m.number == id.number) ≡ true → has_member id ms ≡ false
passed_on id m [] apart own = refl
passed_on id m (x ∷ xs) apart own = search (rules, passed_on id m xs apart.1 own)

pub under_is : (id : MemberId) (ms : List (Membership Queue)) → IsDistinct (λ a b. a == b) (map (λ (m : Membership Queue). m.number) ms)
    → has_member id ms ≡ true → IsUnder id (membership_of id.number ms)
unfolding IsDistinct
under_is id [] distinct e = tt
under_is id (m ∷ ms) distinct e = search (rules, passed_on, under_is id ms distinct.1)

pub waiting_is : (id : MemberId) (w r : ℕ) (o : Option ℕ) (ms : List (Membership Queue)) → IsUnder id (membership_of id.number ms)
    → o ≡ option_map (λ (m : Membership Queue). length m.tail.scans) (membership_of id.number ms) → w ≡ unwrap_or o 0 → r ≡ w
    → r ≡ length (scans_in id (map member_of ms))
waiting_is id w r o ms under e u s = search (rules, scans_found)

pub lost_is : (id : MemberId) (r : ℕ) (o : Option ℕ) (ms : List (Membership Queue)) → IsUnder id (membership_of id.number ms)
    → o ≡ option_map (λ (m : Membership Queue). m.tail.lost) (membership_of id.number ms) → r ≡ unwrap_or o 0 → r ≡ lost_in id (map member_of ms)
lost_is id r o ms under e u = search (rules, told_found)
