-- What the handling of an entry at an input device makes of its inner members, and of the scan that they took.
use Rattle.std.proofs.Common.{◌≡◌, ℕ, ◌-◌, Bool, true, false, List, [], ◌∷◌, map, length, Option, Some, refl, sym, subst, ◌∙◌, arith, ℤ, FitsSigned, w64, rules}
use Rattle.std.specs.Prelude.{is_some}
use Rattle.std.specs.List.{AllByRecursion}
use Rattle.std.proofs.lemmas.Int.{ints}
use Rattle.iio_scan_type.specs.declared.Endian.{Endian}
use Rattle.iio_scan_type.specs.Format.{IsInRange, stamp_format}
use Rattle.iio_desc.specs.Kind.{Input}
use Rattle.iio_layout.specs.Shape.{ShapeRecord}
use Rattle.iio_derive.specs.Window.{full_mask}
use Rattle.iio_kfifo.specs.Queue.{Queue}
use Rattle.iio_sensor.specs.Driver.{ask_fails, values_of}
use Rattle.iio_trigger.specs.Trigger.{Handed}
use Rattle.iio_device.specs.declared.handling.Handled.{Handled}
use Rattle.iio_device.specs.declared.handling.Handled.TheVariants.{Captured}
use Rattle.iio_device.specs.declared.membership.Membership.{Membership}
use Rattle.iio_device.specs.Site.{is_empty}
use Rattle.iio_core.specs.Machine.{Member, Station}
use Rattle.iio_core.specs.Moves.{offered_to, Capture, is_due}
use Rattle.iio_core.specs.declared.became.Became.TheVariants.{Asked}
use Rattle.iio_kinds.specs.declared.in_device.Inner.{Inner}
use Rattle.iio_kinds.specs.Handling.{IsTakenWhole, entry_capture, entry_station, has_inner, entry_became}
use Rattle.iio_kinds.specs.Inner.{AreThere, AreWhole, HasInners, inner_at, with_inner_name}
use Rattle.iio_kinds.specs.Station.{member_of}
use Rattle.iio_kinds.specs.Taking.{IsTakenOf, with_taken}
use Rattle.iio_kinds.proofs.CaptureLemmas.{values_capture}
use Rattle.iio_kinds.proofs.InnerLemmas.{AreIdleTold, idle_told, named, there_by, there_told, told_idle, told_there}
use Rattle.iio_kinds.proofs.InnerTakes.{IsPlain, idle_again, offered_number, waiting_all}
use Rattle.iio_kinds.proofs.TakeAllLemmas.{number_kept}

-- ---- which captures there are

pub members_plain : (ms : List (Membership Queue)) → AllByRecursion IsPlain (map member_of ms)
members_plain [] = tt
members_plain (m ∷ ms) = (refl, members_plain ms)

abbrev pub taken_by : ShapeRecord → Handed → Station → Capture
taken_by shape e st = record { moment = e.t; values = values_of st.site.driver shape e.t }

-- an entry whose handling is answered by a capture
pub record HasCaptured (shape : ShapeRecord) (e : Handed) (ended : Bool) (st : Station) : Type 0 where
  pub goes_on : ended ≡ false
  pub due : is_due e st ≡ true
  pub answers : ask_fails st.site.driver ≡ false

module _ (shape : ShapeRecord) (e : Handed) where
  pub captured_by : (n : ℕ) (ended : Bool) (st : Station) → Some (Asked (Captured n)) ≡ entry_became Input (Some e) ended st → HasCaptured shape e ended st
  captured_by n ended st answer = search rules

  -- what it makes of the members
  pub captured_members : (ended : Bool) (st new : Station) → HasCaptured shape e ended st → new ≡ entry_station Input (Some e) ended shape st
      → new.members ≡ map (offered_to shape (taken_by shape e st)) st.members
  captured_members ended st new h is = search rules

  -- which capture it is
  pub captured_named : (inners : List Inner) (ended : Bool) (st : Station) → HasCaptured shape e ended st
      → entry_capture Input (Some e) ended shape (named inners st) ≡ Some (taken_by shape e st)
  captured_named inners ended st h = search rules

  pub idle_members : (r : Handled) (ended : Bool) (st new : Station) → ((n : ℕ) → r ≡ Captured n → ⊥)
      → Some (Asked r) ≡ entry_became Input (Some e) ended st → new ≡ entry_station Input (Some e) ended shape st → new.members ≡ st.members
  idle_members r ended st new none answer is = search rules

-- ---- the inner members afterwards

module _ (shape shape' : ShapeRecord) (inners : List Inner) (room : List ℕ) (ms ms' : List (Membership Queue)) (c : Capture)
    (same : shape' ≡ shape) (sound : HasInners shape ms inners room) (told : map member_of ms' ≡ map (offered_to shape c) (map member_of ms)) where
  pub offered_there : AreThere ms' inners
  offered_there = search (rules, told_there, there_by, offered_number, there_told)

  -- each still has its number and its mask
  offered_keeps : (x : Member) → ((offered_to shape c x).number ≡ x.number) × ((offered_to shape c x).mask ≡ x.mask)
  offered_keeps x = search rules

  abbrev AreWholeTold : List Member → Type 0
  AreWholeTold xs = AllByRecursion (λ (x : Member). is_some (inner_at inners x.number) ≡ true → x.mask ≡ full_mask shape) xs

  whole_offered : (xs : List Member) → AreIdleTold shape inners xs → AreWholeTold (map (offered_to shape c) xs)
  whole_offered [] idle = tt
  whole_offered (x ∷ xs) idle = search (rules, offered_keeps, inner_at, whole_offered xs idle.1)

  whole_back : (ks : List (Membership Queue)) → AreWholeTold (map member_of ks) → AreWhole shape inners ks
  whole_back [] all = tt
  whole_back (k ∷ ks) all = (all.0, whole_back ks all.1)

  pub offered_whole : AreWhole shape' inners ms'
  offered_whole = search (rules, whole_back, whole_offered, idle_told)

  -- after each has taken its scan, what held holds again
  pub taken_facts : (shape'' : ShapeRecord) (ms'' : List (Membership Queue)) (room' : List ℕ) → shape'' ≡ shape
      → map member_of ms'' ≡ map (with_taken inners) (map member_of ms') → length room' ≡ length room → HasInners shape'' ms'' inners room'
  taken_facts shape'' ms'' room' same'' told'' sized =
      let all : map member_of ms'' ≡ map (with_taken inners) (map (offered_to shape c) (map member_of ms)) = cc in
      subst (λ (s : ShapeRecord). HasInners s ms'' inners room') (sym same'') (record {
        idle = search (rules, told_idle, idle_again, idle_told, members_plain);
        there = search (rules, told_there, there_by, number_kept, offered_number, there_told);
        once = sound.once;
        apart = sound.apart;
        roomy = λ some. sized ∙ sound.roomy some;
        types = sound.types;
      })

-- ---- the scan that they took

none_inner : (xs : List Member) → has_inner (map (with_inner_name []) xs) ≡ false
none_inner [] = refl
none_inner (x ∷ xs) = none_inner xs

some_inner : (inners : List Inner) (xs : List Member) → has_inner (map (with_inner_name inners) xs) ≡ true → is_empty inners ≡ false
some_inner inners xs e = search (rules, none_inner)

-- a moment of 64 bits is one of a timestamp
moment_range : (t : ℤ) → FitsSigned w64 t → (endian : Endian) → IsInRange (stamp_format endian) t
moment_range t fits endian = (omega (arith, ints, fits), omega (arith, ints, fits))

pub room_whole : (shape : ShapeRecord) (e : Handed) (inners : List Inner) (room room' : List ℕ) (ended : Bool) (st : Station) (ms ms' : List (Membership Queue))
    → HasInners shape ms inners room → st.members ≡ map member_of ms → HasCaptured shape e ended st
    → map member_of ms' ≡ map (offered_to shape (taken_by shape e st)) (map member_of ms) → IsTakenOf inners (map member_of ms') room'
    → length room' ≡ length room → FitsSigned w64 e.t
    → IsTakenWhole shape (entry_capture Input (Some e) ended shape (named inners st)) (map (with_inner_name inners) st.members) room'
room_whole shape e inners room room' ended st ms ms' sound of h told taken sized fits =
    subst (λ (o : Option Capture). IsTakenWhole shape o (map (with_inner_name inners) st.members) room') (sym (captured_named shape e inners ended st h))
    (λ has. let some : is_empty inners ≡ false = some_inner inners st.members has in record {
      is = search (rules, inner_at, waiting_all, idle_told, members_plain);
      size = sized ∙ sound.roomy some;
      values = values_capture shape st.site.driver e.t sound.types;
      moment = moment_range e.t fits;
    })

pub room_idle : (shape : ShapeRecord) (e : Handed) (r : Handled) (inners : List Inner) (room' : List ℕ) (ended : Bool) (st : Station)
    → ((n : ℕ) → r ≡ Captured n → ⊥) → Some (Asked r) ≡ entry_became Input (Some e) ended st
    → IsTakenWhole shape (entry_capture Input (Some e) ended shape (named inners st)) (map (with_inner_name inners) st.members) room'
room_idle shape e r inners room' ended st none answer = search rules
