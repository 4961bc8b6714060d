-- The handling of an entry at an input device with inner members: each takes its scan of the capture at once.
use Rattle.std.proofs.Common.{◌≡◌, ℕ, ◌+◌, ◌-◌, Bool, true, false, List, [], ◌∷◌, ◌++◌, map, drop, Some, None, refl, sym, ap, subst, ◌∙◌, arith, cond, rules}
use Rattle.std.proofs.lemmas.Grind.{common_steps}
use Rattle.std.specs.Prelude.{◌==◌, ◌||◌, is_some, ℤ}
use Rattle.std.specs.List.{AllByRecursion, IsDistinct}
use Rattle.std.proofs.lemmas.Bool.{eqb-true}
use Rattle.iio_layout.specs.Scan.{scan_of}
use Rattle.iio_layout.specs.Shape.{ShapeRecord}
use Rattle.iio_desc.specs.Kind.{Input}
use Rattle.iio_derive.specs.Window.{full_mask, no_window}
use Rattle.iio_kfifo.specs.Queue.{Queue}
use Rattle.iio_sensor.specs.Driver.{ask_fails, values_of}
use Rattle.iio_trigger.specs.Trigger.{Handed}
use Rattle.iio_device.specs.declared.membership.Membership.{Membership}
use Rattle.iio_device.specs.declared.handling.Handled.{Handled}
use Rattle.iio_device.specs.declared.handling.Handled.TheVariants.{Captured}
use Rattle.iio_core.specs.Machine.{Member, Station}
use Rattle.iio_core.specs.Moves.{Capture, asked_once, offered_to, is_due}
use Rattle.iio_core.specs.declared.became.Became.TheVariants.{Asked}
use Rattle.iio_kinds.specs.declared.in_device.Inner.{Inner}
use Rattle.iio_kinds.specs.Handling.{entry_station, entry_became}
use Rattle.iio_kinds.specs.Inner.{inner_at, number_of, with_inner_name}
use Rattle.iio_kinds.specs.Taking.{AreWaiting, all_taken, with_taken}
use Rattle.iio_kinds.proofs.InnerLemmas.{AreIdleTold, empty_named, has_number, masks_named, named}
use Rattle.iio_kinds.proofs.SeatLemmas.{eq_flips}
use Rattle.iio_kinds.specs.Station.{member_of}

-- ---- one member

-- a member that isn't told as an inner one
abbrev pub IsPlain : Member → Type 0
IsPlain x = x.inner ≡ None

module _ (shape : ShapeRecord) (c : Capture) (inners : List Inner) where
  taken_all : (xs : List Member) → AllByRecursion IsPlain xs
      → map (with_inner_name inners) (map (with_taken inners) (map (offered_to shape c) xs)) ≡ map (offered_to shape c) (map (with_inner_name inners) xs)
  taken_all [] plain = refl
  taken_all (x ∷ xs) plain = search (rules, taken_all xs plain.1)

  -- each inner member waits to take the capture's scan
  pub waiting_all : (xs : List Member) → AreIdleTold shape inners xs → AllByRecursion IsPlain xs
      → AreWaiting inners (map (offered_to shape c) xs) (scan_of shape (full_mask shape) c.values c.moment)
  waiting_all [] idle plain = tt
  waiting_all (x ∷ xs) idle plain = search (rules, waiting_all xs idle.1 plain.1)

  -- after that it is idle again
  pub idle_again : (xs : List Member) → AreIdleTold shape inners xs → AllByRecursion IsPlain xs
      → AreIdleTold shape inners (map (with_taken inners) (map (offered_to shape c) xs))
  idle_again [] idle plain = tt
  idle_again (x ∷ xs) idle plain = search (rules, idle_again xs idle.1 plain.1)

  pub offered_number : (n : ℕ) (xs : List Member) → has_number n (map (offered_to shape c) xs) ≡ has_number n xs
  offered_number n [] = refl
  offered_number n (x ∷ xs) = search (rules, offered_number n xs)

-- ---- the device

module _ (shape : ShapeRecord) (inners : List Inner) (e : Handed) (ended : Bool) (st : Station) (idle : AreIdleTold shape inners st.members)
    (plain : AllByRecursion IsPlain st.members) where
  asked_named : (t : ℤ) → named inners (asked_once shape t st) ≡ asked_once shape t (named inners st)
  asked_named t = rw (masks_named inners st.members) refl

  abbrev taken : Capture
  taken = record { moment = e.t; values = values_of st.site.driver shape e.t }

  due_named : is_due e (named inners st) ≡ is_due e st
  due_named = rw (empty_named inners st.members) refl

  captured_named : named inners
      (all_taken inners (record (asked_once shape e.t st)
      { captures = st.captures + 1; members = map (offered_to shape taken) st.members; window = no_window }))
      ≡ record (asked_once shape e.t (named inners st))
      { captures = st.captures + 1; members = map (offered_to shape taken) (map (with_inner_name inners) st.members); window = no_window }
  captured_named = simp (taken_all, masks_named)

  -- if there was a capture: after its scans are taken
  pub capture_named : (n : ℕ) (new : Station) → Some (Asked (Captured n)) ≡ entry_became Input (Some e) ended st
      → new ≡ entry_station Input (Some e) ended shape st
      → named inners (all_taken inners new) ≡ entry_station Input (Some e) ended shape (named inners st)
  capture_named n new answer is = search (rules, captured_named)

  -- if there was none
  pub idle_named : (r : Handled) (new : Station) → ((n : ℕ) → r ≡ Captured n → ⊥) → Some (Asked r) ≡ entry_became Input (Some e) ended st
      → new ≡ entry_station Input (Some e) ended shape st
      → named inners new ≡ entry_station Input (Some e) ended shape (named inners st)
  idle_named r new none answer is = by ended (is_due e st) (ask_fails st.site.driver) refl refl answer is
    where
      by : (a b f : Bool) → is_due e st ≡ b → ask_fails st.site.driver ≡ f → Some (Asked r) ≡ entry_became Input (Some e) a st
          → new ≡ entry_station Input (Some e) a shape st
          → named inners new ≡ entry_station Input (Some e) a shape (named inners st)
      by true b f due fails answer is = ap (named inners) is
      by false false f due fails answer is = search rules
      by false true true due fails answer is =
          let made : entry_station Input (Some e) false shape st ≡ asked_once shape e.t st = rw (due, fails) refl in
          let then : entry_station Input (Some e) false shape (named inners st) ≡ asked_once shape e.t (named inners st) = rw (due_named ∙ due, fails) refl in
          ap (named inners) (is ∙ made) ∙ asked_named e.t ∙ sym then
      by false true false due fails answer is = search rules

  -- the answer is the same
  pub answer_named : entry_became Input (Some e) ended (named inners st) ≡ entry_became Input (Some e) ended st
  answer_named = grind (arith, common_steps)

-- ---- one take after another

-- the member of a number without its first scan
abbrev pub one_taken : ℕ → Member → Member
one_taken n x = cond (x.number == n) (record x { scans = drop 1 x.scans }) x

pub none_of : (inners : List Inner) (n : ℕ) → AllByRecursion (λ y. (n == y) ≡ false) (map number_of inners) → is_some (inner_at inners n) ≡ false
none_of [] n all = refl
none_of (i ∷ is) n all = search (rules, none_of is n all.1)

more_inner : (inners : List Inner) (i : Inner) (n : ℕ) → is_some (inner_at (inners ++ i ∷ []) n) ≡ (is_some (inner_at inners n) || (i.number == n))
more_inner [] i n = search rules
more_inner (k ∷ ks) i n = search (rules, more_inner ks i n)

taken_more : (inners : List Inner) (i : Inner) (x : Member) → AllByRecursion (λ y. (i.number == y) ≡ false) (map number_of inners)
    → with_taken (inners ++ i ∷ []) x ≡ one_taken i.number (with_taken inners x)
taken_more inners i x apart = by (is_some (inner_at inners x.number)) (i.number == x.number) refl refl (more_inner inners i x.number)
  where
    by : (a b : Bool) → is_some (inner_at inners x.number) ≡ a → (i.number == x.number) ≡ b
        → is_some (inner_at (inners ++ i ∷ []) x.number) ≡ (is_some (inner_at inners x.number) || (i.number == x.number))
        → with_taken (inners ++ i ∷ []) x ≡ one_taken i.number (with_taken inners x)
    by true true e f is =
        let near : x.number ≡ i.number = sym (eqb-true i.number x.number f) in
        absurd (let gone : is_some (inner_at inners x.number) ≡ false = ap (λ (n : ℕ). is_some (inner_at inners n)) near ∙ none_of inners i.number apart in
        let both : true ≡ false = sym e ∙ gone in cc)
    by true false e f is = let far : (x.number == i.number) ≡ false = eq_flips x.number i.number ∙ f in rw (is, e, far) refl
    by false true e f is = let near : (x.number == i.number) ≡ true = eq_flips x.number i.number ∙ f in rw (is, e, f, near) refl
    by false false e f is = let far : (x.number == i.number) ≡ false = eq_flips x.number i.number ∙ f in rw (is, e, f, far) refl

pub all_taken_more : (inners : List Inner) (i : Inner) (xs : List Member) → AllByRecursion (λ y. (i.number == y) ≡ false) (map number_of inners)
    → map (with_taken (inners ++ i ∷ [])) xs ≡ map (one_taken i.number) (map (with_taken inners) xs)
all_taken_more inners i [] apart = refl
all_taken_more inners i (x ∷ xs) apart = simp (taken_more, all_taken_more inners i xs apart)

others_stay : (n : ℕ) (ys : List (Membership Queue)) → AllByRecursion (λ y. (n == y) ≡ false) (map (λ (k : Membership Queue). k.number) ys)
    → map (one_taken n) (map member_of ys) ≡ map member_of ys
others_stay n [] all = refl
others_stay n (y ∷ ys) all = search (rules, others_stay n ys all.1)

apart_at : (n : ℕ) (xs ys : List (Membership Queue)) (m : Membership Queue)
    → AllByRecursion (λ y. (n == y) ≡ false) (map (λ (k : Membership Queue). k.number) (xs ++ m ∷ ys)) → (n == m.number) ≡ false
apart_at n [] ys m all = all.0
apart_at n (x ∷ xs) ys m all = apart_at n xs ys m all.1

-- what a take of one member's scan makes of the members
pub one_changed : (n : ℕ) (xs ys : List (Membership Queue)) (m c : Membership Queue)
    → IsDistinct (λ a b. a == b) (map (λ (k : Membership Queue). k.number) (xs ++ m ∷ ys)) → (m.number == n) ≡ true
    → member_of c ≡ record (member_of m) { scans = drop 1 m.tail.scans } → map member_of (xs ++ c ∷ ys) ≡ map (one_taken n) (map member_of (xs ++ m ∷ ys))
unfolding IsDistinct
one_changed n [] ys m c distinct own e =
    rw own (ap (λ (x : Member). x ∷ map member_of ys) e
    ∙ ap (λ (rest : List Member). record (member_of m) { scans = drop 1 m.tail.scans } ∷ rest)
    (sym (others_stay n ys (subst (λ (k : ℕ). AllByRecursion (λ y. (k == y) ≡ false) (map (λ (k : Membership Queue). k.number) ys)) (eqb-true m.number n own)
    distinct.0))))
one_changed n (x ∷ xs) ys m c distinct own e = search (rules, apart_at, one_changed n xs ys m c distinct.1 own e)
