-- Seats by the name of their connection are members by number.
use Rattle.std.proofs.Common.{◌≡◌, ℕ, suc, ◌/◌, ◌≤◌, ◌<◌, ◌==◌, ◌||◌, not, Bool, true, false, List, [], ◌∷◌, map, take, drop, find, is_none, is_some, Option, Some, None, option_map, cond, refl, sym, ap, ◌∙◌, subst, arith, rules}
use Rattle.std.proofs.lemmas.Grind.{common_steps}
use Rattle.std.proofs.lemmas.Bool.Decides.{nat_tests}
use Rattle.iio_layout.specs.Shape.{ShapeRecord}
use Rattle.iio_layout.specs.Layout.{scan_size}
use Rattle.iio_device.specs.declared.totals.Totals.{Totals}
use Rattle.iio_device.specs.Site.{is_empty}
use Rattle.iio_device.specs.Totals.{with_left, with_lost}
use Rattle.iio_core.specs.Machine.{Member as MachineMember, MemberId, is_id_of, is_seat_of, lost_by, masks_of, member_in, scans_in, with_scans, without}
use Rattle.iio_history.specs.Who.{Who, same, is_among}
use Rattle.iio_history.specs.Registry.{is_member, mask_of_member}
use Rattle.iio_history.specs.Queue.{taken_from}
use Rattle.iio_history.specs.Told.{Seat, member_of_seat, scans_given, with_gone}
use Rattle.iio_history.specs.Machine.{read_seat, without_seats}
use Rattle.iio_history.specs.Reply.{seat_of}
use Rattle.iio_history.specs.Law.{AreApart}
use Rattle.iio_history.specs.Bench.{Every, NumbersRise, inner_of, numbered}
use Rattle.iio_history.proofs.WhoLaws.{either, same_is}
use Rattle.iio_core.proofs.PlaceLists.{itself}

-- a connection's seat; an inner member has none
abbrev pub IsSeats : Who → Type 0
IsSeats who = is_none (inner_of who) ≡ true

-- among these seats the one with the name is the one with the number, and it is this one
abbrev pub TellSame : Who → Seat → List Seat → Type 0
TellSame who y [] = Unit {0}
TellSame who y (x ∷ xs) = (same who x.member.who ≡ is_seat_of y.number (numbered x)) × (same who x.member.who ≡ true → x ≡ y) × TellSame who y xs

above : (n number : ℕ) → n < number → (number == n) ≡ false
above n number h = grind (arith, nat_tests)

apart_number : (n number : ℕ) → suc n ≤ number → (n == number) ≡ false
apart_number n number h = grind (arith, nat_tests)

-- a seat with another number isn't this one
no_seat : (x : Seat) (number : ℕ) → (x.number == number) ≡ false → is_seat_of number (numbered x) ≡ false
no_seat x number other = search rules

-- after the seat with the number there is none with its name and none with its number
behind : (who : Who) (y : Seat) (low high : ℕ) (xs : List Seat) → y.number < low → is_member who (map member_of_seat xs) ≡ false → NumbersRise low high xs
    → TellSame who y xs
behind who y low high [] below absent rising = tt
behind who y low high (x ∷ xs) below absent rising =
    let parts = either (same who x.member.who) (is_member who (map member_of_seat xs)) absent in
    let more : y.number < x.number = omega (arith, rising.0) in
    let other : same who x.member.who ≡ false = parts.0 in
    (other ∙ sym (no_seat x y.number (above y.number x.number more)), λ own. cc, behind who y (suc x.number) high xs (omega (arith, more)) parts.1 rising.1)

-- a seat that is found has a number from `low` on
found_above : (who : Who) (low high : ℕ) (xs : List Seat) (y : Seat) → NumbersRise low high xs → seat_of who xs ≡ Some y → low ≤ y.number
found_above who low high [] y rising is = cc
found_above who low high (x ∷ xs) y rising is = by_who (same who x.member.who) is (λ h. found_above who (suc x.number) high xs y rising.1 h)
  where
    by_who : (b : Bool) → cond b (Some x) (seat_of who xs) ≡ Some y → (seat_of who xs ≡ Some y → suc x.number ≤ y.number) → low ≤ y.number
    by_who b h rest = search rules

pub tell_same : (who : Who) (low high : ℕ) (xs : List Seat) (y : Seat) → IsSeats who → AreApart (map member_of_seat xs) → NumbersRise low high xs
    → seat_of who xs ≡ Some y → TellSame who y xs
tell_same who low high [] y seats apart rising is = tt
tell_same who low high (x ∷ xs) y seats apart rising is =
    by_who (same who x.member.who) refl is
    (λ h. tell_same who (suc x.number) high xs y seats apart.1 rising.1 h)
    (λ h. found_above who (suc x.number) high xs y rising.1 h)
  where
    by_who : (b : Bool) → same who x.member.who ≡ b → cond b (Some x) (seat_of who xs) ≡ Some y
        → (seat_of who xs ≡ Some y → TellSame who y xs) → (seat_of who xs ≡ Some y → suc x.number ≤ y.number)
        → TellSame who y (x ∷ xs)
    by_who b own h rest more = search (rules, same_is, is_none, itself, behind, no_seat, apart_number)

-- ---- the seat of a connection, or none

pub absent_seat : (who : Who) (xs : List Seat) → is_member who (map member_of_seat xs) ≡ false → seat_of who xs ≡ None
absent_seat who [] absent = refl
absent_seat who (x ∷ xs) absent =
    let parts = either (same who x.member.who) (is_member who (map member_of_seat xs)) absent in
    ap (λ (b : Bool). cond b (Some x) (seat_of who xs)) parts.0 ∙ absent_seat who xs parts.1

is_some_by : (b : Bool) (x : Seat) (found : Option Seat) (rest : Bool) → rest ≡ is_some found → (b || rest) ≡ is_some (cond b (Some x) found)
is_some_by b x found rest h = search rules

pub member_seat : (who : Who) (xs : List Seat) → is_member who (map member_of_seat xs) ≡ is_some (seat_of who xs)
member_seat who [] = refl
member_seat who (x ∷ xs) = is_some_by (same who x.member.who) x (seat_of who xs) (is_member who (map member_of_seat xs)) (member_seat who xs)

-- ---- what a machine finds by the number and the mask

abbrev pub id_of_seat : Seat → MemberId
id_of_seat x = record { number = x.number; mask = x.member.mask }

pub tell_id : (own : Bool) (x y : Seat) → own ≡ is_seat_of y.number (numbered x) → (own ≡ true → x ≡ y) → own ≡ is_id_of (id_of_seat y) (numbered x)
tell_id own x y tell one = search rules

scans_by : (a b : Bool) (x y : Seat) (found : Option Seat) (more : List (List ℕ)) → a ≡ b → (a ≡ true → x ≡ y) → cond a (Some x) found ≡ Some y
    → (found ≡ Some y → more ≡ y.queue.scans)
    → cond b x.queue.scans more ≡ y.queue.scans
scans_by a b x y found more p one is rest = search rules

pub scans_same : (who : Who) (y : Seat) (xs : List Seat) → TellSame who y xs → seat_of who xs ≡ Some y
    → scans_in (id_of_seat y) (map numbered xs) ≡ y.queue.scans
scans_same who y [] tell is = cc
scans_same who y (x ∷ xs) tell is =
    scans_by (same who x.member.who) (is_id_of (id_of_seat y) (numbered x)) x y (seat_of who xs) (scans_in (id_of_seat y) (map numbered xs))
    (tell_id _ x y tell.0 tell.1) tell.1 is (λ h. scans_same who y xs tell.2 h)

member_by : (a b : Bool) (x y : Seat) (found : Option Seat) (more : Option MachineMember) → a ≡ b → (a ≡ true → x ≡ y) → cond a (Some x) found ≡ Some y
    → (found ≡ Some y → more ≡ Some (numbered y))
    → cond b (Some (numbered x)) more ≡ Some (numbered y)
member_by a b x y found more p one is rest = search rules

pub member_same : (who : Who) (y : Seat) (xs : List Seat) → TellSame who y xs → seat_of who xs ≡ Some y
    → member_in (id_of_seat y) (map numbered xs) ≡ Some (numbered y)
member_same who y [] tell is = cc
member_same who y (x ∷ xs) tell is =
    member_by (same who x.member.who) (is_id_of (id_of_seat y) (numbered x)) x y (seat_of who xs) (member_in (id_of_seat y) (map numbered xs))
    (tell_id _ x y tell.0 tell.1) tell.1 is (λ h. member_same who y xs tell.2 h)

-- ---- a member leaves

pub among_one : (who x : Who) → is_among x (who ∷ []) ≡ same who x
among_one who x = search rules

left_by : (a b : Bool) (x : Seat) (rest : List Seat) (members : List MachineMember) → a ≡ b → map numbered rest ≡ members
    → map numbered (cond a rest (x ∷ rest)) ≡ cond (not b) (numbered x ∷ members) members
left_by a b x rest members p is = search rules

pub left_same : (who : Who) (y : Seat) (xs : List Seat) → TellSame who y xs → map numbered (without_seats (who ∷ []) xs) ≡ without y.number (map numbered xs)
left_same who y [] tell = refl
left_same who y (x ∷ xs) tell = search (rules, left_by, numbered, among_one, left_same who y xs tell.2)

left_none_by : (a b : Bool) (x : Seat) (found : Option Seat) (rest xs : List Seat) → a ≡ b → cond b (Some x) found ≡ None → (found ≡ None → rest ≡ xs)
    → cond a rest (x ∷ rest) ≡ x ∷ xs
left_none_by a b x found rest xs p none is = search rules

pub left_none : (who : Who) (xs : List Seat) → seat_of who xs ≡ None → without_seats (who ∷ []) xs ≡ xs
left_none who [] none = refl
left_none who (x ∷ xs) none = grind (arith, common_steps, left_none_by, same, among_one, left_none who xs)

gone_by : (a b : Bool) (x : Seat) (who : Who) (rest : List Seat) → a ≡ b → same who x.member.who ≡ b → seat_of who rest ≡ None
    → seat_of who (cond a rest (x ∷ rest)) ≡ None
gone_by a b x who rest p is none = search rules

pub gone : (who : Who) (xs : List Seat) → seat_of who (without_seats (who ∷ []) xs) ≡ None
gone who [] = refl
gone who (x ∷ xs) = search (rules, gone_by, same, among_one, gone who xs)

-- what is lost with it is counted
gone_none_by : (a b : Bool) (who : Who) (x : Seat) (found : Option Seat) (xs : List Seat) (t : Totals) → a ≡ b → cond b (Some x) found ≡ None
    → ((u : Totals) → found ≡ None → with_gone (who ∷ []) xs u ≡ u) → with_gone (who ∷ []) xs (cond a (with_lost x.queue.lost t) t) ≡ t
gone_none_by a b who x found xs t p none is = search rules

pub gone_none : (who : Who) (xs : List Seat) (t : Totals) → seat_of who xs ≡ None → with_gone (who ∷ []) xs t ≡ t
gone_none who [] t none = refl
gone_none who (x ∷ xs) t none = search (rules, gone_none_by, same, among_one, gone_none who xs)

lost_with : (a b : Bool) (who : Who) (x y : Seat) (found : Option Seat) (xs : List Seat) (more : Option ℕ) (t : Totals) → a ≡ b → cond a (Some x) found ≡ Some y
    → (a ≡ true → with_gone (who ∷ []) xs (with_lost x.queue.lost t) ≡ with_lost x.queue.lost t)
    → (found ≡ Some y → with_gone (who ∷ []) xs t ≡ with_left more t)
    → with_gone (who ∷ []) xs (cond a (with_lost x.queue.lost t) t) ≡ with_left (cond b (Some x.queue.lost) more) t
lost_with a b who x y found xs more t p is alone rest = search rules

lost_found : (b : Bool) (x : MachineMember) (o : Option MachineMember)
    → option_map (λ (z : MachineMember). z.lost) (cond b (Some x) o) ≡ cond b (Some x.lost) (option_map (λ (z : MachineMember). z.lost) o)
lost_found b x o = search rules

pub lost_same : (who : Who) (y : Seat) (xs : List Seat) (t : Totals) → AreApart (map member_of_seat xs) → TellSame who y xs → seat_of who xs ≡ Some y
    → with_gone (who ∷ []) xs t ≡ with_left (lost_by y.number (map numbered xs)) t
lost_same who y [] t apart tell is = cc
lost_same who y (x ∷ xs) t apart tell is =
    ap (λ (a : Bool). with_gone (who ∷ []) xs (cond a (with_lost x.queue.lost t) t)) (among_one who x.member.who)
    ∙ lost_with (same who x.member.who) (is_seat_of y.number (numbered x)) who x y (seat_of who xs) xs (lost_by y.number (map numbered xs)) t tell.0 is
    (λ own. gone_none who xs (with_lost x.queue.lost t)
    (absent_seat who xs (subst (λ (w : Who). is_member w (map member_of_seat xs) ≡ false) (sym (same_is who x.member.who own)) apart.0)))
    (lost_same who y xs t apart.1 tell.2)
    ∙ ap (λ (o : Option ℕ). with_left o t) (sym (lost_found (is_seat_of y.number (numbered x)) (numbered x) (find (is_seat_of y.number) (map numbered xs))))

-- ---- a member takes scans

read_none_by : (b : Bool) (x z : Seat) (found : Option Seat) (rest xs : List Seat) → cond b (Some x) found ≡ None → (found ≡ None → rest ≡ xs)
    → cond b z x ∷ rest ≡ x ∷ xs
read_none_by b x z found rest xs none is = search rules

pub read_none : (shape : ShapeRecord) (who : Who) (bytes : ℕ) (xs : List Seat) → seat_of who xs ≡ None → map (read_seat shape who bytes) xs ≡ xs
read_none shape who bytes [] none = refl
read_none shape who bytes (x ∷ xs) none = grind (arith, common_steps, read_none_by, same, read_none shape who bytes xs)

taken_by : (shape : ShapeRecord) (bytes : ℕ) (a b : Bool) (x y : Seat) (xs rest : List Seat) (found : Option Seat) (more : List MachineMember) → a ≡ b
    → (a ≡ true → x ≡ y)
    → (a ≡ true → rest ≡ xs) → (found ≡ Some y → more ≡ map numbered rest) → cond a (Some x) found ≡ Some y
    → cond b (record (numbered x) { scans = drop (bytes / scan_size shape y.member.mask) y.queue.scans } ∷ map numbered xs) (numbered x ∷ more)
    ≡ map numbered (cond a (record x { queue = taken_from (bytes / scan_size shape x.member.mask) x.queue }) x ∷ rest)
taken_by shape bytes a b x y xs rest found more p one none is h = search rules

pub taken_same : (shape : ShapeRecord) (who : Who) (bytes : ℕ) (y : Seat) (xs : List Seat) → AreApart (map member_of_seat xs) → TellSame who y xs
    → seat_of who xs ≡ Some y
    → with_scans (id_of_seat y) (drop (bytes / scan_size shape y.member.mask) y.queue.scans) (map numbered xs)
    ≡ map numbered (map (read_seat shape who bytes) xs)
taken_same shape who bytes y [] apart tell is = refl
taken_same shape who bytes y (x ∷ xs) apart tell is =
    taken_by shape bytes (same who x.member.who) (is_id_of (id_of_seat y) (numbered x)) x y xs (map (read_seat shape who bytes) xs) (seat_of who xs) _
    (tell_id _ x y tell.0 tell.1) tell.1
    (λ own. read_none shape who bytes xs
    (absent_seat who xs (subst (λ (w : Who). is_member w (map member_of_seat xs) ≡ false) (sym (same_is who x.member.who own)) apart.0)))
    (λ h. taken_same shape who bytes y xs apart.1 tell.2 h) is

-- the scans that a READBUF gives
given_by : (b : Bool) (x y : Seat) (found : Option Seat) (shape : ShapeRecord) (bytes : ℕ) (rest : List (List ℕ)) → cond b (Some x) found ≡ Some y
    → (found ≡ Some y → rest ≡ take (bytes / scan_size shape y.member.mask) y.queue.scans)
    → cond b (take (bytes / scan_size shape x.member.mask) x.queue.scans) rest ≡ take (bytes / scan_size shape y.member.mask) y.queue.scans
given_by b x y found shape bytes rest is more = search rules

pub given_same : (shape : ShapeRecord) (who : Who) (bytes : ℕ) (y : Seat) (xs : List Seat) → seat_of who xs ≡ Some y
    → scans_given shape who bytes xs ≡ take (bytes / scan_size shape y.member.mask) y.queue.scans
given_same shape who bytes y [] is = cc
given_same shape who bytes y (x ∷ xs) is = grind (arith, common_steps, given_by, same, scans_given, given_same shape who bytes y xs)

given_none_by : (b : Bool) (x : Seat) (found : Option Seat) (scans rest : List (List ℕ)) → cond b (Some x) found ≡ None → (found ≡ None → rest ≡ [])
    → cond b scans rest ≡ []
given_none_by b x found scans rest none is = search rules

pub given_none : (shape : ShapeRecord) (who : Who) (bytes : ℕ) (xs : List Seat) → seat_of who xs ≡ None → scans_given shape who bytes xs ≡ []
given_none shape who bytes [] none = refl
given_none shape who bytes (x ∷ xs) none = grind (arith, common_steps, given_none_by, same, scans_given, given_none shape who bytes xs)

-- ---- a new member, and the masks of all

pub masks_same : (xs : List Seat) → masks_of (map numbered xs) ≡ map mask_of_member (map member_of_seat xs)
masks_same [] = refl
masks_same (x ∷ xs) = ap (λ (ns : List ℕ). x.member.mask ∷ ns) (masks_same xs)

pub empty_same : (xs : List Seat) → is_empty (map numbered xs) ≡ is_empty (map mask_of_member (map member_of_seat xs))
empty_same [] = refl
empty_same (x ∷ xs) = refl

-- what holds of every seat holds of a seat that is found
pub found_sound : (who : Who) (P : Seat → Type 0) (xs : List Seat) (y : Seat) → Every P xs → seat_of who xs ≡ Some y → P y
found_sound who P [] y all is = cc
found_sound who P (x ∷ xs) y all is = search (rules, same, found_sound who P xs y all.1)
