-- The inner member of an averaging device is found, and leaves.
use Rattle.std.proofs.Common.{◌≡◌, ℕ, Bool, true, false, List, [], ◌∷◌, map, Option, Some, None, refl, sym, ap, subst, ◌∙◌, arith, cond, option_map, rules}
use Rattle.std.specs.Prelude.{◌==◌, ◌||◌, not, filter, find, is_some}
use Rattle.std.specs.List.{AllByRecursion, IsDistinct, list_any}
use Rattle.std.specs.Option.{option_map_or}
use Rattle.std.proofs.lemmas.Bool.{eqb-true}
use Rattle.std.proofs.lemmas.Bool.Decides.{nat_tests}
use Rattle.iio_kfifo.specs.Queue.{Queue}
use Rattle.iio_layout.specs.Shape.{ShapeRecord}
use Rattle.iio_derive.specs.Window.{Window, no_window}
use Rattle.iio_device.specs.declared.membership.Membership.{Membership}
use Rattle.iio_device.specs.declared.totals.Totals.{Totals}
use Rattle.iio_device.specs.Site.{is_empty}
use Rattle.iio_device.specs.Totals.{with_left, with_lost}
use Rattle.iio_core.specs.Calls.{inner_gone, is_inner_of, station_after_leave, window_left, with_inner_lost}
use Rattle.iio_core.specs.Machine.{Member, Station, is_seat_of, lost_by, without}
use Rattle.iio_kinds.specs.declared.in_device.Inner.{Inner}
use Rattle.iio_kinds.specs.Inner.{AreApart, HasInners, average_of, inner_at, inners_without, number_by, number_of, with_inner_name}
use Rattle.iio_trigger.specs.Trigger.{State}
use Rattle.iio_kinds.specs.Places.{place_left}
use Rattle.iio_kinds.specs.Station.{member_of}
use Rattle.iio_kinds.proofs.InnerLemmas.{AreIdleTold, AreThereTold, empty_named, has_number, idle_told, named, there_told, told_idle, told_there}
use Rattle.iio_kinds.proofs.SeatLemmas.{all_kept, apart_false, distinct_kept}

-- ---- which averaging devices have one

bools : (a b : Bool) → (a ≡ true → b ≡ true) → (b ≡ true → a ≡ true) → a ≡ b
bools a b f g = search rules

same_number : (n : ℕ) → (n == n) ≡ true
same_number n = grind (arith, nat_tests)

-- each has the number of its averaging device
widened : (i : Inner) (all is : List Inner) → AllByRecursion (λ (k : Inner). inner_at all k.number ≡ Some k.average) is
    → AllByRecursion (λ y. (i.number == y) ≡ false) (map number_of is)
    → AllByRecursion (λ (k : Inner). inner_at (i ∷ all) k.number ≡ Some k.average) is
widened i all [] own apart = tt
widened i all (k ∷ ks) own apart = (rw apart.0 own.0, widened i all ks own.1 apart.1)

own_average : (inners : List Inner) → AreApart (map number_of inners) → AllByRecursion (λ (k : Inner). inner_at inners k.number ≡ Some k.average) inners
unfolding IsDistinct
own_average [] apart = tt
own_average (i ∷ is) apart = (rw (same_number i.number) refl, widened i is is (own_average is apart.1) apart.0)

module _ (inners : List Inner) (j : ℕ) where
  -- a member of that number is told as its inner member
  named_any : (n : ℕ) (xs : List Member) → has_number n xs ≡ true → inner_at inners n ≡ Some j
      → list_any (is_inner_of j) (map (with_inner_name inners) xs) ≡ true
  named_any n [] has e = absurd (cc)
  named_any n (x ∷ xs) has e = by (x.number == n) refl has (λ h. named_any n xs h e)
    where
      by : (b : Bool) → (x.number == n) ≡ b → (b || has_number n xs) ≡ true
          → (has_number n xs ≡ true → list_any (is_inner_of j) (map (with_inner_name inners) xs) ≡ true)
          → (is_inner_of j (with_inner_name inners x) || list_any (is_inner_of j) (map (with_inner_name inners) xs)) ≡ true
      by b own h later = search rules

  any_told : (xs : List Member) (is : List Inner) → AllByRecursion (λ (k : Inner). inner_at inners k.number ≡ Some k.average) is → AreThereTold xs is
      → list_any (λ (i : Inner). i.average == j) is ≡ true
      → list_any (is_inner_of j) (map (with_inner_name inners) xs) ≡ true
  any_told xs [] own there e = absurd (cc)
  any_told xs (i ∷ is) own there e = by (i.average == j) refl e (λ f. any_told xs is own.1 there.1 f)
    where
      by : (b : Bool) → (i.average == j) ≡ b → (b || list_any (λ (k : Inner). k.average == j) is) ≡ true
          → (list_any (λ (k : Inner). k.average == j) is ≡ true → list_any (is_inner_of j) (map (with_inner_name inners) xs) ≡ true)
          → list_any (is_inner_of j) (map (with_inner_name inners) xs) ≡ true
      by b q h later = search (rules, named_any)

at_average : (inners : List Inner) (n j : ℕ) → option_map_or (λ (i : ℕ). i == j) (inner_at inners n) false ≡ true
    → list_any (λ (i : Inner). i.average == j) inners ≡ true
at_average [] n j e = absurd (cc)
at_average (i ∷ is) n j e = search (rules, at_average is n j)

told_any : (inners : List Inner) (j : ℕ) (xs : List Member) → list_any (is_inner_of j) (map (with_inner_name inners) xs) ≡ true
    → list_any (λ (i : Inner). i.average == j) inners ≡ true
told_any inners j [] e = absurd (cc)
told_any inners j (x ∷ xs) e = search (rules, at_average, told_any inners j xs)

-- whether there is an inner member, as it is told
pub any_inner : (inners : List Inner) (j : ℕ) (xs : List Member) → AreThereTold xs inners → AreApart (map number_of inners)
    → list_any (λ (i : Inner). i.average == j) inners ≡ list_any (is_inner_of j) (map (with_inner_name inners) xs)
any_inner inners j xs there once = bools _ _ (any_told inners j xs inners (own_average inners once) there) (told_any inners j xs)

-- ---- if there is none

module _ (j : ℕ) where
  none_kept : (xs : List Member) → list_any (is_inner_of j) xs ≡ false → filter (λ (x : Member). not (is_inner_of j x)) xs ≡ xs
  none_kept [] e = refl
  none_kept (x ∷ xs) e = search (rules, none_kept xs)

  none_lost : (xs : List Member) (t : Totals) → list_any (is_inner_of j) xs ≡ false → with_inner_lost j xs t ≡ t
  none_lost [] t e = refl
  none_lost (x ∷ xs) t e = by (is_inner_of j x) e (λ f. none_lost xs t f)
    where
      by : (b : Bool) → (b || list_any (is_inner_of j) xs) ≡ false → (list_any (is_inner_of j) xs ≡ false → with_inner_lost j xs t ≡ t)
          → with_inner_lost j xs (cond b (with_lost x.lost t) t) ≡ t
      by b f later = search rules

stays_by : (ms : List Member) (w : Window) → w ≡ window_left ms ms w
stays_by ms w = search rules

pub nobody_gone : (j : ℕ) (st : Station) → list_any (is_inner_of j) st.members ≡ false → st ≡ inner_gone j st
nobody_gone j st none =
    rw (none_kept j st.members none, none_lost j st.members st.totals none)
    (ap (λ (w : Window). (let x : Station = record st { window = w } in x)) (stays_by st.members st.window))

pub number_any : (inners : List Inner) (j : ℕ) → is_some (number_by j inners) ≡ list_any (λ (i : Inner). i.average == j) inners
number_any [] j = refl
number_any (i ∷ is) j = search (rules, number_any is j)

number_none : (inners : List Inner) (j : ℕ) → number_by j inners ≡ None → list_any (λ (i : Inner). i.average == j) inners ≡ false
number_none [] j e = refl
number_none (i ∷ is) j e = search (rules, number_none is j)

pub nobody_inner : (inners : List Inner) (j : ℕ) (st : Station) → number_by j inners ≡ None → AreThereTold st.members inners → AreApart (map number_of inners)
    → named inners st ≡ inner_gone j (named inners st)
nobody_inner inners j st e there once = nobody_gone j (named inners st) (sym (any_inner inners j st.members there once) ∙ number_none inners j e)

-- ---- if there is one

all_others : (j : ℕ) (is : List Inner) → AllByRecursion (λ y. (j == y) ≡ false) (map average_of is) → inners_without j is ≡ is
all_others j [] apart = refl
all_others j (i ∷ is) apart = search (rules, all_others j is apart.1)

-- it is the only member whose averaging device is that one
module _ (j n : ℕ) where
  found_in : (P : ℕ → Type 0) (inners : List Inner) → number_by j inners ≡ Some n → AllByRecursion P (map number_of inners) → P n
  found_in P [] e all = absurd (cc)
  found_in P (i ∷ is) e all = by (i.average == j) e (λ f. found_in P is f all.1)
    where
      by : (b : Bool) → option_map number_of (cond b (Some i) (find (λ (k : Inner). k.average == j) is)) ≡ Some n → (number_by j is ≡ Some n → P n) → P n
      by b f later = search rules

  unfound : (is : List Inner) (k : ℕ) → AllByRecursion (λ y. (j == y) ≡ false) (map average_of is)
      → option_map_or (λ (i : ℕ). i == j) (inner_at is k) false ≡ false
  unfound [] k apart = refl
  unfound (i ∷ is) k apart = search (rules, unfound is k apart.1)

  is_that : (inners : List Inner) (k : ℕ) → number_by j inners ≡ Some n → AreApart (map average_of inners) → AreApart (map number_of inners)
      → option_map_or (λ (i : ℕ). i == j) (inner_at inners k) false ≡ (k == n)
  unfolding IsDistinct
  is_that [] k e apart once = absurd (cc)
  is_that (i ∷ is) k e apart once = by (i.average == j) (i.number == k) refl refl e (λ f. is_that is k f apart.1 once.1)
    where
      by : (a b : Bool) → (i.average == j) ≡ a → (i.number == k) ≡ b → option_map number_of (cond a (Some i) (find (λ (x : Inner). x.average == j) is)) ≡ Some n
          → (number_by j is ≡ Some n → option_map_or (λ (x : ℕ). x == j) (inner_at is k) false ≡ (k == n))
          → option_map_or (λ (x : ℕ). x == j) (option_map average_of (cond b (Some i) (find (λ (y : Inner). y.number == k) is))) false ≡ (k == n)
      by true true q r f later = search rules
      by true false q r f later =
          let same : i.number ≡ n = cc in
          let other : (k == n) ≡ false = apart_false k n (λ e. let own : (i.number == k) ≡ true = grind (arith, nat_tests) in cc) in
          unfound is k (subst (λ (x : ℕ). AllByRecursion (λ y. (x == y) ≡ false) (map average_of is)) (eqb-true i.average j q) apart.0) ∙ sym other
      by false true q r f later =
          let far : (i.number == n) ≡ false = found_in (λ y. (i.number == y) ≡ false) is f once.0 in
          let other : (k == n) ≡ false = subst (λ (x : ℕ). (x == n) ≡ false) (eqb-true i.number k r) far in
          q ∙ sym other
      by false false q r f later = later f

  -- the other members are told as before
  kept_inner : (inners : List Inner) (k : ℕ) → number_by j inners ≡ Some n → (k == n) ≡ false → AreApart (map average_of inners)
      → inner_at (inners_without j inners) k ≡ inner_at inners k
  unfolding IsDistinct
  kept_inner [] k e other apart = refl
  kept_inner (i ∷ is) k e other apart = by (i.average == j) (i.number == k) refl refl e (λ f. kept_inner is k f other apart.1)
    where
      by : (a b : Bool) → (i.average == j) ≡ a → (i.number == k) ≡ b → option_map number_of (cond a (Some i) (find (λ (x : Inner). x.average == j) is)) ≡ Some n
          → (number_by j is ≡ Some n → inner_at (inners_without j is) k ≡ inner_at is k)
          → inner_at (cond (not a) (i ∷ inners_without j is) (inners_without j is)) k
          ≡ option_map average_of (cond b (Some i) (find (λ (y : Inner). y.number == k) is))
      by true true q r f later = search rules
      by true false q r f later =
          ap (λ (xs : List Inner). inner_at xs k)
          (all_others j is (subst (λ (x : ℕ). AllByRecursion (λ y. (x == y) ≡ false) (map average_of is)) (eqb-true i.average j q) apart.0))
      by false true q r f later = rw r refl
      by false false q r f later = rw r (later f)

  module _ (inners : List Inner) (e : number_by j inners ≡ Some n) (apart : AreApart (map average_of inners)) (once : AreApart (map number_of inners)) where
    abbrev left_ones : List Inner
    left_ones = inners_without j inners

    named_other : (x : Member) → (x.number == n) ≡ false → with_inner_name left_ones x ≡ with_inner_name inners x
    named_other x other = ap (λ (o : Option ℕ). (let y : Member = record x { inner = o } in y)) (kept_inner inners x.number e other apart)

    members_gone : (ms : List (Membership Queue))
        → map (with_inner_name left_ones) (without n (map member_of ms))
        ≡ filter (λ (x : Member). not (is_inner_of j x)) (map (with_inner_name inners) (map member_of ms))
    members_gone [] = refl
    members_gone (m ∷ ms) = by (m.number == n) refl (is_that inners m.number e apart once) (members_gone ms)
      where
        by : (b : Bool) → (m.number == n) ≡ b → is_inner_of j (with_inner_name inners (member_of m)) ≡ (m.number == n)
            → map (with_inner_name left_ones) (without n (map member_of ms))
            ≡ filter (λ (y : Member). not (is_inner_of j y)) (map (with_inner_name inners) (map member_of ms))
            → map (with_inner_name left_ones) (cond (not b) (member_of m ∷ without n (map member_of ms)) (without n (map member_of ms)))
            ≡ cond (not (is_inner_of j (with_inner_name inners (member_of m))))
            (with_inner_name inners (member_of m) ∷ filter (λ (y : Member). not (is_inner_of j y)) (map (with_inner_name inners) (map member_of ms)))
            (filter (λ (y : Member). not (is_inner_of j y)) (map (with_inner_name inners) (map member_of ms)))
        by true q is rest = let own : is_inner_of j (with_inner_name inners (member_of m)) ≡ true = is ∙ q in rw own rest
        by false q is rest =
            let other : is_inner_of j (with_inner_name inners (member_of m)) ≡ false = is ∙ q in
            rw other (ap (λ (y : Member). y ∷ map (with_inner_name left_ones) (without n (map member_of ms))) (named_other (member_of m) q)
            ∙ ap (λ (ys : List Member). with_inner_name inners (member_of m) ∷ ys) rest)

    none_more : (xs : List Member) (t : Totals) → AllByRecursion (λ y. (n == y) ≡ false) (map (λ (x : Member). x.number) xs)
        → with_inner_lost j (map (with_inner_name inners) xs) t ≡ t
    none_more [] t all = refl
    none_more (x ∷ xs) t all = search (rules, is_that, none_more xs t all.1)

    totals_gone : (ms : List (Membership Queue)) (t : Totals) → AreApart (map (λ (x : Member). x.number) (map member_of ms))
        → with_left (lost_by n (map member_of ms)) t ≡ with_inner_lost j (map (with_inner_name inners) (map member_of ms)) t
    unfolding IsDistinct
    totals_gone [] t numbers = refl
    totals_gone (m ∷ ms) t numbers = by (m.number == n) refl (is_that inners m.number e apart once) (totals_gone ms t numbers.1)
      where
        by : (b : Bool) → (m.number == n) ≡ b → is_inner_of j (with_inner_name inners (member_of m)) ≡ (m.number == n)
            → with_left (lost_by n (map member_of ms)) t ≡ with_inner_lost j (map (with_inner_name inners) (map member_of ms)) t
            → with_left (option_map (λ (y : Member). y.lost) (cond b (Some (member_of m)) (find (is_seat_of n) (map member_of ms)))) t
            ≡ with_inner_lost j (map (with_inner_name inners) (map member_of ms))
            (cond (is_inner_of j (with_inner_name inners (member_of m))) (with_lost m.tail.lost t) t)
        by true q is rest =
            let own : is_inner_of j (with_inner_name inners (member_of m)) ≡ true = is ∙ q in
            rw own (sym (none_more (map member_of ms) (with_lost m.tail.lost t)
            (subst (λ (k : ℕ). AllByRecursion (λ y. (k == y) ≡ false) (map (λ (y : Member). y.number) (map member_of ms))) (eqb-true m.number n q) numbers.0)))
        by false q is rest = let other : is_inner_of j (with_inner_name inners (member_of m)) ≡ false = is ∙ q in rw other rest

    pub one_gone : (st : Station) (ms : List (Membership Queue)) → st.members ≡ map member_of ms → st.window ≡ no_window
        → AreApart (map (λ (x : Member). x.number) (map member_of ms)) → named left_ones (station_after_leave n st) ≡ inner_gone j (named inners st)
    one_gone st ms of new numbers = search (rules, members_gone, totals_gone)

    -- ---- what holds afterwards

    kept_number : (i : ℕ) (ms : List (Membership Queue)) → (i == n) ≡ false → has_number i (map member_of ms) ≡ true
        → has_number i (without n (map member_of ms)) ≡ true
    kept_number i [] other has = has
    kept_number i (m ∷ ms) other has = search (rules, kept_number i ms other)

    -- each inner member that is left has another number
    others_left : (is : List Inner) → AllByRecursion (λ (k : Inner). inner_at inners k.number ≡ Some k.average) is
        → AllByRecursion (λ (k : Inner). (k.number == n) ≡ false) (inners_without j is)
    others_left [] own = tt
    others_left (i ∷ is) own = by (i.average == j) refl (others_left is own.1)
      where
        by : (b : Bool) → (i.average == j) ≡ b → AllByRecursion (λ (k : Inner). (k.number == n) ≡ false) (inners_without j is)
            → AllByRecursion (λ (k : Inner). (k.number == n) ≡ false) (cond (not b) (i ∷ inners_without j is) (inners_without j is))
        by true q rest = rest
        by false q rest =
            let here : (i.number == n) ≡ false =
            sym (is_that inners i.number e apart once) ∙ ap (λ (o : Option ℕ). option_map_or (λ (k : ℕ). k == j) o false) own.0 ∙ q in
            (here, rest)

    there_left : (ms : List (Membership Queue)) (is : List Inner) → AllByRecursion (λ (k : Inner). (k.number == n) ≡ false) is
        → AreThereTold (map member_of ms) is → AreThereTold (without n (map member_of ms)) is
    there_left ms [] other there = tt
    there_left ms (i ∷ is) other there = (kept_number i.number ms other.0 there.0, there_left ms is other.1 there.1)

    idle_left : (shape : ShapeRecord) (ms : List (Membership Queue)) → AreIdleTold shape inners (map member_of ms)
        → AreIdleTold shape left_ones (without n (map member_of ms))
    idle_left shape [] all = tt
    idle_left shape (m ∷ ms) all = by (m.number == n) refl (idle_left shape ms all.1)
      where
        by : (b : Bool) → (m.number == n) ≡ b → AreIdleTold shape left_ones (without n (map member_of ms))
            → AreIdleTold shape left_ones (cond (not b) (member_of m ∷ without n (map member_of ms)) (without n (map member_of ms)))
        by true q rest = rest
        by false q rest = ((λ own. all.0 (ap (λ (o : Option ℕ). is_some o) (sym (kept_inner inners m.number e q apart)) ∙ own)), rest)

    fewer : (is : List Inner) → is_empty (inners_without j is) ≡ false → is_empty is ≡ false
    fewer is f = search rules

    pub gone_facts : (shape shape' : ShapeRecord) (room : List ℕ) (ms ms' : List (Membership Queue)) → shape' ≡ shape
        → map member_of ms' ≡ without n (map member_of ms) → HasInners shape ms inners room → HasInners shape' ms' left_ones room
    gone_facts shape shape' room ms ms' same told sound = subst (λ (s : ShapeRecord). HasInners s ms' left_ones room) (sym same) (record {
      idle = told_idle shape left_ones ms' (subst (AreIdleTold shape left_ones) (sym told) (idle_left shape ms (idle_told shape inners ms sound.idle)));
      there = search (rules, told_there, there_left, others_left, own_average, all_kept, there_told);
      once = distinct_kept (λ (i : Inner). not (i.average == j)) number_of inners once;
      apart = distinct_kept (λ (i : Inner). not (i.average == j)) average_of inners apart;
      roomy = λ some. sound.roomy (fewer inners some);
      types = sound.types;
    })

numbers_same : (ms : List (Membership Queue)) → map (λ (x : Member). x.number) (map member_of ms) ≡ map (λ (m : Membership Queue). m.number) ms
numbers_same [] = refl
numbers_same (m ∷ ms) = ap (λ (ns : List ℕ). m.number ∷ ns) (numbers_same ms)

pub numbers_told : (ms : List (Membership Queue)) → AreApart (map (λ (m : Membership Queue). m.number) ms)
    → AreApart (map (λ (x : Member). x.number) (map member_of ms))
numbers_told ms apart = subst AreApart (sym (numbers_same ms)) apart

-- a place is freed in the same way
pub place_between : (inners inners' : List Inner) (number : ℕ) (before after : Station) (s : State)
    → place_left number (named inners before) (named inners' after) s ≡ place_left number before after s
place_between inners inners' number before after s = rw (empty_named inners before.members, empty_named inners' after.members) refl
