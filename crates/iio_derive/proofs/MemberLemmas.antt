-- Members to which the scans of a mean are offered one by one.
use Rattle.std.proofs.Common.{◌≡◌, inl, inr, ℕ, ◌+◌, ◌<◌, ◌≤◌, List, Option, Some, None, IfSome, slice_index_or, ℤ, length, sym, ap, ◌∙◌, subst, arith}
use Rattle.std.proofs.lemmas.Bool.{cases_eq}
use Rattle.std.proofs.lemmas.List.{get_or-set_same, get_or-set_other, get_or_default, length-set, set-get_or}
use Rattle.std.proofs.Math.ListN.{set}
use Rattle.iio_layout.specs.Scan.{scan_of}
use Rattle.iio_layout.specs.Shape.{ShapeRecord}
use Rattle.iio_kfifo.specs.Queue.{Offers, Queue}
use Rattle.iio_kfifo.specs.declared.tail.Offered.{Offered}
use Rattle.iio_kfifo.specs.declared.tail.Offered.TheVariants.{Taken, Lost}
use Rattle.iio_derive.specs.declared.members.Membership.{Membership}
use Rattle.iio_derive.specs.Members.{SeatOffered, WasOffered, member_at}
use Rattle.iio_derive.specs.Sized.{IsSized}
use Rattle.iio_derive.specs.View.{AreSized}

-- the members before place i were offered their scans, and those from it on are as they were
pub record Offering (shape : ShapeRecord) (values : List ℤ) (t : ℤ) (i : ℕ) (old seats : List (Option Membership)) : Type 0 where
  pub offered : (k : ℕ) → k < i → SeatOffered shape values t (member_at k old) (member_at k seats)
  pub left : (k : ℕ) → i ≤ k → member_at k seats ≡ member_at k old
  pub sized : AreSized shape seats
  pub same : length seats ≡ length old

-- a member that was offered a scan has scans of the size that it had
offered_size : (scan : List ℕ) (q q' : Queue) (answer : Offered) → Offers q scan answer q' → q'.size ≡ q.size
offered_size scan q q' Taken h = ap (λ (x : Queue). x.size) h.1
offered_size scan q q' Lost h = ap (λ (x : Queue). x.size) h.1

sized_offered : (shape : ShapeRecord) (scan : List ℕ) (m m' : Membership) → IsSized shape m → WasOffered scan m m' → IsSized shape m'
sized_offered shape scan m m' sized offered =
    let size = offered_size scan m.queue m'.queue offered.answer offered.offered in
    rw offered.same (record { below = sized.below; size = size ∙ sized.size; few = rw size sized.few })

-- the member at place i is offered its own scan
pub offered_more : (shape : ShapeRecord) (values : List ℤ) (t : ℤ) (i : ℕ) (old seats : List (Option Membership)) (m m' : Membership) → i < length seats
    → Offering shape values t i old seats → member_at i seats ≡ Some m → WasOffered (scan_of shape m.mask.bits values t) m m'
    → Offering shape values t (i + 1) old (set seats i (Some m'))
offered_more shape values t i old seats m m' less before is offer = record {
  offered = λ k within. elim (cases_eq k i) [
    | inl same ↦
        subst (λ (j : ℕ). SeatOffered shape values t (member_at j old) (member_at j (set seats i (Some m')))) (sym same)
        (subst (λ (o : Option Membership). SeatOffered shape values t o (member_at i (set seats i (Some m')))) (sym is ∙ before.left i (omega arith))
        (subst (λ (o : Option Membership). SeatOffered shape values t (Some m) o) (sym (get_or-set_same seats i (Some m') None less)) offer))
    | inr other ↦
        subst (λ (o : Option Membership). SeatOffered shape values t (member_at k old) o) (sym (get_or-set_other seats i k (Some m') None other))
        (before.offered k (omega (arith, within, other)))
  ];
  left = λ k more. get_or-set_other seats i k (Some m') None (λ same. absurd (omega (arith, same, more))) ∙ before.left k (omega (arith, more));
  sized = λ k. elim (cases_eq k i) [
    | inl same ↦
        subst (λ (j : ℕ). IfSome (member_at j (set seats i (Some m'))) (λ x. IsSized shape x)) (sym same)
        (subst (λ (o : Option Membership). IfSome o (λ x. IsSized shape x)) (sym (get_or-set_same seats i (Some m') None less))
        (sized_offered shape _ m m' (subst (λ (o : Option Membership). IfSome o (λ x. IsSized shape x)) is (before.sized i)) offer))
    | inr other ↦ subst (λ (o : Option Membership). IfSome o (λ x. IsSized shape x)) (sym (get_or-set_other seats i k (Some m') None other)) (before.sized k)
  ];
  same = length-set seats i (Some m') ∙ before.same;
}

-- there is no member at place i
passed : (shape : ShapeRecord) (values : List ℤ) (t : ℤ) (i : ℕ) (old seats : List (Option Membership))
    → Offering shape values t i old seats → member_at i seats ≡ None → Offering shape values t (i + 1) old seats
passed shape values t i old seats before is = record {
  offered = λ k within. elim (cases_eq k i) [
    | inl same ↦
        subst (λ (j : ℕ). SeatOffered shape values t (member_at j old) (member_at j seats)) (sym same)
        (subst (λ (o : Option Membership). SeatOffered shape values t o (member_at i seats)) (sym is ∙ before.left i (omega arith)) is)
    | inr other ↦ before.offered k (omega (arith, within, other))
  ];
  left = λ k more. before.left k (omega (arith, more));
  sized = before.sized;
  same = before.same;
}

pub offered_none : (shape : ShapeRecord) (values : List ℤ) (t : ℤ) (i : ℕ) (old seats : List (Option Membership))
    → Offering shape values t i old seats → member_at i seats ≡ None → Offering shape values t (i + 1) old (set seats i None)
offered_none shape values t i old seats before is =
    let kept : set seats i None ≡ seats = ap (λ (o : Option Membership). set seats i o) (sym is) ∙ set-get_or seats i None in
    subst (λ (xs : List (Option Membership)). Offering shape values t (i + 1) old xs) (sym kept) (passed shape values t i old seats before is)

-- what stands at a place, as a read of it says
pub member_read : (seats : List (Option Membership)) (i : ℕ) (seat o : Option Membership) → i < length seats → seat ≡ slice_index_or seats i seat → seat ≡ o
    → member_at i seats ≡ o
member_read seats i seat o less read is = get_or_default seats i None seat less ∙ sym read ∙ is
