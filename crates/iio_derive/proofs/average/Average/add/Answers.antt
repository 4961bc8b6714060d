use Rattle.std.proofs.Common.{rules, ◌≡◌, ◌+◌, ◌≤◌, ℕ, ℤ, List, Option, SFits, w64, slice_index_or, length, ap, sym, subst, refl, ◌∙◌, arith}
use Rattle.std.proofs.lemmas.Grind.{common_steps}
use Rattle.std.proofs.lemmas.List.{with_items_is}
use Rattle.std.proofs.lemmas.Int.{to_z-of_z}
use Rattle.iio_derive.specs.declared.members.Membership.{Membership}
use Rattle.iio_derive.specs.Average.{AverageRecord}
use Rattle.iio_derive.specs.Members.{SeatOffered, member_at, member_count}
use Rattle.iio_derive.specs.Values.{moment_in, value_in, values_in}
use Rattle.iio_derive.specs.Window.{Window, means_of, sums_by, sums_with}
use Rattle.iio_derive.specs.View.{IsSum, window_of}
use Rattle.iio_derive.proofs.ReadLemmas.{length-values}
use Rattle.iio_derive.proofs.MeanLemmas.{adds_means, filled_at, kept_sums, kept_window, unfilled_at}
use Rattle.iio_derive.proofs.average.Average.add.Goals as goal

pub add_values-requires-clause-same : goal.add_values-requires-clause-same
add_values-requires-clause-same c =
    let a = c.self.inside in
    let wide = length-values a.shape (value_in a.shape c.args.scan.now) in
    ap length c.deref_mut.ensures.value ∙ c.self.invariant.width ∙ sym wide ∙ sym (ap length (c.deref.ensures.value ∙ c.read_values.ensures.values))

pub put_means-requires-clause-same : goal.put_means-requires-clause-same
put_means-requires-clause-same c =
    let a = c.self.inside in
    let wide = length-values a.shape (value_in a.shape c.args.scan.now) in
    let kept = with_items_is a.sums c.add_values.new.sums (c.add_values.auto.sums ∙ c.deref_mut.ensures.len) in
    ap length (c.deref_mut-2.ensures.value ∙ c.read_values.ensures.values) ∙ wide ∙ sym c.self.invariant.width
    ∙ sym (ap length (c.deref-2.ensures.value ∙ kept) ∙ c.add_values.auto.sums ∙ ap length c.deref_mut.ensures.value)

pub put_means-requires-clause-sums : goal.put_means-requires-clause-sums
put_means-requires-clause-sums c k d less =
    let a = c.self.inside in
    let kept = with_items_is a.sums c.add_values.new.sums (c.add_values.auto.sums ∙ c.deref_mut.ensures.len) in
    let there = c.deref-2.ensures.value ∙ kept in
    let full : a.count + 1 ≡ a.size = (let counted = c.self.invariant.counted in omega (arith, counted)) in
    let long = ap length there in
    subst (λ (n : ℕ). IsSum n (slice_index_or c.deref-2.result.now k d)) full
    (subst (λ (xs : List ℤ). IsSum (a.count + 1) (slice_index_or xs k d)) (sym there) (c.add_values.ensures.sums k d (omega (arith, less, long))))

pub invariant_of-self-2 : goal.invariant_of-self-2
invariant_of-self-2 c =
    let a = c.self.inside in
    let inv = c.self.invariant in
    let kept = with_items_is a.sums c.add_values.new.sums (c.add_values.auto.sums ∙ c.deref_mut.ensures.len) in
    let room = with_items_is a.room c.offer_all.new.room (c.offer_all.auto.room ∙ c.deref_mut-3.ensures.len) in
    let roomy = ap length room ∙ c.offer_all.auto.room ∙ ap length c.deref_mut-3.ensures.value in
    let few = c.offer_all.ensures.same in
    record {
      low = inv.low;
      high = inv.high;
      counted = (let low = inv.low in omega (arith, low));
      placed = inv.placed;
      width = ap length kept ∙ c.add_values.auto.sums ∙ ap length c.deref_mut.ensures.value ∙ inv.width;
      summed = λ none. absurd (omega (arith, none));
      read = (let read = inv.read in let more = c.read_values.ensures.room in omega (arith, read, more));
      roomy = (let there = inv.roomy in omega (arith, there, roomy));
      few = (let there = inv.few in omega (arith, there, few));
      sized = c.offer_all.ensures.sized;
    }

pub returns-clause-adds : goal.returns-clause-adds
returns-clause-adds c =
    let a = c.self.inside in
    let full : a.count + 1 ≡ a.size = (let counted = c.self.invariant.counted in omega (arith, counted)) in
    let shape = a.shape in
    let values = values_in shape c.args.scan.now in
    let kept = with_items_is a.sums c.add_values.new.sums (c.add_values.auto.sums ∙ c.deref_mut.ensures.len) in
    let sums : c.add_values.new.sums ≡ sums_by a.count a.sums.items values
    = c.add_values.ensures.value ∙ ap (λ (xs : List ℤ). sums_by a.count xs c.deref.result.now) c.deref_mut.ensures.value
    ∙ ap (λ (xs : List ℤ). sums_by a.count a.sums.items xs) (c.deref.ensures.value ∙ c.read_values.ensures.values) in
    let means : c.put_means.new.values ≡ means_of a.size (sums_with (window_of a.count a.sums.items) values)
    = c.put_means.ensures ∙ ap (λ (xs : List ℤ). means_of a.size xs) (c.deref-2.ensures.value ∙ kept ∙ sums ∙ kept_sums a.count a.sums.items values) in
    let stood = with_items_is c.read_values.new.values c.put_means.new.values (c.put_means.auto.values ∙ c.deref_mut-2.ensures.len) in
    let given = c.deref-4.ensures.value ∙ stood ∙ means in
    let fits : SFits w64 c.read_moment-t.result = search rules in
    let moment = to_z-of_z w64 c.read_moment-t.result fits ∙ c.read_moment-t.ensures in
    rw (← c.self.view_is) (
      filled_at a.size a.count a.sums.items full,
      c.member_count-count.ensures.value ∙ ap (λ (seats : List (Option Membership)). member_count seats) c.deref-3.ensures.value,
      λ number.
          subst (λ (vs : List ℤ). SeatOffered shape vs (moment_in shape c.args.scan.now) (member_at number a.seats.items)
          (member_at number c.offer_all.new.seats.items)) given
          (subst (λ (t : ℤ). SeatOffered shape c.deref-4.result.now t (member_at number a.seats.items) (member_at number c.offer_all.new.seats.items)) moment
          (c.offer_all.ensures.offered number)),
      refl,
    )

pub returns-clause-averaged : goal.returns-clause-averaged
returns-clause-averaged c captures is =
    let low : 1 ≤ c.args.self.now.size = (let low = c.self.invariant.low in rw (← c.self.view_is) (omega (arith, low))) in
    adds_means c.args.scan.now _ c.args.self.now _ captures low (returns-clause-adds c) is

pub returns-then-self-clause-adds : goal.returns-then-self-clause-adds
returns-then-self-clause-adds c =
    let a = c.self.inside in
    let shape = a.shape in
    let values = values_in shape c.args.scan.now in
    let kept = with_items_is a.sums c.add_values.new.sums (c.add_values.auto.sums ∙ c.deref_mut.ensures.len) in
    let sums : c.add_values.new.sums ≡ sums_by a.count a.sums.items values
    = c.add_values.ensures.value ∙ ap (λ (xs : List ℤ). sums_by a.count xs c.deref.result.now) c.deref_mut.ensures.value
    ∙ ap (λ (xs : List ℤ). sums_by a.count a.sums.items xs) (c.deref.ensures.value ∙ c.read_values.ensures.values) in
    let with_window : Window → AverageRecord = λ w. record { shape = shape; size = a.size; window = w; seats = a.seats.items } in
    rw (← c.self.view_is) (
      unfilled_at a.size a.count a.sums.items (omega arith),
      ap (λ (xs : List ℤ). with_window (window_of (a.count + 1) xs)) (kept ∙ sums) ∙ ap with_window (kept_window a.count a.sums.items values),
    )

pub returns-then-self-clause-averaged : goal.returns-then-self-clause-averaged
returns-then-self-clause-averaged c captures is =
    let low : 1 ≤ c.args.self.now.size = (let low = c.self.invariant.low in rw (← c.self.view_is) (omega (arith, low))) in
    adds_means c.args.scan.now _ c.args.self.now _ captures low (returns-then-self-clause-adds c) is

pub invariant_of-self : goal.invariant_of-self
invariant_of-self c = grind (arith, common_steps)

pub offer_all-requires-clause-width : goal.offer_all-requires-clause-width
offer_all-requires-clause-width c = grind (arith, common_steps)
