use Rattle.std.proofs.Common.{rules, ◌≡◌, ℤ, pos, ◌+ℤ◌, ◌+◌, SFits, w64, slice_index_or, length, ap, subst, sym, ◌∙◌, arith}
use Rattle.std.specs.Int.{w128}
use Rattle.std.proofs.lemmas.Int.{to_z-of_z}
use Rattle.std.proofs.lemmas.List.{get_or_default}
use Rattle.iio_derive.specs.View.{IsSum}
use Rattle.iio_derive.specs.Window.{added}
use Rattle.iio_derive.proofs.PlaceLemmas.{get-added, left_more, length-added, written_all, written_more}
use Rattle.iio_derive.proofs.sums.add_more.Goals as goal

pub sum_with-requires-clause-sum : goal.sum_with-requires-clause-sum
sum_with-requires-clause-sum c =
    let i = c.loop-i.i in
    let before : SFits w128 (slice_index_or c.loop-i.sums i (pos 0)) = search rules in
    let here = c.loop-i.invariant.left i (omega arith) in
    rw (to_z-of_z w128 (slice_index_or c.loop-i.sums i (pos 0)) before) (rw here (c.requires.sums i (pos 0) (omega arith)))

pub loop-i-preserved : goal.loop-i-preserved
loop-i-preserved c =
    let values = c.args.values.now in
    let sums = c.args.sums.now in
    let i = c.loop-i.i in
    let here = c.loop-i.invariant.left i (omega arith) in
    let fits : SFits w128 c.sum_with.result = search rules in
    let element : SFits w64 (slice_index_or values i (pos 0)) = search rules in
    let before : SFits w128 (slice_index_or c.loop-i.sums i (pos 0)) = search rules in
    let plain = simp to_z-of_z at c.sum_with.ensures.value in
    let value = plain ∙ ap (λ (z : ℤ). slice_index_or values i (pos 0) +ℤ z) here in
    rw (to_z-of_z w128 c.sum_with.result fits) (record {
      written =
          written_more (λ k x. (x ≡ slice_index_or values k (pos 0) +ℤ slice_index_or sums k (pos 0)) × IsSum (c.args.count + 1) x) i c.sum_with.result
          c.loop-i.sums (omega arith)
          (value, c.sum_with.ensures.sum) c.loop-i.invariant.written;
      left = left_more i c.sum_with.result sums c.loop-i.sums c.loop-i.invariant.left;
    })

pub returns-clause-value : goal.returns-clause-value
returns-clause-value c =
    let values = c.args.values.now in
    let sums = c.args.sums.now in
    let same : length values ≡ length sums = sym c.requires.same in
    written_all c.loop-i.sums (added values sums) (omega (arith, length-added values sums same)) (λ k less.
    (c.loop-i.invariant.written k (omega (arith, less))).0 ∙ sym (get-added values sums k same (omega (arith, less))))

pub returns-clause-sums : goal.returns-clause-sums
returns-clause-sums c k d less =
    subst (λ (z : ℤ). IsSum (c.args.count + 1) z) (sym (get_or_default c.loop-i.sums k d (pos 0) less)) (c.loop-i.invariant.written k (omega (arith, less))).1
