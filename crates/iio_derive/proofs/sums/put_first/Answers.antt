use Rattle.std.proofs.Common.{rules, ◌≡◌, ℤ, pos, SFits, w64, slice_index_or, subst, sym, ◌∙◌, arith}
use Rattle.std.specs.Int.{w128}
use Rattle.std.proofs.lemmas.Int.{to_z-of_z}
use Rattle.std.proofs.lemmas.List.{get_or_default}
use Rattle.iio_derive.specs.View.{IsSum}
use Rattle.iio_derive.proofs.PlaceLemmas.{left_more, written_all, written_more}
use Rattle.iio_derive.proofs.sums.put_first.Goals as goal

pub loop-i-preserved : goal.loop-i-preserved
loop-i-preserved c =
    let values = c.args.values.now in
    let i = c.loop-i.i in
    let fits : SFits w128 c.first_sum.result = search rules in
    let element : SFits w64 (slice_index_or values i (pos 0)) = search rules in
    let value = c.first_sum.ensures.value ∙ to_z-of_z w64 (slice_index_or values i (pos 0)) element in
    rw (to_z-of_z w128 c.first_sum.result fits) (record {
      written = written_more (λ k x. (x ≡ slice_index_or values k (pos 0)) × IsSum 1 x) i c.first_sum.result c.loop-i.sums (omega arith)
          (value, c.first_sum.ensures.sum) c.loop-i.invariant.written;
      left = left_more i c.first_sum.result c.args.sums.now c.loop-i.sums c.loop-i.invariant.left;
    })

pub returns-clause-value : goal.returns-clause-value
returns-clause-value c = written_all c.loop-i.sums c.args.values.now (omega arith) (λ k less. (c.loop-i.invariant.written k (omega (arith, less))).0)

pub returns-clause-sums : goal.returns-clause-sums
returns-clause-sums c k d less =
    subst (λ (z : ℤ). IsSum 1 z) (sym (get_or_default c.loop-i.sums k d (pos 0) less)) (c.loop-i.invariant.written k (omega (arith, less))).1
