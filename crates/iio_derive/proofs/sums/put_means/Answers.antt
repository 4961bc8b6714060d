use Rattle.std.proofs.Common.{rules, ◌≡◌, ℤ, pos, SFits, w64, slice_index_or, ap, sym, ◌∙◌, arith}
use Rattle.std.specs.Int.{w128}
use Rattle.std.specs.Prelude.{int_div}
use Rattle.std.proofs.lemmas.Int.{to_z-of_z}
use Rattle.std.proofs.lemmas.List.{get_or-map, length-map}
use Rattle.iio_derive.specs.Window.{means_of}
use Rattle.iio_derive.proofs.PlaceLemmas.{left_more, written_all, written_more}
use Rattle.iio_derive.proofs.sums.put_means.Goals as goal

pub loop-i-preserved : goal.loop-i-preserved
loop-i-preserved c =
    let sums = c.args.sums.now in
    let i = c.loop-i.i in
    let fits : SFits w64 c.mean_of.result = search rules in
    let before : SFits w128 (slice_index_or sums i (pos 0)) = search rules in
    let value = c.mean_of.ensures ∙ ap (λ (z : ℤ). int_div z (pos c.args.size)) (to_z-of_z w128 (slice_index_or sums i (pos 0)) before) in
    rw (to_z-of_z w64 c.mean_of.result fits) (record {
      written =
          written_more (λ k x. x ≡ int_div (slice_index_or sums k (pos 0)) (pos c.args.size)) i c.mean_of.result c.loop-i.values (omega arith) value
          c.loop-i.invariant.written;
      left = left_more i c.mean_of.result c.args.values.now c.loop-i.values c.loop-i.invariant.left;
    })

pub returns : goal.returns
returns c =
    let sums = c.args.sums.now in
    let mean : ℤ → ℤ = λ z. int_div z (pos c.args.size) in
    written_all c.loop-i.values (means_of c.args.size sums) (omega (arith, length-map sums mean)) (λ k less.
    c.loop-i.invariant.written k (omega (arith, less)) ∙ sym (get_or-map mean sums k (pos 0) (pos 0) (omega (arith, less))))
