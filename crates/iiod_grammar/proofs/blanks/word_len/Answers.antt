use Rattle.std.proofs.Common.{arith, not}
use Rattle.std.proofs.lemmas.Simd.{length-chunk}
use Rattle.std.proofs.lemmas.List.Sums.{prefix_len-le-length}
use lib.Lanes.{chunk}
use Rattle.iio_text.specs.Words.{is_blank}
use Rattle.iiod_grammar.proofs.BlankLemmas.{place_on}
use Rattle.iiod_grammar.proofs.blanks.word_len.Goals as goal

pub loop-place-preserved : goal.loop-place-preserved
loop-place-preserved c =
    let text = c.args.text.now in
    let place = c.loop-place.place in
    let on = place_on is_blank text 16 place c.first_in_lanes-before.result c.first_in_lanes-before.ensures in
    let long = length-chunk place 16 text (omega arith) in
    record {
      within = omega (arith, prefix_len-le-length (λ b. not (is_blank b)) (chunk place 16 text), long);
      value =
          omega (arith, on, c.loop-place.invariant.value);
    }
