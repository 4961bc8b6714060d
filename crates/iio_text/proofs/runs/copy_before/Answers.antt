use Rattle.std.proofs.Common.{◌≡◌, ◌+◌, ◌≤◌, ◌<◌, ℕ, Bool, not, arith, rules, sym}
use Rattle.std.specs.List.{position_or_len}
use Rattle.std.proofs.lemmas.Simd.{length-chunk}
use Rattle.std.proofs.lemmas.List.Sums.{prefix_len-le-length}
use lib.Lanes.{chunk}
use Rattle.iio_text.proofs.RunLemmas.{masked_place, masked_some, masked_none, place_skip, place_in_run, place_past_run, copied_on}
use Rattle.iio_text.proofs.runs.copy_before.Goals as goal

pub returns-then-passing-ne0-clause-within : goal.returns-then-passing-ne0-clause-within
returns-then-passing-ne0-clause-within g c =
    let text = c.args.text.now in
    let place = c.loop-place.place in
    let q : ℕ → Bool = g.T.ByteTest.passes c.args.test.now in
    let found =
    masked_place q text place c.passing_in_lanes-passing.result c.first_set.result (omega arith) c.passing_in_lanes-passing.ensures c.first_set.ensures in
    omega (arith, found, prefix_len-le-length (λ b. not (q b)) (chunk place 16 text), length-chunk place 16 text (omega arith))

pub returns-then-passing-ne0-clause-value : goal.returns-then-passing-ne0-clause-value
returns-then-passing-ne0-clause-value g c =
    let text = c.args.text.now in
    let place = c.loop-place.place in
    let q : ℕ → Bool = g.T.ByteTest.passes c.args.test.now in
    let passing = c.passing_in_lanes-passing.result in
    let some : 0 < passing = search rules in
    let found = masked_place q text place passing c.first_set.result (omega arith) c.passing_in_lanes-passing.ensures c.first_set.ensures in
    let inside = masked_some q text place passing (omega arith) c.passing_in_lanes-passing.ensures some in
    let before : place ≤ position_or_len q text = omega (arith, c.loop-place.invariant.value) in
    sym (place_in_run q text 16 place c.first_set.result (omega arith) before found (omega (arith, found, inside)))

pub returns-then-passing-ne0-clause-copied : goal.returns-then-passing-ne0-clause-copied
returns-then-passing-ne0-clause-copied g c =
    let text = c.args.text.now in
    let place = c.loop-place.place in
    let q : ℕ → Bool = g.T.ByteTest.passes c.args.test.now in
    let found =
    masked_place q text place c.passing_in_lanes-passing.result c.first_set.result (omega arith) c.passing_in_lanes-passing.ensures c.first_set.ensures in
    let most : c.first_set.result ≤ 16 =
    omega (arith, found, prefix_len-le-length (λ b. not (q b)) (chunk place 16 text), length-chunk place 16 text (omega arith)) in
    copied_on text c.loop-place.room place c.first_set.result (omega arith) (omega arith) most c.loop-place.invariant.copied

pub loop-place-preserved : goal.loop-place-preserved
loop-place-preserved g c =
    let text = c.args.text.now in
    let place = c.loop-place.place in
    let q : ℕ → Bool = g.T.ByteTest.passes c.args.test.now in
    let none : c.passing_in_lanes-passing.result ≡ 0 = search rules in
    let all = masked_none q text place c.passing_in_lanes-passing.result (omega arith) c.passing_in_lanes-passing.ensures none in
    let before : place ≤ position_or_len q text = omega (arith, c.loop-place.invariant.value) in
    let past = place_past_run q text 16 place 16 before all (omega arith) in
    record {
      within = omega arith;
      value = place_skip q text (place + 16) past;
      copied = copied_on text c.loop-place.room place 16 (omega arith) (omega arith) (omega arith) c.loop-place.invariant.copied;
    }
