use Rattle.std.proofs.Common.{ℕ, refl, arith}
use Rattle.std.proofs.lemmas.Simd.{zip2_of_maps, zip2_splat, length-chunk}
use lib.Lanes.{chunk}
use Rattle.iio_text.specs.Words.{is_blank}
use Rattle.iio_text.proofs.RunLemmas.{lanes_place}
use Rattle.iiod_grammar.proofs.blanks.first_in_lanes.Goals as goal

pub returns : goal.returns
returns c =
    let v = chunk c.args.place 16 c.args.text.now in
    let long = length-chunk c.args.place 16 c.args.text.now c.requires in
    lanes_place is_blank c.args.text.now 16 c.args.place _ _ (omega arith) c.requires c.type_inv.text c.first_set.ensures _
    (zip2_of_maps _ _ _ v (zip2_splat {Y = ℕ} _ v 16 32 long) (zip2_splat {Y = ℕ} _ v 16 9 long)) refl
