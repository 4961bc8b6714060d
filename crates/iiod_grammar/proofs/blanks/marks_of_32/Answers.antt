use Rattle.std.proofs.Common.{ℕ, refl, arith}
use Rattle.std.proofs.lemmas.Simd.{zip2_of_maps, zip2_splat, length-chunk}
use lib.Lanes.{chunk}
use Rattle.iio_text.proofs.RunLemmas.{lanes_mask}
use Rattle.iiod_grammar.specs.Marks.{is_solid}
use Rattle.iiod_grammar.proofs.blanks.marks_of_32.Goals as goal

pub returns : goal.returns
returns c =
    let v = chunk c.args.place 32 c.args.text.now in
    let long = length-chunk c.args.place 32 c.args.text.now c.requires in
    lanes_mask is_solid c.args.text.now 32 c.args.place _ (omega arith) c.requires c.type_inv.text _
    (zip2_of_maps _ _ _ v (zip2_splat {Y = ℕ} _ v 32 32 long) (zip2_splat {Y = ℕ} _ v 32 9 long)) refl
