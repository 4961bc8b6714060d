use Rattle.std.proofs.Common.{ℕ, refl, arith}
use Rattle.std.proofs.lemmas.Simd.{zip2_splat, length-chunk}
use lib.Lanes.{chunk}
use Rattle.iio_text.specs.Lines.{is_line_end}
use Rattle.iio_text.proofs.RunLemmas.{lanes_mask}
use Rattle.iio_text.proofs.lines.LineEndByteTest.passing_in_lanes.Goals as goal

pub returns : goal.returns
returns c =
    let v = chunk c.args.place 16 c.args.text.now in
    let long = length-chunk c.args.place 16 c.args.text.now c.requires in
    lanes_mask is_line_end c.args.text.now 16 c.args.place _ (omega arith) c.requires c.type_inv.text _ (zip2_splat {Y = ℕ} _ v 16 10 long) refl
