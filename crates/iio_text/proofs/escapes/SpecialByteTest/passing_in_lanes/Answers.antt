use Rattle.std.proofs.Common.{ℕ, not, cond, ltb, refl, arith}
use Rattle.std.proofs.lemmas.Simd.{zip2_splat, zip2_splat_left, length-chunk}
use lib.Lanes.{chunk}
use Rattle.iio_text.specs.Escape.{is_plain}
use Rattle.iio_text.proofs.RunLemmas.{joined, lanes_mask}
use Rattle.iio_text.proofs.escapes.SpecialByteTest.passing_in_lanes.Goals as goal

pub returns : goal.returns
returns c =
    let v = chunk c.args.place 16 c.args.text.now in
    let long = length-chunk c.args.place 16 c.args.text.now c.requires in
    lanes_mask (λ b. not (is_plain b)) c.args.text.now 16 c.args.place _ (omega arith) c.requires c.type_inv.text _
    (joined _ _ _ v (joined _ _ _ v (joined _ _ _ v (zip2_splat {Y = ℕ} _ v 16 32 long) (zip2_splat_left (λ a b. cond (ltb a b) 255 0) 126 16 v long))
    (zip2_splat {Y = ℕ} _ v 16 34 long)) (zip2_splat {Y = ℕ} _ v 16 92 long)) refl
