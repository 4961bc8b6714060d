use Rattle.std.proofs.Common.{ℕ, cond, ltb, refl, arith}
use Rattle.std.proofs.lemmas.Simd.{zip2_splat, zip2_splat_left, length-chunk}
use lib.Lanes.{chunk}
use Rattle.iio_text.specs.Lines.{is_printable}
use Rattle.iio_text.proofs.RunLemmas.{joined, lanes_all}
use Rattle.iio_text.proofs.lines.few_are_printable.Goals as goal

pub returns : goal.returns
returns c =
    let v = chunk c.args.place 8 c.args.line.now in
    let long = length-chunk c.args.place 8 c.args.line.now c.requires in
    lanes_all is_printable c.args.line.now c.args.place 8 _ (omega arith) c.requires c.type_inv.line _
    (joined _ _ _ v (zip2_splat {Y = ℕ} _ v 8 32 long) (zip2_splat_left (λ a b. cond (ltb a b) 255 0) 126 8 v long)) refl
