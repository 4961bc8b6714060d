use Rattle.std.proofs.Common.{◌≡◌, ℕ, ◌*◌, ◌%◌, ◌^◌, true, ap, sym, ◌∙◌}
use Rattle.std.specs.Prelude.{is_some}
use Rattle.std.proofs.lemmas.Nat.{or_lt}
use Rattle.iio_layout.specs.Shape.{ShapeRecord, count_of}
use Rattle.iio_layout.proofs.ActiveLemmas.{last_bit_below}
use Rattle.iio_layout.proofs.active_mask.with_stamp.Goals as goal

pub returns-clause-below : goal.returns-clause-below
returns-clause-below c = λ few.
    let shape : ShapeRecord = c.args.shape.now in
    let n : ℕ = c.inputs-stamp.result in
    let there : is_some shape.stamp ≡ true = ap is_some (sym c.stamp.ensures) ∙ c.if-is_none.ensures in
    rw c.union.ensures.value
    (or_lt (count_of shape) c.args.mask.bits (1 * 2 ^ n % 2 ^ 64) few (last_bit_below shape n there c.inputs-stamp.ensures.value))
