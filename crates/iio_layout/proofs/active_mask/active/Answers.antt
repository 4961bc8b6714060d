use Rattle.std.proofs.Common.{◌≡◌, ◌<◌, ◌^◌, ◌≤◌, length, Some, ap, sym, ◌∙◌, arith, ℕ, List}
use Rattle.iio_mask.specs.Mask.{is_within, matching_mask}
use Rattle.iio_layout.specs.Active.{data_part}
use Rattle.iio_layout.specs.Laws.{count_is}
use Rattle.iio_layout.specs.Shape.{ShapeRecord, count_of}
use Rattle.iio_layout.proofs.ActiveLemmas.{active_contains, active_fewer, listed_wider, matching_mask_below, matching_mask_contains}
use Rattle.iio_layout.proofs.active_mask.active.Goals as goal

pub returns-clause-below : goal.returns-clause-below
returns-clause-below c = λ few.
    let shape : ShapeRecord = c.args.shape.now in
    let asked : ℕ = c.in_ok-asked.asked.bits in
    let is : matching_mask shape.listed c.data_part.result.bits ≡ Some asked =
    ap (λ (ms : List ℕ). matching_mask ms c.data_part.result.bits) (sym c.listed.ensures.value) ∙ sym c.in_ok-asked.ensures in
    let wider : length shape.channels ≤ count_of shape = omega (arith, count_is shape) in
    let less : c.data_part.result.bits < 2 ^ count_of shape = omega (arith, c.data_part.ensures.within, few) in
    c.with_stamp.ensures.below
    (matching_mask_below shape.listed c.data_part.result.bits asked (2 ^ count_of shape)
    (listed_wider shape.listed (length shape.channels) (count_of shape) wider c.listed.ensures.sound.listed) less is)

pub returns-clause-contains : goal.returns-clause-contains
returns-clause-contains c =
    let shape : ShapeRecord = c.args.shape.now in
    let wanted : ℕ = c.args.wanted.bits in
    let asked : ℕ = c.in_ok-asked.asked.bits in
    let is : matching_mask shape.listed (data_part shape wanted) ≡ Some asked =
    rw (← c.data_part.ensures.value, ← c.listed.ensures.value) (sym c.in_ok-asked.ensures) in
    ap (is_within wanted) c.with_stamp.ensures.value
    ∙ active_contains shape wanted asked (matching_mask_contains shape.listed (data_part shape wanted) asked is)

pub returns-clause-fewer : goal.returns-clause-fewer
returns-clause-fewer c = λ less within.
    let shape : ShapeRecord = c.args.shape.now in
    let wanted : ℕ = c.args.wanted.bits in
    let asked : ℕ = c.in_ok-asked.asked.bits in
    let is : matching_mask shape.listed (data_part shape wanted) ≡ Some asked =
    rw (← c.data_part.ensures.value, ← c.listed.ensures.value) (sym c.in_ok-asked.ensures) in
    active_fewer shape less wanted asked within is
