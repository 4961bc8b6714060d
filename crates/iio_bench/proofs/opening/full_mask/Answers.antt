use Rattle.std.proofs.Common.{◌∙◌, ◌≡◌, ◌<◌, ◌-◌, ◌^◌, ℕ, true, ap, arith, subst, sym}
use Rattle.iio_layout.specs.Active.{has_data}
use Rattle.iio_layout.specs.Shape.{count_of}
use Rattle.iio_bench.proofs.OpenLemmas.{full_below, full_has}
use Rattle.iio_bench.proofs.opening.full_mask.Goals as goal

pub scan_size-size-requires : goal.scan_size-size-requires
scan_size-size-requires c =
    subst (λ (m : ℕ). m < 2 ^ count_of c.args.shape.now) (sym (c.full_bits-bits.ensures ∙ ap (λ (n : ℕ). 2 ^ n - 1) c.count.ensures.value)) (full_below
    (count_of c.args.shape.now))

pub returns-clause-value : goal.returns-clause-value
returns-clause-value c =
    c.full_bits-bits.ensures ∙ ap (λ (n : ℕ). 2 ^ n - 1) c.count.ensures.value

pub returns-clause-below : goal.returns-clause-below
returns-clause-below c =
    subst (λ (m : ℕ). m < 2 ^ count_of c.args.shape.now) (sym (c.full_bits-bits.ensures ∙ ap (λ (n : ℕ). 2 ^ n - 1) c.count.ensures.value)) (full_below
    (count_of c.args.shape.now))

pub returns-clause-channel : goal.returns-clause-channel
returns-clause-channel c =
    subst (λ (m : ℕ). has_data c.args.shape.now m ≡ true) (sym (c.full_bits-bits.ensures ∙ ap (λ (n : ℕ). 2 ^ n - 1) c.count.ensures.value)) (full_has
    c.args.shape.now c.count.ensures.sound.some)

pub returns-clause-bytes : goal.returns-clause-bytes
returns-clause-bytes c =
    let few = c.scan_size-size.ensures.few in
    let value = c.scan_size-size.ensures.value in
    let count = c.count.ensures.sound.few in
    omega (arith, few, value, count)
