use Rattle.std.proofs.Common.{◌≡◌, ◌+◌, ◌-◌, ◌*◌, ◌<◌, ◌≤◌, ℕ, ℤ, length, take, FitsSigned, w64, rules, sym, ap, ◌∙◌, arith, length-drop}
use Rattle.std.proofs.Math.Nat.{mul_comm}
use Rattle.std.proofs.lemmas.Int.{to_z-of_z}
use Rattle.iio_scan_type.specs.Bytes.{channel_bytes, element_bytes}
use Rattle.iio_scan_type.specs.Format.{Format, size_of}
use Rattle.iio_layout.specs.Scan.{elements_below}
use Rattle.iio_layout.proofs.ValueLemmas.{elements_more, row_within}
use Rattle.iio_layout.proofs.scan.put_several.Goals as goal

pub loop-k-preserved : goal.loop-k-preserved
loop-k-preserved g c =
    let ty : Format = c.args.ty.now in
    let n : ℕ = c.element_size-size.result in
    let k : ℕ = c.loop-k.k in
    let below : k < ty.repeat = omega arith in
    let row = row_within n k ty.repeat below in
    let room : (k + 1) * n ≤ length c.loop-k.out = omega arith in
    let v : ℤ = c.value.result in
    let fits : FitsSigned w64 v = search rules in
    let part : take n c.put_front.new.out ≡ element_bytes ty (g.V.Values.value c.args.values.now c.args.c k) =
    ap (λ m. take m c.put_front.new.out) c.element_size-size.ensures.value ∙ (simp to_z-of_z at c.put_front.ensures) ∙ ap (element_bytes ty) c.value.ensures in
    let next : (k + 1) * n ≡ k * n + n = grind arith in
    let long : n ≤ length c.put_front.new.out = omega (arith, length-drop (k * n) c.loop-k.out) in
    elements_more ty (g.V.Values.value c.args.values.now c.args.c) k n (length c.loop-k.out - k * n) c.loop-k.out c.put_front.new.out
    c.element_size-size.ensures.value part long room c.loop-k.invariant

pub returns : goal.returns
returns g c =
    let ty : Format = c.args.ty.now in
    let n : ℕ = c.element_size-size.result in
    let last : c.loop-k.k ≡ ty.repeat = omega arith in
    let whole : size_of ty ≡ c.loop-k.k * n = sym c.element_size-size.ensures.whole ∙ mul_comm n ty.repeat ∙ ap (λ k. k * n) (sym last) in
    ap (λ m. take m c.loop-k.out) whole ∙ c.loop-k.invariant ∙ ap (λ k. channel_bytes ty (elements_below (g.V.Values.value c.args.values.now c.args.c) k)) last
