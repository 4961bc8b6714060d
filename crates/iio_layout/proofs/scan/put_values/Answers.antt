use Rattle.std.proofs.Common.{◌≡◌, ◌*◌, ℤ, take, FitsSigned, w64, rules, sym, ap, ◌∙◌, arith, append-nil}
use Rattle.std.proofs.lemmas.Int.{to_z-of_z}
use Rattle.iio_scan_type.specs.Bytes.{channel_bytes, element_bytes}
use Rattle.iio_scan_type.specs.Format.{Format, element_size, size_of}
use Rattle.iio_layout.specs.Scan.{elements_below}
use Rattle.iio_layout.proofs.scan.put_values.Goals as goal

pub returns-then-repeat-eq1 : goal.returns-then-repeat-eq1
returns-then-repeat-eq1 g c =
    let ty : Format = c.args.ty.now in
    let value = g.V.Values.value c.args.values.now c.args.c in
    let single : ty.repeat ≡ 1 = sym c.repeat.ensures.value ∙ c.if-repeat-eq1.true in
    let one : size_of ty ≡ element_size ty = ap (λ n. element_size ty * n) single ∙ omega arith in
    let v : ℤ = c.value.result in
    let fits : FitsSigned w64 v = search rules in
    ap (λ n. take n c.put_front.new.out) one ∙ (simp to_z-of_z at c.put_front.ensures) ∙ ap (element_bytes ty) c.value.ensures
    ∙ sym (append-nil (element_bytes ty (value 0))) ∙ ap (λ k. channel_bytes ty (elements_below value k)) (sym single)
