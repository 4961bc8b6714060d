use Rattle.std.proofs.Common.{◌≡◌, ◌/◌, ℕ, length, take, drop, arith, ◌∙◌, ap, length-take}
use Rattle.std.proofs.lemmas.Int.{to_z-of_z}
use Rattle.std.proofs.lemmas.List.{take_at}
use Rattle.iio_scan_type.specs.Bytes.{element_bytes, number_bytes}
use Rattle.iio_scan_type.specs.Format.{Format, element_size}
use Rattle.iio_scan_type.proofs.Elements.{length-number_bytes}
use Rattle.iio_scan_type.proofs.ScanType.put_front.Goals as goal

pub returns-then-out-lt8 : goal.returns-then-out-lt8
returns-then-out-lt8 c =
    let f : Format = c.args.self.now in
    let out = c.args.out.now in
    let n : ℕ = c.self.inside.storagebits / 8 in
    let size : n ≡ element_size f = ap element_size c.self.view_is in
    let room : length (take n out) ≡ n = omega (arith, length-take n out) in
    let fits = c.ranges.value in
    let number : ℕ = c.number-number.result in
    let part : c.write_number.new.out ≡ element_bytes f c.args.value =
    c.write_number.ensures ∙ ap (λ m. number_bytes c.self.inside.endian m number) (room ∙ size)
    ∙ ap (λ (g : Format). number_bytes g.endian (element_size f) number) c.self.view_is
    ∙ ap (number_bytes f.endian (element_size f)) (simp to_z-of_z at c.number-number.ensures.value) in
    rw part (take_at (element_bytes f c.args.value) (drop n out) (element_size f) (length-number_bytes f.endian (element_size f) _))
