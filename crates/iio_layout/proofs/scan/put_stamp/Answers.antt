use Rattle.std.proofs.Common.{◌≡◌, ◌≤◌, ◌++◌, ◌-◌, ◌*◌, ℕ, List, length, take, ap, ◌∙◌, arith, length-drop, w64}
use Rattle.std.proofs.lemmas.Int.{to_z-of_z}
use Rattle.std.specs.Int.{next_multiple_of}
use Rattle.iio_scan_type.specs.Bytes.{element_bytes}
use Rattle.iio_scan_type.specs.Format.{Format, element_size, size_of}
use Rattle.iio_layout.specs.Layout.{format_at}
use Rattle.iio_layout.specs.Scan.{padded}
use Rattle.iio_layout.specs.Shape.{formats_of}
use Rattle.iio_layout.proofs.LayoutLemmas.{take-put_front}
use Rattle.iio_layout.proofs.scan.put_stamp.Goals as goal

pub returns-clause-bytes : goal.returns-clause-bytes
returns-clause-bytes c =
    let ty : Format = c.scan_type-ty.result in
    let own : Format = format_at (formats_of c.args.shape.now) c.args.c in
    let place : ℕ = c.padded_place-place.result in
    let size : ℕ = c.size-size.result in
    let out : List ℕ = c.padded_place-place.new.out in
    let part : List ℕ = c.put_front.new.out in
    let front : List ℕ = take c.args.end c.args.out.now in
    let is : ty ≡ own = c.scan_type-ty.ensures.value in
    let sized : size ≡ size_of own = c.size-size.ensures.value ∙ ap size_of is in
    let one : size ≡ element_size ty =
    c.size-size.ensures.value ∙ ap (λ n. element_size ty * n) (ap (λ (f : Format). f.repeat) is ∙ c.requires.stamp) ∙ omega arith in
    let at = c.padded_place-place.ensures.place ∙ ap (next_multiple_of c.args.end) sized in
    let within : place ≤ length out = omega arith in
    let long : size ≤ length part = omega (arith, length-drop place out) in
    take-put_front place size (length out - place) out part within long
    ∙ ap (λ bytes. bytes ++ take size part) c.padded_place-place.ensures.bytes
    ∙ ap (λ bytes. padded front size ++ bytes)
    (ap (λ n. take n part) one ∙ (rw (to_z-of_z w64 c.args.t c.ranges.t) at c.put_front.ensures) ∙ ap (λ (f : Format). element_bytes f c.args.t) is)
    ∙ ap (λ n. padded front n ++ element_bytes own c.args.t) sized
