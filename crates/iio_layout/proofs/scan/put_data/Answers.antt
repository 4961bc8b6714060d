use Rattle.std.proofs.Common.{◌≡◌, ◌≤◌, ◌++◌, ◌-◌, ℕ, List, length, take, ap, ◌∙◌, arith, length-drop}
use Rattle.std.specs.Int.{next_multiple_of}
use Rattle.iio_scan_type.specs.Bytes.{channel_bytes}
use Rattle.iio_scan_type.specs.Format.{Format, size_of}
use Rattle.iio_layout.specs.Layout.{format_at}
use Rattle.iio_layout.specs.Scan.{elements_below, padded}
use Rattle.iio_layout.specs.Shape.{formats_of}
use Rattle.iio_layout.proofs.LayoutLemmas.{take-put_front}
use Rattle.iio_layout.proofs.scan.put_data.Goals as goal

pub returns-clause-bytes : goal.returns-clause-bytes
returns-clause-bytes g c =
    let place : ℕ = c.padded_place-place.result in
    let size : ℕ = c.size-size.result in
    let out : List ℕ = c.padded_place-place.new.out in
    let part : List ℕ = c.put_values.new.out in
    let front : List ℕ = take c.args.end c.args.out.now in
    let value = g.V.Values.value c.args.values.now c.args.c in
    let sized : size ≡ size_of (format_at (formats_of c.args.shape.now) c.args.c) = c.size-size.ensures.value ∙ ap size_of c.data_type-ty.ensures.value in
    let at = c.padded_place-place.ensures.place ∙ ap (next_multiple_of c.args.end) sized in
    let within : place ≤ length out = omega arith in
    let long : size ≤ length part = omega (arith, length-drop place out) in
    take-put_front place size (length out - place) out part within long
    ∙ ap (λ bytes. bytes ++ take size part) c.padded_place-place.ensures.bytes
    ∙ ap (λ bytes. padded front size ++ bytes) (ap (λ n. take n part) c.size-size.ensures.value ∙ c.put_values.ensures)
    ∙ ap (λ (f : Format). padded front size ++ channel_bytes f (elements_below value f.repeat)) c.data_type-ty.ensures.value
    ∙ ap (λ n. padded front n
    ++ channel_bytes (format_at (formats_of c.args.shape.now) c.args.c) (elements_below value (format_at (formats_of c.args.shape.now) c.args.c).repeat)) sized
