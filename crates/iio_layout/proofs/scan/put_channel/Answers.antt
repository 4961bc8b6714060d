use Rattle.std.proofs.Common.{◌++◌, take, sym, ap, ◌∙◌, arith, append-nil, w64}
use Rattle.std.proofs.lemmas.Int.{to_z-of_z}
use Rattle.iio_scan_type.specs.Bytes.{element_bytes}
use Rattle.iio_layout.specs.Laws.{length-values_by}
use Rattle.iio_layout.specs.Layout.{format_at, size_at}
use Rattle.iio_layout.specs.Scan.{padded, values_by}
use Rattle.iio_layout.specs.Shape.{formats_of}
use Rattle.iio_layout.proofs.LayoutLemmas.{stamp_field}
use Rattle.iio_layout.proofs.ValueLemmas.{data_field}
use Rattle.iio_layout.proofs.scan.put_channel.Goals as goal

pub returns-then-c-inputs-clause-bytes : goal.returns-then-c-inputs-clause-bytes
returns-then-c-inputs-clause-bytes g c =
    let front = padded (take c.args.end c.args.out.now) (size_at (formats_of c.args.shape.now) c.args.c) in
    c.put_data.ensures.bytes ∙ ap (λ bytes. front ++ bytes) (data_field c.args.shape.now (g.V.Values.value c.args.values.now) c.args.t c.args.c (omega arith))

pub returns-else-c-inputs-clause-bytes : goal.returns-else-c-inputs-clause-bytes
returns-else-c-inputs-clause-bytes g c =
    let value = g.V.Values.value c.args.values.now in
    let front = padded (take c.args.end c.args.out.now) (size_at (formats_of c.args.shape.now) c.args.c) in
    let field =
    stamp_field c.args.shape.now (values_by c.args.shape.now value) c.args.t c.args.c (length-values_by c.args.shape.now value) (omega arith) c.requires.channel
    in
    (rw (to_z-of_z w64 c.args.t c.ranges.t) at c.put_stamp.ensures.bytes)
    ∙ ap (λ bytes. front ++ bytes) (sym (append-nil (element_bytes (format_at (formats_of c.args.shape.now) c.args.c) c.args.t)) ∙ field.1)
