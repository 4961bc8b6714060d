use Rattle.std.proofs.Common.{◌≡◌, ◌+◌, List, [], ap, sym, ◌∙◌, arith, ℕ, ℤ}
use Rattle.std.specs.Int.{next_multiple_of, w64}
use Rattle.std.proofs.lemmas.Int.{to_z-of_z}
use Rattle.iio_mask.specs.Mask.{channels_of}
use Rattle.iio_layout.specs.Layout.{end_below, size_at}
use Rattle.iio_layout.specs.Scan.{capture_values, values_by}
use Rattle.iio_layout.specs.Shape.{count_of, formats_of}
use Rattle.iio_layout.proofs.ScanLemmas.{channels_of-within, end_over, end_over-all, end_over-ge, front_over, front_over-all, has-below}
use Rattle.iio_layout.proofs.scan.put_channels.Goals as goal

pub loop-c-init : goal.loop-c-init
loop-c-init g c =
    let formats = formats_of c.args.shape.now in
    let mask : ℕ = c.args.mask.bits in
    let values : List ℤ = capture_values (values_by c.args.shape.now (g.V.Values.value c.args.values.now)) c.args.t in
    let channels = channels_of-within mask (count_of c.args.shape.now) (omega arith) c.requires.below in
    rw (to_z-of_z w64 c.args.t c.ranges.t) (record {
      size = c.requires.size;
      below = c.requires.below;
      end = ap (end_over formats 0) channels ∙ end_over-all formats mask (count_of c.args.shape.now);
      front = ap (front_over formats values []) channels ∙ front_over-all formats values mask (count_of c.args.shape.now);
    })

pub put_channel-end-requires-clause-channel : goal.put_channel-end-requires-clause-channel
put_channel-end-requires-clause-channel g c =
    has-below c.loop-c.rest.bits (count_of c.args.shape.now) c.in-Some.c c.loop-c.invariant.below c.in-Some.ensures.member

pub put_channel-end-requires-clause-room : goal.put_channel-end-requires-clause-room
put_channel-end-requires-clause-room g c =
    let formats = formats_of c.args.shape.now in
    let size : ℕ = size_at formats c.in-Some.c in
    let next : ℕ = next_multiple_of c.loop-c.end size + size in
    let left : List ℕ = channels_of c.pop_first.new.self.bits in
    let all : end_over formats next left ≡ end_below formats c.args.mask.bits (count_of c.args.shape.now) =
    ap (end_over formats c.loop-c.end) (sym c.in-Some.ensures.some) ∙ c.loop-c.invariant.end in
    let within = end_over-ge formats next left in
    omega (arith, all, within, c.loop-c.invariant.size)
