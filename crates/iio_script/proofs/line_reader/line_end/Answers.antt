use Rattle.std.proofs.Common.{◌≡◌, ◌+◌, ◌<◌, ◌≤◌, map, length, ap, ◌∙◌, subst, sym, true≢false, zero-add, arith}
use Rattle.std.proofs.lemmas.Simd.{length-chunk, trailing_mask_l, run_in_chunk_fails, run_in_chunk_stops}
use Rattle.std.specs.List.{position_or_len}
use Rattle.memchr.specs.Find.{Passes, is_byte}
use lib.Count.{count_trailing_zeros}
use lib.Lanes.{chunk, mask_l}
use Rattle.iio_text.proofs.RunLemmas.{some_lane}
use Rattle.iio_script.proofs.line_reader.line_end.Goals as goal

pub returns-then-ends-ne0 : goal.returns-then-ends-ne0
returns-then-ends-ne0 c =
    let bytes = c.args.bytes.now in
    let lanes = chunk 0 32 bytes in
    let place = count_trailing_zeros 64 c.ends_in_lanes-ends.result in
    let room : 0 + 32 ≤ length bytes = omega (arith, c.if-bytes-ge-LANES.true) in
    let size = length-chunk 0 32 bytes room in
    let some : 0 < mask_l (map (is_byte 10) lanes) = omega (arith, c.if-ends-ne0.true, c.ends_in_lanes-ends.ensures) in
    let first : place ≡ position_or_len (is_byte 10) lanes =
    ap (count_trailing_zeros 64) c.ends_in_lanes-ends.ensures ∙ trailing_mask_l (is_byte 10) 64 lanes (omega (arith, size)) some in
    let within : place < 32 = omega (arith, first, some_lane (is_byte 10) lanes some, size) in (
      record {
        low = omega arith;
        high = omega (arith, within, room);
        before = λ k from to passes. true≢false (sym passes ∙ run_in_chunk_fails (is_byte 10) bytes 0 32 place 0 room first k from (omega (arith, to)));
      },
      subst (Passes (is_byte 10) bytes) (zero-add place) (run_in_chunk_stops (is_byte 10) bytes 0 32 place 0 room first within),
    )
