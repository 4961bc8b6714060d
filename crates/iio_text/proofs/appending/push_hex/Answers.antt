use Rattle.std.proofs.Common.{◌≡◌, ◌+◌, length, refl, ap, ◌∙◌, arith}
use Rattle.std.proofs.lemmas.List.{length-append}
use Rattle.iio_text.proofs.HexLemmas.{on_ok, hex_none, hex_more}
use Rattle.iio_text.proofs.appending.push_hex.Goals as goal

pub loop-byte-init : goal.loop-byte-init
loop-byte-init c =
    let same = ap length c.reserve.ensures.items in
    record { items = c.reserve.ensures.items ∙ hex_none c.args.out.now.items; room = omega (arith, same, c.in_ok-reserve.ensures.ok) }

pub loop-byte-preserved : goal.loop-byte-preserved
loop-byte-preserved c =
    let pair = on_ok c.encode_to_slice.result _ (c.encode_to_slice.ensures.fits.1 refl) c.encode_to_slice.ensures.written in
    let longer : length c.append_reserved.new.out.items ≡ length c.loop-byte.out.items + length c.encode_to_slice.new.output =
    ap length c.append_reserved.ensures.items ∙ length-append c.loop-byte.out.items c.encode_to_slice.new.output in
    record {
      items =
          hex_more c.args.bytes.now c.loop-byte.byte-index c.args.out.now.items c.loop-byte.out.items c.append_reserved.new.out.items
          c.encode_to_slice.new.output (omega arith) c.loop-byte.invariant.items pair c.append_reserved.ensures.items;
      room = omega (arith, longer, c.encode_to_slice.auto.output, c.loop-byte.invariant.room, c.append_reserved.ensures.room);
    }
