use Rattle.std.proofs.Common.{arith, rules, length, ◌-◌}
use Rattle.iio_text.proofs.PrintedLemmas.{take_into, escaped_more}
use Rattle.iio_text.proofs.escapes.put_each_escaped.Goals as goal

pub loop-byte-preserved : goal.loop-byte-preserved
loop-byte-preserved c =
    let written =
    take_into c.loop-byte.len (length c.loop-byte.room - c.loop-byte.len) c.put_escaped-len.result c.loop-byte.room c.put_escaped-len.new.room (search rules)
    (search rules) in
    record {
      within = omega (arith, c.put_escaped-len.ensures.within, c.loop-byte.invariant.within);
      text =
          rw (written, c.loop-byte.invariant.text, c.put_escaped-len.ensures.text) (escaped_more c.args.bytes.now c.loop-byte.byte-index c.loop-byte-test.true);
    }
