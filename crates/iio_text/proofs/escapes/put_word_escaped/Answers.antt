use Rattle.std.proofs.Common.{◌-◌, arith, rules, length}
use Rattle.std.specs.Int.{w64, to_le_bytes}
use Rattle.iio_text.proofs.PrintedLemmas.{take_into, byte_of_word, escaped_more}
use Rattle.iio_text.proofs.escapes.put_word_escaped.Goals as goal

pub loop-i-preserved : goal.loop-i-preserved
loop-i-preserved c =
    let written =
    take_into c.loop-i.len (length c.loop-i.room - c.loop-i.len) c.put_escaped-len.result c.loop-i.room c.put_escaped-len.new.room (search rules) (search rules)
    in
    let byte = byte_of_word c.args.word c.loop-i.i c.loop-i-test.true in
    record {
      within = omega (arith, c.put_escaped-len.ensures.within, c.loop-i.invariant.within);
      text =
          rw (written, c.loop-i.invariant.text, c.put_escaped-len.ensures.text, byte)
          (escaped_more (to_le_bytes w64 c.args.word) c.loop-i.i c.loop-i-test.true);
    }
