use Rattle.std.proofs.Common.{◌-◌, arith, rules, length, ap, ◌∙◌}
use Rattle.std.proofs.lemmas.List.{take_all}
use Rattle.iio_text.specs.Escape.{escaped}
use Rattle.iio_text.proofs.PrintedLemmas.{take_into, escaped_next, escaped_on}
use Rattle.iio_text.proofs.escapes.put_all_escaped.Goals as goal

pub loop-place-preserved : goal.loop-place-preserved
loop-place-preserved c =
    let written =
    take_into c.loop-place.len (length c.loop-place.room - c.loop-place.len) c.put_word_escaped-len.result c.loop-place.room c.put_word_escaped-len.new.room
    (search rules) (search rules) in
    let text = c.put_word_escaped-len.ensures.text ∙ ap escaped c.word_at.ensures in
    record {
      inside = omega arith;
      within = search rules;
      text = rw (written, c.loop-place.invariant.text, text) (escaped_next c.args.bytes.now c.loop-place.place 8);
    }

pub returns-clause-text : goal.returns-clause-text
returns-clause-text c =
    let written =
    take_into c.loop-place.len (length c.loop-place.room - c.loop-place.len) c.put_each_escaped.result c.loop-place.room c.put_each_escaped.new.room
    (search rules) (search rules) in
    let on = escaped_on c.args.bytes.now c.loop-place.place (length c.args.bytes.now) (search rules) in
    let all = take_all (length c.args.bytes.now) c.args.bytes.now (omega arith) in
    rw (written, c.loop-place.invariant.text, c.put_each_escaped.ensures.text) (on ∙ ap escaped all)
