use Rattle.std.proofs.Common.{rules, append_assoc}
use Rattle.iio_text.proofs.PrintedLemmas.{escaped_on}
use Rattle.iio_text.proofs.escapes.escape_to.Goals as goal

pub loop-place-preserved : goal.loop-place-preserved
loop-place-preserved c =
    let on = escaped_on c.args.bytes.now c.loop-place.place c.min-end.result (search rules) in
    record {
      within = search rules;
      printed = rw (c.in_ok-chunk_escape_to.ensures.ok, c.loop-place.invariant.printed, append_assoc, on) (search rules);
    }
