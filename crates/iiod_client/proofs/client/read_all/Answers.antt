use Rattle.std.proofs.Common.{◌∙◌}
use Rattle.std.proofs.lemmas.Result.{err_from_is_err_and}
use Rattle.iiod_client.specs.Ask.{wanted_by}
use Rattle.iiod_client.specs.Exchange.{ReadsAll}
use Rattle.iiod_client.specs.Point.{point}
use Rattle.iiod_client.proofs.ClientLaws.{at_err, batch_fails, batch_more}
use Rattle.iiod_client.proofs.client.read_all.Goals as goal

pub loop-got-preserved : goal.loop-got-preserved
loop-got-preserved g c =
    let old = c.loop-got.invariant in
    let new = c.in_ok-got.ensures in
    let w = wanted_by c.args.ask.now in
    let b = point (g.L.Link.left c.loop-got.link) c.loop-got.incoming (g.L.Link.written c.loop-got.link) (g.K.Sink.written c.loop-got.output) in
    let d =
    point (g.L.Link.left c.read_batch.new.link) c.read_batch.new.incoming (g.L.Link.written c.read_batch.new.link) (g.K.Sink.written c.read_batch.new.output) in
    record {
      within = new.some.1;
      so_far = λ a start.
          let so = old.so_far a start in
          batch_more w so.0 c.loop-got.got _ a b d so.1 so.2 c.loop-got-test.true so.3 new.reads;
      link = new.faults.0 ∙ old.link;
      output = new.faults.1 ∙ old.output;
    }

pub returns-in_err-got-clause-reads : goal.returns-in_err-got-clause-reads
returns-in_err-got-clause-reads g c a start =
    let p = err_from_is_err_and c.from_residual.result c.from_residual.ensures.1 in
    let w = wanted_by c.args.ask.now in
    let b = point (g.L.Link.left c.loop-got.link) c.loop-got.incoming (g.L.Link.written c.loop-got.link) (g.K.Sink.written c.loop-got.output) in
    let d =
    point (g.L.Link.left c.read_batch.new.link) c.read_batch.new.incoming (g.L.Link.written c.read_batch.new.link) (g.K.Sink.written c.read_batch.new.output) in
    let so = c.loop-got.invariant.so_far a start in
    at_err (λ r. ReadsAll w r a d) c.from_residual.result p.0 c.in_err-got.field-0.0 p.1 p.2
    (batch_fails w so.0 c.loop-got.got c.in_err-got.field-0.0 a b d so.1 so.2 c.loop-got-test.true so.3 c.in_err-got.ensures.reads)
