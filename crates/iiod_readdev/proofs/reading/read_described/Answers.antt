use Rattle.std.proofs.Common.{[], sym, subst}
use Rattle.iiod_client.specs.Point.{point}
use Rattle.iiod_readdev.specs.Reading.{ReadsFrom, WantedComesTo}
use Rattle.iiod_readdev.proofs.DueLaws.{words_due}
use Rattle.iiod_readdev.proofs.RunLaws.{refused_ends}
use Rattle.iiod_readdev.proofs.reading.read_described.Goals as goal

pub returns-in-Err-clause-reads : goal.returns-in-Err-clause-reads
returns-in-Err-clause-reads g c =
    let left = g.L.Link.left c.args.link.now in
    let sent = g.L.Link.written c.args.link.now in
    let old = g.K.Sink.written c.args.output.now in
    let new = g.K.Sink.written c.end_refused.new.output in (
      [],
      subst (λ r. ReadsFrom r c.of_run.result (point left [] sent old) (point left [] sent new)) (sym c.in-Err.ensures.refused)
          (refused_ends c.in-Err.why c.end_refused.result c.of_run.result left sent old new c.of_run.ensures c.end_refused.ensures.prints),
    )

pub returns-in-Ok-clause-exact : goal.returns-in-Ok-clause-exact
returns-in-Ok-clause-exact g c = λ due comes.
    c.dial_and_read.ensures.exact due (subst (λ r. WantedComesTo r (g.L.Link.left c.args.link.now) due) c.in-Ok.ensures.found comes)

pub returns-in-Err-clause-exact : goal.returns-in-Err-clause-exact
returns-in-Err-clause-exact g c = λ due comes.
    words_due c.in-Err.why c.end_refused.result _ c.of_run.result due (g.L.Link.left c.args.link.now) (g.K.Sink.written c.args.output.now)
    (g.K.Sink.written c.end_refused.new.output) c.of_run.ensures c.in-Err.ensures.refused
    c.end_refused.ensures.prints comes
