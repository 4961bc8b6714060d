use Rattle.std.proofs.Common.{◌∙◌}
use Rattle.std.proofs.lemmas.Result.{err_from_is_err_and}
use Rattle.iiod_client.specs.declared.client_end.ClientEnd.TheVariants.{Memory}
use Rattle.iiod_client.specs.Ask.{wanted_by}
use Rattle.iiod_client.specs.Exchange.{ReadsAll}
use Rattle.iiod_client.specs.Point.{point}
use Rattle.iiod_client.specs.Talk.{Opening}
use Rattle.iiod_client.proofs.ClientLaws.{at_err, early, goes_none, opened, stage_fails}
use Rattle.iiod_client.proofs.client.open_and_read.Goals as goal

pub returns-in_err-put_open-clause-reads : goal.returns-in_err-put_open-clause-reads
returns-in_err-put_open-clause-reads g c =
    let p = err_from_is_err_and c.from_residual.result c.from_residual.ensures.1 in
    let w = wanted_by c.args.ask.now in
    let l = g.L.Link.left c.args.link.now in
    let s = g.L.Link.written c.args.link.now in
    let o = g.K.Sink.written c.args.output.now in
    let a = point l c.args.incoming.now s o in
    at_err (λ r. ReadsAll w r a a) c.from_residual.result p.0 Memory p.1 p.2 (early w Opening a a tt (goes_none l c.args.incoming.now s o))

pub returns-in_err-exchange_plain-clause-reads : goal.returns-in_err-exchange_plain-clause-reads
returns-in_err-exchange_plain-clause-reads g c =
    let p = err_from_is_err_and c.from_residual-in_err-exchange_plain.result c.from_residual-in_err-exchange_plain.ensures.1 in
    let w = wanted_by c.args.ask.now in
    let l = g.L.Link.left c.args.link.now in
    let s = g.L.Link.written c.args.link.now in
    let o = g.K.Sink.written c.args.output.now in
    let a = point l c.args.incoming.now s o in
    let d = point (g.L.Link.left c.exchange_plain.new.link) c.exchange_plain.new.incoming (g.L.Link.written c.exchange_plain.new.link) o in
    at_err (λ r. ReadsAll w r a d) c.from_residual-in_err-exchange_plain.result p.0 c.in_err-exchange_plain.field-0.0 p.1 p.2
    (stage_fails w Opening c.deref.result.now c.in_err-exchange_plain.field-0.0 a a d tt (goes_none l c.args.incoming.now s o)
    (c.deref.ensures.value ∙ c.in_ok-put_open.ensures) (c.in_err-exchange_plain.ensures.exchanges o))

pub returns-clause-reads : goal.returns-clause-reads
returns-clause-reads g c =
    let w = wanted_by c.args.ask.now in
    let l = g.L.Link.left c.args.link.now in
    let s = g.L.Link.written c.args.link.now in
    let o = g.K.Sink.written c.args.output.now in
    let a = point l c.args.incoming.now s o in
    let d = point (g.L.Link.left c.exchange_plain.new.link) c.exchange_plain.new.incoming (g.L.Link.written c.exchange_plain.new.link) o in
    c.read_all.ensures.reads a (opened w c.deref.result.now a d (c.deref.ensures.value ∙ c.in_ok-put_open.ensures) (c.in_ok-exchange_plain.ensures.exchanges o))
