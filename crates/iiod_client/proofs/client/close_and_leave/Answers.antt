use Rattle.std.proofs.Common.{◌∙◌}
use Rattle.std.proofs.lemmas.Result.{err_from_is_err_and}
use Rattle.iiod_client.specs.declared.client_end.ClientEnd.TheVariants.{Memory}
use Rattle.iiod_client.specs.Ask.{wanted_by}
use Rattle.iiod_client.specs.Exchange.{BreaksOf}
use Rattle.iiod_client.specs.Point.{point}
use Rattle.iiod_client.specs.Talk.{Closing, Leaving}
use Rattle.iiod_client.proofs.ClientLaws.{at_err, early, stage_fails, closed, left_all}
use Rattle.iiod_client.proofs.client.close_and_leave.Goals as goal

pub returns-in_err-put_close-clause-leaves : goal.returns-in_err-put_close-clause-leaves
returns-in_err-put_close-clause-leaves g c a reads printed is goes =
    let p = err_from_is_err_and c.from_residual.result c.from_residual.ensures.1 in
    let w = wanted_by c.args.ask.now in
    let b = point (g.L.Link.left c.args.link.now) c.args.incoming.now (g.L.Link.written c.args.link.now) printed in
    at_err (λ r. BreaksOf w r a b) c.from_residual.result p.0 Memory p.1 p.2 (early w (Closing reads) a b is goes)

pub returns-in_err-exchange_plain-clause-leaves : goal.returns-in_err-exchange_plain-clause-leaves
returns-in_err-exchange_plain-clause-leaves g c a reads printed is goes =
    let p = err_from_is_err_and c.from_residual-in_err-exchange_plain.result c.from_residual-in_err-exchange_plain.ensures.1 in
    let w = wanted_by c.args.ask.now in
    let b = point (g.L.Link.left c.args.link.now) c.args.incoming.now (g.L.Link.written c.args.link.now) printed in
    let d = point (g.L.Link.left c.exchange_plain.new.link) c.exchange_plain.new.incoming (g.L.Link.written c.exchange_plain.new.link) printed in
    at_err (λ r. BreaksOf w r a d) c.from_residual-in_err-exchange_plain.result p.0 c.in_err-exchange_plain.field-0.0 p.1 p.2
    (stage_fails w (Closing reads) c.deref.result.now c.in_err-exchange_plain.field-0.0 a b d is goes (c.deref.ensures.value ∙ c.in_ok-put_close.ensures)
    (c.in_err-exchange_plain.ensures.exchanges printed))

pub returns-in_err-put_exit-clause-leaves : goal.returns-in_err-put_exit-clause-leaves
returns-in_err-put_exit-clause-leaves g c a reads printed is goes =
    let p = err_from_is_err_and c.from_residual-in_err-put_exit.result c.from_residual-in_err-put_exit.ensures.1 in
    let w = wanted_by c.args.ask.now in
    let b = point (g.L.Link.left c.args.link.now) c.args.incoming.now (g.L.Link.written c.args.link.now) printed in
    let d = point (g.L.Link.left c.exchange_plain.new.link) c.exchange_plain.new.incoming (g.L.Link.written c.exchange_plain.new.link) printed in
    at_err (λ r. BreaksOf w r a d) c.from_residual-in_err-put_exit.result p.0 Memory p.1 p.2
    (early w (Leaving reads) a d is
    (closed w reads c.deref.result.now a b d (c.deref.ensures.value ∙ c.in_ok-put_close.ensures) goes (c.in_ok-exchange_plain.ensures.exchanges printed)))

pub returns-clause-leaves : goal.returns-clause-leaves
returns-clause-leaves g c a reads printed is goes =
    let w = wanted_by c.args.ask.now in
    let b = point (g.L.Link.left c.args.link.now) c.args.incoming.now (g.L.Link.written c.args.link.now) printed in
    let d = point (g.L.Link.left c.exchange_plain.new.link) c.exchange_plain.new.incoming (g.L.Link.written c.exchange_plain.new.link) printed in
    left_all w reads c.deref-2.result.now c.send_all.result a (g.L.Link.left c.exchange_plain.new.link) (g.L.Link.left c.send_all.new.link)
    c.exchange_plain.new.incoming (g.L.Link.written c.exchange_plain.new.link) (g.L.Link.written c.send_all.new.link) printed
    (c.deref-2.ensures.value ∙ c.in_ok-put_exit.ensures) is
    (closed w reads c.deref.result.now a b d (c.deref.ensures.value ∙ c.in_ok-put_close.ensures) goes (c.in_ok-exchange_plain.ensures.exchanges printed))
    c.send_all.ensures.left c.send_all.ensures.sends c.send_all.ensures.part c.send_all.ensures.fails
