use Rattle.std.proofs.Common.{inl, ◌≡◌, ◌≤◌, ◌/◌, Ok, length, ap, subst, ◌∙◌, arith}
use Rattle.std.specs.Prelude.{⊤}
use Rattle.std.proofs.lemmas.Result.{err_from_is_err_and}
use Rattle.iiod_client.specs.declared.client_end.ClientEnd.TheVariants.{Memory}
use Rattle.iiod_client.specs.Answer.{Asked}
use Rattle.iiod_client.specs.Ask.{batch, readbuf_line, size_for, wanted_by}
use Rattle.iiod_client.specs.Awaited.{Scans}
use Rattle.iiod_client.specs.Exchange.{Exchanges, Fails, Reads}
use Rattle.iiod_client.specs.Point.{WroteFront, Wrote, point}
use Rattle.iiod_client.specs.Printed.{scan_lines}
use Rattle.iiod_client.specs.Standing.{AnswerRecord}
use Rattle.iiod_client.proofs.ClientLaws.{answer_few, answer_some, at_err, fails_reads, print_ends, print_fails, stops_none}
use Rattle.iiod_client.proofs.client.read_batch.Goals as goal

pub returns-in_err-put_readbuf-clause-reads : goal.returns-in_err-put_readbuf-clause-reads
returns-in_err-put_readbuf-clause-reads g c =
    let p = err_from_is_err_and c.from_residual.result c.from_residual.ensures.1 in
    let w = wanted_by c.args.ask.now in
    let l = g.L.Link.left c.args.link.now in
    let s = g.L.Link.written c.args.link.now in
    let o = g.K.Sink.written c.args.output.now in
    let a = point l c.args.incoming.now s o in
    at_err (λ r. Reads w c.args.got r a a) c.from_residual.result p.0 Memory p.1 p.2
    (inl (stops_none l c.args.incoming.now s o (readbuf_line w (batch w c.args.got))))

pub returns-in_err-answer-clause-reads : goal.returns-in_err-answer-clause-reads
returns-in_err-answer-clause-reads g c =
    let p = err_from_is_err_and c.from_residual-in_err-answer.result c.from_residual-in_err-answer.ensures.1 in
    let w = wanted_by c.args.ask.now in
    let l = g.L.Link.left c.args.link.now in
    let s = g.L.Link.written c.args.link.now in
    let o = g.K.Sink.written c.args.output.now in
    let a = point l c.args.incoming.now s o in
    at_err (λ r. Reads w c.args.got r a a) c.from_residual-in_err-answer.result p.0 Memory p.1 p.2
    (inl (stops_none l c.args.incoming.now s o (readbuf_line w (batch w c.args.got))))

pub returns-in_err-exchange_scans-clause-reads : goal.returns-in_err-exchange_scans-clause-reads
returns-in_err-exchange_scans-clause-reads g c =
    let p = err_from_is_err_and c.from_residual-in_err-exchange_scans.result c.from_residual-in_err-exchange_scans.ensures.1 in
    let w = wanted_by c.args.ask.now in
    let o = g.K.Sink.written c.args.output.now in
    let a = point (g.L.Link.left c.args.link.now) c.args.incoming.now (g.L.Link.written c.args.link.now) o in
    let b = point (g.L.Link.left c.exchange_scans.new.link) c.exchange_scans.new.incoming (g.L.Link.written c.exchange_scans.new.link) o in
    let asked = ap (λ (x : AnswerRecord). x.asked) c.in_ok-answer.ensures.new in
    let line = c.deref.ensures.value ∙ c.in_ok-put_readbuf.ensures ∙ ap (λ n. readbuf_line w n) c.batch_of.ensures.value in
    at_err (λ r. Reads w c.args.got r a b) c.from_residual-in_err-exchange_scans.result p.0 c.in_err-exchange_scans.field-0.0 p.1 p.2
    (fails_reads w c.args.got c.deref.result.now c.in_err-exchange_scans.field-0.0 a b line
    (subst (λ (q : Asked). Fails (Scans q) c.deref.result.now c.in_err-exchange_scans.field-0.0 a b) asked (c.in_err-exchange_scans.ensures.exchanges o)))

pub returns-in_err-print_scans-clause-reads : goal.returns-in_err-print_scans-clause-reads
returns-in_err-print_scans-clause-reads g c =
    let p = err_from_is_err_and c.from_residual-in_err-print_scans.result c.from_residual-in_err-print_scans.ensures.1 in
    let w = wanted_by c.args.ask.now in
    let o = g.K.Sink.written c.args.output.now in
    let t = g.K.Sink.written c.print_scans.new.output in
    let a = point (g.L.Link.left c.args.link.now) c.args.incoming.now (g.L.Link.written c.args.link.now) o in
    let l = g.L.Link.left c.exchange_scans.new.link in
    let s = g.L.Link.written c.exchange_scans.new.link in
    let body = c.exchange_scans.new.answer.body in
    let b = point l c.exchange_scans.new.incoming s o in
    let asked = ap (λ (x : AnswerRecord). x.asked) c.in_ok-answer.ensures.new in
    let line = c.deref.ensures.value ∙ c.in_ok-put_readbuf.ensures ∙ ap (λ n. readbuf_line w n) c.batch_of.ensures.value in
    let heard = subst (λ (q : Asked). Exchanges {A = ⊤} (Scans q) c.deref.result.now body (Ok tt) a b) asked (c.in_ok-exchange_scans.ensures.exchanges o) in
    at_err (λ r. Reads w c.args.got r a (point l c.exchange_scans.new.incoming s t)) c.from_residual-in_err-print_scans.result p.0
    c.in_err-print_scans.field-0.0 p.1 p.2
    (print_fails w c.args.got c.deref.result.now body c.in_err-print_scans.field-0.0 a l c.exchange_scans.new.incoming s o t line heard
    (subst (λ xs. WroteFront o (scan_lines w.shape w.mask xs) t) c.body.ensures c.in_err-print_scans.ensures.part) c.in_err-print_scans.ensures.fails)

pub overflow_cast-result-2 : goal.overflow_cast-result-2
overflow_cast-result-2 g c =
    let w = wanted_by c.args.ask.now in
    let body = c.exchange_scans.new.answer.body in
    let o = g.K.Sink.written c.args.output.now in
    let a = point (g.L.Link.left c.args.link.now) c.args.incoming.now (g.L.Link.written c.args.link.now) o in
    let b = point (g.L.Link.left c.exchange_scans.new.link) c.exchange_scans.new.incoming (g.L.Link.written c.exchange_scans.new.link) o in
    let asked = ap (λ (x : AnswerRecord). x.asked) c.in_ok-answer.ensures.new in
    let heard = subst (λ (q : Asked). Exchanges {A = ⊤} (Scans q) c.deref.result.now body (Ok tt) a b) asked (c.in_ok-exchange_scans.ensures.exchanges o) in
    let few = answer_few w c.args.got heard.0 body heard.1 in
    let same : length c.body-2.result.now / c.size_of-size.result ≡ length body / size_for w =
    ap (λ xs. length xs / c.size_of-size.result) c.body-2.ensures ∙ ap (λ n. length body / n) c.size_of-size.ensures.value in
    omega (arith, few, same)

pub returns-clause-some : goal.returns-clause-some
returns-clause-some g c =
    let w = wanted_by c.args.ask.now in
    let body = c.exchange_scans.new.answer.body in
    let o = g.K.Sink.written c.args.output.now in
    let a = point (g.L.Link.left c.args.link.now) c.args.incoming.now (g.L.Link.written c.args.link.now) o in
    let b = point (g.L.Link.left c.exchange_scans.new.link) c.exchange_scans.new.incoming (g.L.Link.written c.exchange_scans.new.link) o in
    let asked = ap (λ (x : AnswerRecord). x.asked) c.in_ok-answer.ensures.new in
    let heard = subst (λ (q : Asked). Exchanges {A = ⊤} (Scans q) c.deref.result.now body (Ok tt) a b) asked (c.in_ok-exchange_scans.ensures.exchanges o) in
    let few = answer_few w c.args.got heard.0 body heard.1 in
    let size : 1 ≤ size_for w = omega (arith, c.size_of-size.ensures.value, c.size_of-size.ensures.some) in
    let some = answer_some w c.args.got heard.0 body size heard.1 in
    let same : length c.body-2.result.now / c.size_of-size.result ≡ length body / size_for w =
    ap (λ xs. length xs / c.size_of-size.result) c.body-2.ensures ∙ ap (λ n. length body / n) c.size_of-size.ensures.value in
    (omega (arith, some, same), omega (arith, few, same, c.requires.more))

pub returns-clause-reads : goal.returns-clause-reads
returns-clause-reads g c =
    let w = wanted_by c.args.ask.now in
    let o = g.K.Sink.written c.args.output.now in
    let t = g.K.Sink.written c.print_scans.new.output in
    let a = point (g.L.Link.left c.args.link.now) c.args.incoming.now (g.L.Link.written c.args.link.now) o in
    let l = g.L.Link.left c.exchange_scans.new.link in
    let s = g.L.Link.written c.exchange_scans.new.link in
    let body = c.exchange_scans.new.answer.body in
    let b = point l c.exchange_scans.new.incoming s o in
    let asked = ap (λ (x : AnswerRecord). x.asked) c.in_ok-answer.ensures.new in
    let line = c.deref.ensures.value ∙ c.in_ok-put_readbuf.ensures ∙ ap (λ n. readbuf_line w n) c.batch_of.ensures.value in
    let heard = subst (λ (q : Asked). Exchanges {A = ⊤} (Scans q) c.deref.result.now body (Ok tt) a b) asked (c.in_ok-exchange_scans.ensures.exchanges o) in
    let same : length c.body-2.result.now / c.size_of-size.result ≡ length body / size_for w =
    ap (λ xs. length xs / c.size_of-size.result) c.body-2.ensures ∙ ap (λ n. length body / n) c.size_of-size.ensures.value in
    print_ends w c.args.got (length c.body-2.result.now / c.size_of-size.result) c.deref.result.now body a l c.exchange_scans.new.incoming s o t line heard
    (subst (λ xs. Wrote o (scan_lines w.shape w.mask xs) t) c.body.ensures c.in_ok-print_scans.ensures.prints) same
