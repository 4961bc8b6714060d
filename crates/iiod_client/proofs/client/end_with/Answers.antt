use Rattle.std.proofs.Common.{subst}
use Rattle.iiod_client.specs.declared.client_end.ClientEnd.{ClientEnd}
use Rattle.iiod_client.specs.Exchange.{Breaks}
use Rattle.iiod_client.specs.Point.{point}
use Rattle.iiod_client.proofs.ClientLaws.{refusal_ends}
use Rattle.iiod_client.proofs.client.end_with.Goals as goal

pub returns-in-Refused-clause-ends : goal.returns-in-Refused-clause-ends
returns-in-Refused-clause-ends g c w a left pending sent broken =
    let o = g.K.Sink.written c.args.output.now in
    refusal_ends w c.in-Refused.number c.print_refused.result a left pending sent o (g.K.Sink.written c.print_refused.new.output)
    (subst (λ (e : ClientEnd). Breaks w e a (point left pending sent o)) c.in-Refused.is broken) c.print_refused.ensures.end c.print_refused.ensures.whole
    c.print_refused.ensures.part
