use Rattle.iiod_client.specs.declared.client_end.ClientEnd.TheVariants.{Done}
use Rattle.iiod_client.specs.Ask.{wanted_by}
use Rattle.iiod_client.specs.Point.{point}
use Rattle.iiod_client.proofs.EndLaws.{ends_from}
use Rattle.iiod_client.proofs.client.read_device.Goals as goal

pub returns-in-Err-clause-exact : goal.returns-in-Err-clause-exact
returns-in-Err-clause-exact g c =
    let w = wanted_by c.args.ask.now in
    let l = g.L.Link.left c.args.link.now in
    let s = g.L.Link.written c.args.link.now in
    let o = g.K.Sink.written c.args.output.now in
    let p = c.new-incoming.result in
    let m = g.L.Link.left c.talk.new.link in
    let t = g.L.Link.written c.talk.new.link in
    ends_from w c.end_with.result l p s o (point m c.talk.new.incoming t (g.K.Sink.written c.end_with.new.output)) c.new-incoming.ensures
    (c.end_with.ensures.ends w (point l p s o) m c.talk.new.incoming t c.in-Err.ensures.talks)

pub returns-clause-exact : goal.returns-clause-exact
returns-clause-exact g c =
    let l = g.L.Link.left c.args.link.now in
    let s = g.L.Link.written c.args.link.now in
    let o = g.K.Sink.written c.args.output.now in
    ends_from (wanted_by c.args.ask.now) Done l c.new-incoming.result s o
    (point (g.L.Link.left c.talk.new.link) c.talk.new.incoming (g.L.Link.written c.talk.new.link) (g.K.Sink.written c.talk.new.output)) c.new-incoming.ensures
    c.in_default.ensures.talks
