use Rattle.std.proofs.Common.{ap, refl}
use Rattle.iiod_readdev.specs.Words.{words_of}
use Rattle.iiod_readdev.proofs.DueLaws.{described_due, stops_due}
use Rattle.iiod_readdev.proofs.RunLaws.{described_reads, stops_reads}
use Rattle.iiod_readdev.proofs.WordLaws.{one_meaning}
use Rattle.iiod_readdev.proofs.reading.readdev.Goals as goal

pub returns-in_default-clause-reads : goal.returns-in_default-clause-reads
returns-in_default-clause-reads g c = λ said words. absurd (c.in_default.ensures.none refl said words)

pub returns-in_default-clause-words : goal.returns-in_default-clause-words
returns-in_default-clause-words g c = λ said words. absurd (c.in_default.ensures.none refl said words)

pub returns-in-Ok-clause-reads : goal.returns-in-Ok-clause-reads
returns-in-Ok-clause-reads g c = λ said words.
    described_reads c.args.drivers said (words_of c.in-Some.words) c.in-Ok.desc c.read_described.result (g.S.Source.left c.args.input.now)
    (g.L.Link.left c.args.link.now) (g.L.Link.left c.read_described.new.link) (g.L.Link.written c.args.link.now) (g.L.Link.written c.read_described.new.link)
    (g.K.Sink.written c.args.output.now) (g.K.Sink.written c.read_description.new.output) (g.K.Sink.written c.read_described.new.output)
    (one_meaning c.args.words.now (words_of c.in-Some.words) said c.in-Some.ensures.found words) (ap g.K.Sink.written c.in-Ok.ensures.unwritten)
    c.in-Ok.ensures.described c.read_described.ensures.reads

pub returns-in-Err-clause-reads : goal.returns-in-Err-clause-reads
returns-in-Err-clause-reads g c = λ said words.
    stops_reads c.args.drivers said c.in-Err.status c.of_run-in-Err.result (g.S.Source.left c.args.input.now) (g.L.Link.left c.args.link.now)
    (g.L.Link.written c.args.link.now)
    (g.K.Sink.written c.args.output.now) (g.K.Sink.written c.read_description.new.output) c.of_run-in-Err.ensures c.in-Err.ensures.stopped
    c.in-Err.ensures.status c.in-Err.ensures.lines
    (λ failed. ap g.K.Sink.written (c.in-Err.ensures.nothing failed))

pub returns-in_default-clause-exact : goal.returns-in_default-clause-exact
returns-in_default-clause-exact g c = λ said words. absurd (c.in_default.ensures.none refl said words)

pub returns-in-Ok-clause-exact : goal.returns-in-Ok-clause-exact
returns-in-Ok-clause-exact g c = λ said words.
    described_due c.args.drivers said (words_of c.in-Some.words) c.in-Ok.desc c.read_described.result (g.S.Source.left c.args.input.now)
    (g.L.Link.left c.args.link.now)
    (one_meaning c.args.words.now (words_of c.in-Some.words) said c.in-Some.ensures.found words) c.in-Ok.ensures.described c.read_described.ensures.exact

pub returns-in-Err-clause-exact : goal.returns-in-Err-clause-exact
returns-in-Err-clause-exact g c = λ said words.
    stops_due c.args.drivers said c.in-Err.status c.of_run-in-Err.result (g.S.Source.left c.args.input.now) (g.L.Link.left c.args.link.now)
    c.of_run-in-Err.ensures c.in-Err.ensures.stopped c.in-Err.ensures.status
