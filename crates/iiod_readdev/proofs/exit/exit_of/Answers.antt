use Rattle.iiod_readdev.proofs.DueLaws.{does}
use Rattle.iiod_readdev.proofs.exit.exit_of.Goals as goal

pub returns-clause-code : goal.returns-clause-code
returns-clause-code g c = record {
  status = c.readdev.result;
  code_is = c.exit_code.ensures;
  does = λ said words.
      does 4 said c.readdev.result (g.S.Source.left c.args.input.now) (g.S.Source.left c.readdev.new.input) (g.L.Link.left c.args.link.now)
      (g.L.Link.written c.args.link.now) (g.K.Sink.written c.args.output.now)
      (g.L.Link.left c.readdev.new.link) (g.L.Link.written c.readdev.new.link) (g.K.Sink.written c.readdev.new.output) (c.readdev.ensures.reads said words)
      (c.readdev.ensures.exact said words)
      (c.readdev.ensures.taken said words) (c.readdev.ensures.near said words);
  unprinted = c.readdev.ensures.nothing;
  not_usage = c.readdev.ensures.words;
  usage = c.readdev.ensures.usage;
  counts = c.readdev.ensures.counts;
}
