use Rattle.iiod_grammar.proofs.ScanLemmas.{feed_scans, feed_ends}
use Rattle.iiod_grammar.proofs.lines.Lines.feed.Goals as goal

pub returns-clause-items : goal.returns-clause-items
returns-clause-items c =
    feed_scans c.args.self.now c.args.bytes.now _ _ _ c.advance.ensures.begun c.advance.ensures.taken c.advance.ensures.ready c.advance.ensures.state

pub returns-clause-piece : goal.returns-clause-piece
returns-clause-piece c = feed_ends c.args.self.now c.args.bytes.now _ _ c.advance.ensures.ready c.advance.ensures.state
