use Rattle.std.proofs.Common.{[], inl, inr}
use Rattle.iiod_client.specs.Ask.{wanted_by}
use Rattle.iiod_readdev.proofs.DueLaws.{read_due}
use Rattle.iiod_readdev.proofs.ReadLaws.{read_after}
use Rattle.iiod_readdev.proofs.dialled.dial_and_read.Goals as goal

pub returns-then-is_err-clause-reads : goal.returns-then-is_err-clause-reads
returns-then-is_err-clause-reads g c = (
  [],
  inl (c.end_undialled.ensures.ends (g.L.Link.left c.args.link.now) (g.L.Link.left c.dial.new.self) (g.L.Link.written c.args.link.now)
      (g.L.Link.written c.dial.new.self) c.dial.ensures.left c.dial.ensures.written),
)

pub returns-clause-reads : goal.returns-clause-reads
returns-clause-reads g c =
    let read = c.read_device.ensures.ends in (
      read.0,
      inr (read_after (wanted_by c.args.ask.now) c.read_device.result c.of_client.result (g.L.Link.left c.args.link.now) (g.L.Link.left c.dial.new.self)
          (g.L.Link.written c.args.link.now) (g.L.Link.written c.dial.new.self) _ _
          c.dial.ensures.left c.dial.ensures.written c.of_client.ensures read.1),
    )

pub returns-clause-exact : goal.returns-clause-exact
returns-clause-exact g c = λ due comes.
    read_due (wanted_by c.args.ask.now) c.read_device.result c.of_client.result due (g.L.Link.left c.args.link.now) (g.L.Link.left c.dial.new.self)
    c.dial.ensures.left c.of_client.ensures c.read_device.ensures.exact comes
