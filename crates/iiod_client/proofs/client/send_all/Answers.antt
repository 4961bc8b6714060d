use Rattle.iiod_client.proofs.Heard.{part_front}
use Rattle.iiod_client.proofs.client.send_all.Goals as goal

pub returns-in-Err-clause-part : goal.returns-in-Err-clause-part
returns-in-Err-clause-part g c = part_front (g.L.Link.written c.args.link.now) (g.L.Link.written c.send_whole.new.link) c.args.bytes.now c.in-Err.ensures.part
