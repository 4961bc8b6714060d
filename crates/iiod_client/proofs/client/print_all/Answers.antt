use Rattle.iiod_client.proofs.Heard.{part_front}
use Rattle.iiod_client.proofs.client.print_all.Goals as goal

pub returns-in-Err-clause-part : goal.returns-in-Err-clause-part
returns-in-Err-clause-part g c =
    part_front (g.K.Sink.written c.args.output.now) (g.K.Sink.written c.write_whole.new.sink) c.args.bytes.now c.in-Err.ensures.part
