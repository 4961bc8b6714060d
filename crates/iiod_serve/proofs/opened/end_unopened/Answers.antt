use Rattle.iiod_serve.proofs.ServeLaws.{unopened_told}
use Rattle.iiod_serve.proofs.opened.end_unopened.Goals as goal

pub returns-in-Err-clause-lines : goal.returns-in-Err-clause-lines
returns-in-Err-clause-lines g c = unopened_told (g.K.Sink.written c.args.output.now) (g.K.Sink.written c.write_whole.new.sink) c.in-Err.ensures.part
