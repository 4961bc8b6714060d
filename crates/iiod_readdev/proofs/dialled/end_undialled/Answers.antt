use Rattle.std.proofs.Common.{refl}
use Rattle.iiod_serve.specs.Served.{no_address_line}
use Rattle.iiod_readdev.proofs.ReadLaws.{front_of_part}
use Rattle.iiod_readdev.proofs.dialled.end_undialled.Goals as goal

pub returns-in-Err-clause-ends : goal.returns-in-Err-clause-ends
returns-in-Err-clause-ends g c = λ left left' sent sent' same_left same_sent. (
  front_of_part no_address_line (g.K.Sink.written c.args.output.now) (g.K.Sink.written c.write_whole.new.sink) c.in-Err.ensures.part,
  record { left = same_left; pending = refl; sent = same_sent },
)
