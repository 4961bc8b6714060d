use Rattle.std.proofs.Common.{◌-◌}
use Rattle.iio_kinds.specs.Acting.{id_of}
use Rattle.iio_kinds.proofs.OutLemmas.{live_there, live_within, live_writes, none_writes}
use Rattle.iio_kinds.proofs.out_device.OutDevice.write.Goals as goal

pub returns-then-is_live-clause-acts : goal.returns-then-is_live-clause-acts
returns-then-is_live-clause-acts c =
    rw c.answer_of.ensures
    (live_writes c.args.self.now c.args.number c.args.mask c.args.bytes.now c.if-not-self.false c.if-is_live.ensures.live c.write.result c.write.new.self
    c.is_live.ensures.sized c.write.ensures.answer c.write.ensures.written)

pub returns-then-is_live-clause-within : goal.returns-then-is_live-clause-within
returns-then-is_live-clause-within c =
    rw c.answer_of.ensures
    (live_within c.args.self.now.out.writer c.write.result c.args.bytes.now
    (live_there (c.args.self.now.starts - 1) c.args.self.now.out.underruns
    (id_of c.args.number c.args.mask) c.args.self.now.out.writer c.if-is_live.ensures.live)
    c.write.ensures.answer)

pub returns-else-is_live-clause-acts : goal.returns-else-is_live-clause-acts
returns-else-is_live-clause-acts c =
    rw c.write_nowhere.ensures (none_writes c.args.self.now c.args.number c.args.mask c.args.bytes.now c.if-not-self.false c.if-is_live.ensures.live)
