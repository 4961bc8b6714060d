use Rattle.std.proofs.Common.{◌≡◌, ◌+◌, ◌-◌, ◌*◌, ap, arith}
use Rattle.iio_kfifo.proofs.reader.Reader.take_scans.Goals as goal

pub take_some-run-requires-clause-room : goal.take_some-run-requires-clause-room
take_some-run-requires-clause-room c =
    let i = c.loop-taken.invariant in
    let size = c.args.self.now.size in
    let same : c.loop-taken.self.size ≡ size = ap (λ s. s.size) i.same in
    let whole : c.loop-taken.taken + (c.args.most - c.loop-taken.taken) ≡ c.args.most = omega (arith, i.below) in
    let both : (c.loop-taken.taken + (c.args.most - c.loop-taken.taken)) * size ≡ c.args.most * size = ap (λ n. n * size) whole in
    rw same (omega (arith, both, i.sized, i.room, c.requires))
