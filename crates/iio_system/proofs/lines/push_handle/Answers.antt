use Rattle.std.proofs.Common.{arith}
use Rattle.iio_bench.proofs.RoomLemmas.{line_stands}
use Rattle.iio_system.proofs.lines.push_handle.Goals as goal

pub returns : goal.returns
returns c =
    line_stands c.args.out.now.items _ c.resize.new.self.items c.put_handle-end.new.out.items c.truncate.new.self.items _ c.len-start.result 96
    c.put_handle-end.result
    (omega (arith, c.len-start.ensures, c.args.out.now.ok.0)) c.in_ok-resize.ensures.items c.put_handle-end.ensures.text c.truncate.ensures.items
