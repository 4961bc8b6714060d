use Rattle.std.proofs.Common.{w64}
use Rattle.std.proofs.lemmas.Int.{to_z-of_z}
use Rattle.iio_device.specs.Plug.{driver_of}
use Rattle.iio_device.specs.Device.{view_of}
use Rattle.iio_kinds.proofs.CallLemmas.{raw_keeps}
use Rattle.iio_kinds.proofs.RawLemmas.{raw_refused}
use Rattle.iio_kinds.proofs.calls.read_raw.Goals as goal

pub returns-in-Err-clause-reads : goal.returns-in-Err-clause-reads
returns-in-Err-clause-reads g c =
    let drive = driver_of (λ b. (g.dyn-1.0.entry b.vtable).1.driver b.value) in
    raw_refused c.args.t _ c.args.c (view_of drive c.args.device.now) (view_of drive c.raw.new.self) c.in-Err.fault c.raw_no.result
    (to_z-of_z w64 c.args.t c.ranges.t) c.in-Err.ensures.answer c.raw_no.ensures c.in-Err.ensures.state

pub returns-in-Err-clause-keeps : goal.returns-in-Err-clause-keeps
returns-in-Err-clause-keeps g c = raw_keeps _ _ c.in-Err.ensures.state
