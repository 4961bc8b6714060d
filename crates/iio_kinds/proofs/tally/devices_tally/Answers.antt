use Rattle.std.proofs.Common.{rules}
use Rattle.iio_kinds.proofs.TallyLemmas.{device_more}
use Rattle.iio_kinds.proofs.tally.devices_tally.Goals as goal

pub loop-device-preserved : goal.loop-device-preserved
loop-device-preserved g c =
    device_more c.args.devices.now c.loop-device.device-index c.device-item.result c.loop-device.tally c.add_device.new.tally (search rules) (search rules)
    c.loop-device.invariant
    c.add_device.ensures.captures c.add_device.ensures.scans c.add_device.ensures.overruns c.add_device.ensures.bytes
