use Rattle.std.proofs.Common.{true}
use Rattle.iio_device.proofs.attributes.Fitted+IioDev+Q.read_attr.Goals as goal

pub returns : goal.returns
returns g c = rw c.in-Some.is (c.read.ensures true c.args.self.now.core.trigger c.args.self.now.core.attachment)
