use Rattle.iio_kinds.proofs.any_device.AnyDevice.host.Goals as goal

pub returns-in-Output-clause-hosts : goal.returns-in-Output-clause-hosts
returns-in-Output-clause-hosts g c = rw c.in-Output.is (c.host-in-Output.ensures c.args.mask.bits)

pub returns-in-Output-clause-full : goal.returns-in-Output-clause-full
returns-in-Output-clause-full g c = rw c.in-Output.is (λ input whole. absurd (cc))
