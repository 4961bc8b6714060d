use Rattle.std.proofs.Common.{rules}
use Rattle.iio_device.proofs.DeviceLemmas.{offered_by}
use Rattle.iio_device.proofs.handling.Fitted+IioDev+Q.handle.Goals as goal

pub returns-in-Ok : goal.returns-in-Ok
returns-in-Ok g c =
    let tail = g.Q.Tail in (
      search rules,
      search rules,
      (
        search rules,
        search rules,
        offered_by tail _ c.args.self.now.core.roster.shape _ c.in-Some.plug _
            c.args.due.now.t _ _ c.in-Some.is (search rules) c.in-Ok.ensures.captures.2,
      ),
      search rules,
    )
