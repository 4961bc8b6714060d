use Rattle.iio_gen.specs.Input.{channel_line}
use Rattle.iio_gen.proofs.Several.{appends_more, appends_none}
use Rattle.iio_gen.proofs.description.push_channels.Goals as goal

pub loop-i-init : goal.loop-i-init
loop-i-init c = appends_none channel_line c.args.draws.now.state c.args.out.now.items

pub loop-i-preserved : goal.loop-i-preserved
loop-i-preserved c = appends_more channel_line c.loop-i.i _ _ _ _ _ _ c.loop-i.invariant c.in_ok-push_channel.ensures
