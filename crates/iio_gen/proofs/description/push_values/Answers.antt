use Rattle.iio_gen.specs.Input.{value_word}
use Rattle.iio_gen.proofs.Several.{appends_more, appends_none}
use Rattle.iio_gen.proofs.description.push_values.Goals as goal

pub loop-channel-init : goal.loop-channel-init
loop-channel-init c = appends_none value_word c.args.draws.now.state c.args.out.now.items

pub loop-channel-preserved : goal.loop-channel-preserved
loop-channel-preserved c = appends_more value_word c.loop-channel.channel _ _ _ _ _ _ c.loop-channel.invariant c.in_ok-push_value.ensures
