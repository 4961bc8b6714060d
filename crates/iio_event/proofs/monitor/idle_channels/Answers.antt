use Rattle.iio_event.specs.Monitor.{idle_channel}
use Rattle.iio_event.proofs.QueueLemmas.{map-take-more}
use Rattle.iio_event.proofs.monitor.idle_channels.Goals as goal

pub loop-c-preserved : goal.loop-c-preserved
loop-c-preserved c =
    rw ((c.in_ok-push.ensures {u = tt}).items, c.loop-c.invariant, c.idle.ensures)
    (map-take-more idle_channel c.args.shape.now.channels c.loop-c.c c.channel.result.now c.channel.ensures)
