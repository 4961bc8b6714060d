use Rattle.std.proofs.Common.{rules, arith}
use Rattle.iiod_commands.specs.Client.{client_of}
use Rattle.iiod_commands.proofs.SettleLaws.{buffers_set}
use Rattle.iiod_commands.proofs.buffers.set_buffers_at.Goals as goal

pub returns-clause-told : goal.returns-clause-told
returns-clause-told g c =
    buffers_set _ (client_of g.I.Iio.seen c.args.client.now) _ c.args.dev c.args.count c.plugged.result c.plugged.ensures (search rules) (omega arith)
    (omega arith)
    (search rules)
