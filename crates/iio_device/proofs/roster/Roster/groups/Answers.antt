use Rattle.std.proofs.Common.{rules, ◌<◌, ◌^◌, length}
use Rattle.iio_device.proofs.CountLemmas.{group_count, group_few}
use Rattle.iio_device.proofs.roster.Roster.groups.Goals as goal

pub overflow_cast-result : goal.overflow_cast-result
overflow_cast-result g c =
    let tail = g.Q.Tail in
    let roster = c.args.self.now in
    let few : length roster.groups.items < 2 ^ 32 =
    group_few roster.shape _ roster.members.items roster.groups.items roster.sound.grouped roster.sound.few in
    search rules

pub returns : goal.returns
returns g c =
    let tail = g.Q.Tail in
    let roster = c.args.self.now in
    let count = group_count roster.shape _ roster.members.items roster.groups.items roster.sound.grouped in
    search rules
