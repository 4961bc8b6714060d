use Rattle.std.proofs.Common.{arith, rules}
use Rattle.std.proofs.lemmas.Grind.{elements}
use Rattle.std.proofs.lemmas.Result.{err_from_is_err_and}
use Rattle.iiod_commands.specs.Client.{client_of}
use Rattle.iio_core.specs.Front.{kind_at}
use Rattle.iiod_commands.proofs.SeatsLaws.{opens, opens_by, refuses}
use Rattle.iiod_commands.proofs.seats.open_at.Goals as goal

pub returns-in_err-wanted-clause-told : goal.returns-in_err-wanted-clause-told
returns-in_err-wanted-clause-told g c =
    let p = err_from_is_err_and c.from_residual.result c.from_residual.ensures.1 in
    rw (p.1, p.2) (refuses _ _ (client_of g.I.Iio.seen c.args.client.now) c.args.dev c.args.samples c.args.text.now c.args.cyclic c.is_some-is_open.result
    c.plugged-plugged.result
    c.shape.result.now
    c.buffers_of-buffers.result _ (search rules) c.plugged-plugged.ensures c.shape.ensures (search rules)
    (c.in_err-wanted.ensures.value (kind_at _ c.args.dev) c.is_output.ensures))

pub returns-clause-told : goal.returns-clause-told
returns-clause-told g c =
    let at = c.place.ensures.place g.I.Iio.seen in
    opens _ _ _ (client_of g.I.Iio.seen c.args.client.now) _ c.args.dev c.args.samples c.args.text.now c.args.cyclic c.is_some-is_open.result
    c.plugged-plugged.result c.shape.result.now
    c.buffers_of-buffers.result c.in_ok-wanted.wanted _ (search (rules, at)) c.plugged-plugged.ensures c.shape.ensures (search rules)
    (c.in_ok-wanted.ensures.value (kind_at _ c.args.dev) c.is_output.ensures) c.join.ensures.told

pub returns-clause-moves : goal.returns-clause-moves
returns-clause-moves g c =
    opens_by _ _ c.args.samples c.args.text.now c.args.cyclic _ _ c.shape.result.now c.buffers_of-buffers.result _
    c.join.result
    c.shape.ensures (search rules) (c.in_ok-wanted.ensures.wanted (kind_at _ c.args.dev) c.is_output.ensures) c.join.ensures.moves

pub join-requires-clause-cycles : goal.join-requires-clause-cycles
join-requires-clause-cycles g c = (c.in_ok-wanted.ensures.wanted (kind_at _ c.args.dev) c.is_output.ensures).cycles

pub join-requires-clause-may_open : goal.join-requires-clause-may_open
join-requires-clause-may_open g c = grind (arith, elements)
