use Rattle.std.proofs.Common.{rules, sym, ◌∙◌, Ok, arith}
use Rattle.std.proofs.lemmas.Grind.{common_steps}
use Rattle.std.proofs.lemmas.Result.{err_from_is_err_and}
use Rattle.std.specs.Option.{option_copied}
use Rattle.iiod_grammar.specs.View.{place_view}
use Rattle.iiod_commands.specs.Client.{client_of}
use Rattle.iio_core.specs.Front.{kind_at, shape_at}
use Rattle.iiod_commands.specs.Targets.{named_of_code, named_view}
use Rattle.iiod_commands.proofs.AttributeLaws.{reads_found, reads_refused}
use Rattle.iiod_commands.proofs.NameLaws.{found_named, may_read}
use Rattle.iiod_commands.proofs.attributes.read_attribute_at.Goals as goal

pub read_device-requires-clause-may_read : goal.read_device-requires-clause-may_read
read_device-requires-clause-may_read g c =
    may_read _ _ (place_view c.args.place) (option_copied c.args.name) (named_of_code c.in_ok-target.target)
    (found_named (kind_at (g.I.Iio.front (g.I.Iio.kept c.args.iio.now)) c.args.dev) (shape_at (g.I.Iio.front (g.I.Iio.kept c.args.iio.now)) c.args.dev)
    c.plugged-plugged.result c.is_some-is_open.result (place_view c.args.place) (option_copied c.args.name) (named_of_code c.in_ok-target.target)
    (sym (rw c.shape.ensures at (c.in_ok-target.ensures (kind_at (g.I.Iio.front (g.I.Iio.kept c.args.iio.now)) c.args.dev) c.kind_of-kind.ensures))))
    (sym c.is_of_buffer-of_buffer.ensures ∙ c.if-of_buffer.false)

pub returns-in_err-target-clause-told : goal.returns-in_err-target-clause-told
returns-in_err-target-clause-told g c =
    let p = err_from_is_err_and c.from_residual.result c.from_residual.ensures.1 in
    rw (p.1, p.2)
    (reads_refused _ _ (client_of g.I.Iio.seen c.args.client.now) _ _ _ c.is_some-is_open.result c.plugged-plugged.result c.shape.result.now _
    (search rules) c.plugged-plugged.ensures c.shape.ensures (c.in_err-target.ensures (kind_at _ c.args.dev) c.kind_of-kind.ensures))

pub returns-then-of_buffer-clause-told : goal.returns-then-of_buffer-clause-told
returns-then-of_buffer-clause-told g c =
    reads_found _ _ _ (client_of g.I.Iio.seen c.args.client.now) _ _ _ c.is_some-is_open.result c.plugged-plugged.result c.is_of_buffer-of_buffer.result
    c.shape.result.now (named_view (Ok c.in_ok-target.target)) _
    (search rules) c.plugged-plugged.ensures c.shape.ensures c.is_of_buffer-of_buffer.ensures
    (c.in_ok-target.ensures (kind_at _ c.args.dev) c.kind_of-kind.ensures)
    (rw c.if-of_buffer.true c.read_buffer.ensures.told)

pub returns-else-of_buffer-clause-told : goal.returns-else-of_buffer-clause-told
returns-else-of_buffer-clause-told g c =
    reads_found _ _ _ (client_of g.I.Iio.seen c.args.client.now) _ _ _ c.is_some-is_open.result c.plugged-plugged.result c.is_of_buffer-of_buffer.result
    c.shape.result.now (named_view (Ok c.in_ok-target.target)) _
    (search rules) c.plugged-plugged.ensures c.shape.ensures c.is_of_buffer-of_buffer.ensures
    (c.in_ok-target.ensures (kind_at _ c.args.dev) c.kind_of-kind.ensures)
    (rw c.if-of_buffer.false (c.read_device.ensures.told (client_of g.I.Iio.seen c.args.client.now)))

pub returns-else-of_buffer-clause-client : goal.returns-else-of_buffer-clause-client
returns-else-of_buffer-clause-client g c = grind (arith, common_steps)
