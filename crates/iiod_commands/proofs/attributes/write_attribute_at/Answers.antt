use Rattle.std.proofs.Common.{sym}
use Rattle.std.proofs.lemmas.Result.{err_from_is_err_and}
use Rattle.iio_core.specs.Front.{kind_at}
use Rattle.iiod_commands.specs.Targets.{assignment_of_code}
use Rattle.iiod_commands.proofs.AttributeLaws.{writes, writes_refused}
use Rattle.iiod_commands.proofs.NameLaws.{may_write}
use Rattle.iiod_commands.proofs.attributes.write_attribute_at.Goals as goal

pub write_attr-requires-clause-may_write : goal.write_attr-requires-clause-may_write
write_attr-requires-clause-may_write g c =
    may_write _ _ c.plugged-plugged.result c.args.is_open _ _ _ (assignment_of_code c.in_ok-x.x)
    (sym (rw c.shape.ensures at (c.in_ok-x.ensures (kind_at _ c.args.dev) c.kind_of-kind.ensures)))

pub returns-in_err-x-clause-told : goal.returns-in_err-x-clause-told
returns-in_err-x-clause-told g c = λ client same.
    let p = err_from_is_err_and c.from_residual.result c.from_residual.ensures.1 in
    rw (p.1, p.2)
    (writes_refused _ _ client _ _ _ _ c.args.is_open c.plugged-plugged.result c.shape.result.now _ same c.plugged-plugged.ensures c.shape.ensures
    (c.in_err-x.ensures (kind_at _ c.args.dev) c.kind_of-kind.ensures))

pub returns-clause-told : goal.returns-clause-told
returns-clause-told g c = λ client same.
    writes _ _ _ client _ _ _ _ c.args.is_open c.plugged-plugged.result c.shape.result.now (assignment_of_code c.in_ok-x.x) _ same c.plugged-plugged.ensures
    c.shape.ensures (c.in_ok-x.ensures (kind_at _ c.args.dev) c.kind_of-kind.ensures)
    c.write_attr.ensures.told
