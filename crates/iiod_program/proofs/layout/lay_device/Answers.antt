use Rattle.std.proofs.Common.{List, ℕ, subst}
use Rattle.iio_script.specs.Ends.{Finishes}
use Rattle.iiod_program.specs.Layout.{laid_out}
use Rattle.iiod_serve.proofs.HeadLaws.{prints_none}
use Rattle.iiod_program.proofs.layout.lay_device.Goals as goal

pub returns-in-Ok-clause-prints : goal.returns-in-Ok-clause-prints
returns-in-Ok-clause-prints g c =
    c.end_with.ensures.prints (laid_out c.args.desc.now c.args.device.now c.args.mask.now)
    (subst (λ (b : List ℕ). Finishes (laid_out c.args.desc.now c.args.device.now c.args.mask.now) c.in-Ok.status b c.lay_out.new.out.items)
    c.new-out.ensures.items c.in-Ok.ensures)

pub returns-clause-prints : goal.returns-clause-prints
returns-clause-prints g c = prints_none (laid_out c.args.desc.now c.args.device.now c.args.mask.now) _
