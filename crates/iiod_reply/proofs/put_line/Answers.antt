use Rattle.std.proofs.Common.{[], ◌∷◌, arith, length-append}
use Rattle.iiod_reply.proofs.CameLaws.{put_beside}
use Rattle.iiod_reply.proofs.put_line.Goals as goal

pub returns-clause-items : goal.returns-clause-items
returns-clause-items c =
    put_beside c.args.at c.args.out.now.items c.args.text.now (10 ∷ []) c.overwrite.new.out.items c.overwrite-2.new.out.items
    (omega (arith, c.requires, length-append c.args.text.now (10 ∷ []))) c.overwrite.ensures.items c.overwrite-2.ensures.items
