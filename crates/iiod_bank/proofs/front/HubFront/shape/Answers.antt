use Rattle.std.proofs.Common.{sym}
use Rattle.iiod_bank.proofs.FrontLemmas.{face_at, shape_is}
use Rattle.iiod_bank.proofs.front.HubFront.shape.Goals as goal

pub returns : goal.returns
returns c = sym (shape_is c.args.self.now c.args.dev c.index.result.now (face_at c.args.self.now c.args.dev c.index.result.now c.requires c.index.ensures))
