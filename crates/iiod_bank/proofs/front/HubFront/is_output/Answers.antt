use Rattle.std.proofs.Common.{sym, ap}
use Rattle.iio_desc.specs.Kind.{Kind, is_output}
use Rattle.iiod_bank.proofs.FrontLemmas.{kind_is}
use Rattle.iiod_bank.proofs.front.HubFront.is_output.Goals as goal

pub returns : goal.returns
returns c = ap (λ (k : Kind). is_output k) (sym (kind_is c.args.self.now c.args._dev))
