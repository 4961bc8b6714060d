use Rattle.std.proofs.Common.{sym, ap}
use Rattle.iio_desc.specs.Kind.{Kind, is_average}
use Rattle.iiod_bank.proofs.FrontLemmas.{kind_is}
use Rattle.iiod_bank.proofs.front.HubFront.is_average.Goals as goal

pub returns : goal.returns
returns c = ap (λ (k : Kind). is_average k) (sym (kind_is c.args.self.now c.args._dev))
