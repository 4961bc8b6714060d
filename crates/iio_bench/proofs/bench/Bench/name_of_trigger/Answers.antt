use Rattle.std.proofs.Common.{length, refl}
use Rattle.std.proofs.lemmas.Option.{slice_get_read}
use Rattle.iio_bench.specs.Bench.{front_of}
use Rattle.iio_bench.proofs.ToldLemmas.{name_there}
use Rattle.iio_bench.proofs.bench.Bench.name_of_trigger.Goals as goal

pub returns : goal.returns
returns g c =
    name_there (front_of c.args.self.now) c.args.trigger c.index.result.now
    (slice_get_read _ (length c.args.self.now.described.items) _ _ refl c.requires c.index.ensures)
