use Rattle.std.proofs.Common.{rules, sym}
use Rattle.std.specs.Prelude.{int_le}
use Rattle.std.proofs.lemmas.List.Sorted.{IsPartitionPoint-from_clause}
use Rattle.iio_sensor.proofs.Rows.{count_to_point, moments_parted}
use Rattle.iio_sensor.proofs.recorded.come_by.Goals as goal

pub returns-clause-value : goal.returns-clause-value
returns-clause-value c =
    let moments = c.args.moments.now in
    let parted = moments_parted moments c.args.t c.requires in
    let point = IsPartitionPoint-from_clause (λ m. int_le m c.args.t) moments _ c.partition_point.ensures.partitioned parted (λ a r q k. search rules) in
    sym (count_to_point (λ m. int_le m c.args.t) moments _ c.partition_point.ensures.bound point)
