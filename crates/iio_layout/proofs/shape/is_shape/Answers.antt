use Rattle.std.proofs.Common.{◌<◌, ◌^◌, length, arith, map}
use Rattle.std.proofs.lemmas.Bool.Decides.{nat_tests}
use Rattle.std.proofs.lemmas.List.Elements.{All-map}
use Rattle.iio_mask.specs.declared.Mask.{Mask}
use Rattle.iio_layout.proofs.ShapeLemmas.{All-unmap}
use Rattle.iio_layout.specs.Laws.{count_is}
use Rattle.iio_layout.proofs.shape.is_shape.Goals as goal

pub returns : goal.returns
returns c =
    let inputs = length c.args.channels.now in
    let count = count_is (record { channels = c.args.channels.now; stamp = c.args.stamp; listed = map (λ m. m.bits) c.args.listed.now }) in
    let most = c.max_channels.ensures in (
      λ each. record {
        some = grind (arith, nat_tests);
        few = omega arith;
        distinct = c.are_distinct.ensures.0 c.if-not-are_distinct.false;
        listed = All-map (λ mask. (0 < mask) × (mask < 2 ^ inputs)) (λ m. m.bits) c.args.listed.now (c.are_listable.ensures.0 each);
      },
      λ shape. c.are_listable.ensures.1 (All-unmap (λ mask. (0 < mask) × (mask < 2 ^ inputs)) (λ (m : Mask). m.bits) c.args.listed.now shape.listed),
    )
