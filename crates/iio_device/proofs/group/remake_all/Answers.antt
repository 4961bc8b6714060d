use Rattle.std.proofs.Common.{rules, ◌≡◌, true, arith}
use Rattle.iio_mask.specs.Mask.{is_within}
use Rattle.iio_device.specs.Groups.{GroupRecord, remade}
use Rattle.iio_device.proofs.MoveLemmas.{moved_more, moved_all, moved_next, zip_is_map}
use Rattle.iio_device.proofs.group.remake_all.Goals as goal

pub remake-requires-clause-within : goal.remake-requires-clause-within
remake-requires-clause-within c =
    moved_next (λ x y. y ≡ remade c.args.shape.now c.args.active.bits x) (λ (g : GroupRecord). is_within g.mask c.args.active.bits ≡ true) _ _ _ _
    c.requires.within c.loop-i.invariant.moved (search rules) c.index_mut.ensures.value

pub loop-i-preserved : goal.loop-i-preserved
loop-i-preserved c = record {
  moved =
      moved_more (λ x y. y ≡ remade c.args.shape.now c.args.active.bits x) _ _ _ c.index_mut.result.now _ _ c.loop-i.invariant.moved (search rules)
      c.index_mut.ensures.value c.remake.ensures;
  all = c.loop-i.invariant.all;
  capacity = c.loop-i.invariant.capacity;
}

pub returns-clause-remade : goal.returns-clause-remade
returns-clause-remade c =
    zip_is_map (remade c.args.shape.now c.args.active.bits) _ _
    (moved_all (λ x y. y ≡ remade c.args.shape.now c.args.active.bits x) _ _ _ c.loop-i.invariant.moved (omega (arith, c.loop-i.invariant.all)))
