use Rattle.std.proofs.Common.{rules, ◌≡◌, length, arith}
use Rattle.iio_device.specs.Groups.{GroupRecord, laid_out}
use Rattle.iio_device.proofs.MoveLemmas.{moved_more, moved_all, moved_next, zip_is_map}
use Rattle.iio_device.proofs.group.lay_out_all.Goals as goal

pub lay_out_under-requires-clause-union : goal.lay_out_under-requires-clause-union
lay_out_under-requires-clause-union c =
    moved_next (λ x y. y ≡ laid_out c.args.active.bits c.args.union.now x) (λ (g : GroupRecord). length c.args.union.now ≡ g.table.active_size) _ _ _ _
    c.requires.union c.loop-i.invariant.moved (search rules) c.index_mut.ensures.value

pub lay_out_under-requires-clause-room : goal.lay_out_under-requires-clause-room
lay_out_under-requires-clause-room c =
    moved_next (λ x y. y ≡ laid_out c.args.active.bits c.args.union.now x) (λ (g : GroupRecord). length g.scan ≡ g.table.buffer_size) _ _ _ _
    c.requires.room c.loop-i.invariant.moved (search rules) c.index_mut.ensures.value

pub loop-i-preserved : goal.loop-i-preserved
loop-i-preserved c = record {
  moved =
      moved_more (λ x y. y ≡ laid_out c.args.active.bits c.args.union.now x) _ _ _ c.index_mut.result.now _ _ c.loop-i.invariant.moved (search rules)
      c.index_mut.ensures.value c.lay_out_under.ensures;
  all = c.loop-i.invariant.all;
}

pub returns : goal.returns
returns c =
    zip_is_map (laid_out c.args.active.bits c.args.union.now) _ _
    (moved_all (λ x y. y ≡ laid_out c.args.active.bits c.args.union.now x) _ _ _ c.loop-i.invariant.moved (omega (arith, c.loop-i.invariant.all)))
