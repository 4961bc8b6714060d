use Rattle.std.proofs.Common.{arith, sym, ◌∙◌}
use Rattle.iio_layout.specs.Shape.{stamp_formats}
use Rattle.iio_layout.specs.Laws.{first_value_is}
use Rattle.iio_layout.proofs.shape.Shape.new.Goals as goal

pub invariant_of-result : goal.invariant_of-result
invariant_of-result c =
    let channels = c.args.channels.items in
    let values = rw c.deref-3.ensures.value at c.starts_of-width.ensures in
    record {
      shape = rw (c.deref.ensures.value, c.deref-2.ensures.value) at (c.is_shape.ensures.0 c.if-not-is_shape.false);
      starts = λ k within. values.starts k within ∙ sym (first_value_is channels (stamp_formats c.args.stamp) k (omega arith));
      room = values.room;
      width = values.width;
      numbered = rw c.deref-4.ensures.value at c.are_numbered-numbered.ensures;
    }
