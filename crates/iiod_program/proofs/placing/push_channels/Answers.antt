use Rattle.std.proofs.Common.{sym, ◌∙◌}
use Rattle.iio_mask.specs.Mask.{has}
use Rattle.iiod_program.specs.Placing.{channel_line}
use Rattle.iio_layout.proofs.SelectedLemmas.{said_selected, said_other}
use Rattle.iiod_program.proofs.placing.push_channels.Goals as goal
use Rattle.iiod_program.proofs.placing.push_channels.Goals.{then-contains+in_ok-push_channel, else-contains}

pub loop-c-preserved : goal.loop-c-preserved
loop-c-preserved c =
    let line = channel_line c.args.shape.now c.args.mask.bits in
    let before = c.args.out.now.items in
    elim c.if-contains.branch [
      | then-contains+in_ok-push_channel w ↦
          rw w.out-is (said_selected line (has c.args.mask.bits) c.loop-c.c before c.loop-c.out.items w.push_channel.new.out.items
          (sym c.contains.ensures ∙ w.if-contains.true)
          c.loop-c.invariant w.in_ok-push_channel.ensures)
      | else-contains w ↦
          rw w.out-is (said_other line (has c.args.mask.bits) c.loop-c.c before c.loop-c.out.items (sym c.contains.ensures ∙ w.if-contains.false)
          c.loop-c.invariant)
    ]
