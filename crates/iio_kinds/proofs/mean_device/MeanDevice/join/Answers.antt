use Rattle.std.proofs.Common.{◌∙◌, ap}
use Rattle.iio_kinds.proofs.SeatedLemmas.{joined_sound, joined_told, told_anew}
use Rattle.iio_layout.specs.Layout.{scan_size}
use Rattle.iio_kinds.proofs.mean_device.MeanDevice.join.Goals as goal

pub invariant_of-self-2 : goal.invariant_of-self-2
invariant_of-self-2 c = record {
  sound = rw (c.push_reserved.ensures.items, c.reserve.ensures.items, c.attachment_with-starts.ensures)
      (joined_sound c.args.self.now.average c.join.new.self c.args.mask c.args.capacity c.in-Ok.slot c.args.self.now.captures c.args.self.now.next
      c.args.self.now.starts c.args.self.now.seats.items
      c.in-Ok.ensures c.args.self.now.sound);
}

pub returns-clause-joins : goal.returns-clause-joins
returns-clause-joins c =
    let old = c.args.self.now in (
      ap (λ n. record { number = old.next; mask = c.args.mask; size = n; capacity = c.args.capacity })
          (c.scan_size-size.ensures.value ∙ ap (λ s. scan_size s c.args.mask.bits) (c.shape.ensures ∙ ap (λ a. a.shape) c.in-Ok.ensures.2)),
      rw (c.push_reserved.ensures.items, c.reserve.ensures.items, c.attachment_with-starts.ensures)
          (joined_told old.average c.join.new.self c.args.mask c.args.capacity c.in-Ok.slot old.captures old.next old.starts old.seats.items
          c.in-Ok.ensures old.sound
          old.plugged old.totals),
      told_anew old.average old.plugged old.captures old.next old.starts old.totals old.seats.items old.sound,
    )
