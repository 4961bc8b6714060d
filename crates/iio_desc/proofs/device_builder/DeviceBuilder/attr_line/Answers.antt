use Rattle.std.proofs.Common.{◌≡◌, ◌<◌, length, Some, true, sym, ◌∙◌}
use Rattle.std.specs.Prelude.{IfSome, Option}
use Rattle.std.proofs.Common.{ℕ}
use Rattle.std.proofs.lemmas.List.Elements.{All-push}
use Rattle.iio_attr.specs.Attributes.{is_writable}
use Rattle.iio_desc.specs.WellFormed.{IsWrite}
use Rattle.iio_desc.proofs.RefusalLemmas.{ensured}
use Rattle.iio_desc.proofs.device_builder.DeviceBuilder.attr_line.Goals as goal

pub invariant_of-self-2 : goal.invariant_of-self-2
invariant_of-self-2 c =
    let inside = c.self.inside in
    let channel : Option ℕ = c.in_ok-channel.channel in
    let pushed = c.in_ok-push.ensures.items in
    let named : c.read_channel.result ≡ Some channel = c.in_ok-channel.ensures.ok_part in
    let within : IfSome channel (λ n. n < length c.args.self.now.channels) = rw named at c.read_channel.ensures.within in
    let can : is_writable c.in_ok-attr.attr ≡ true = sym c.writable.ensures ∙ ensured _ _ _ _ c.ensure-2.ensures c.in_ok-ensure-2.was in
    record {
      width = c.self.invariant.width;
      narrow = c.self.invariant.narrow;
      few = c.self.invariant.few;
      distinct = c.self.invariant.distinct;
      listed = c.self.invariant.listed;
      rises = c.self.invariant.rises;
      whole = c.self.invariant.whole;
      writes =
          rw pushed (All-push (IsWrite (length inside.channels.items)) inside.attrs.items _ c.self.invariant.writes
          (record { channel = rw (← c.self.view_is) at within; writable = can }));
    }
