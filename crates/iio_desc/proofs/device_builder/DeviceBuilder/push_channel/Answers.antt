use Rattle.std.proofs.Common.{◌≡◌, ◌+◌, ◌<◌, [], ◌∷◌, ◌++◌, length, arith, ap, sym, ◌∙◌, length-append}
use Rattle.std.proofs.Math.Nat.{zero-mul}
use Rattle.std.proofs.lemmas.List.Elements.{All-nil}
use Rattle.iio_layout.specs.declared.channel.Channel.{Channel}
use Rattle.iio_desc.specs.View.{partial_device}
use Rattle.iio_desc.proofs.ChannelLemmas.{distinct_push, width_push, only_channels}
use Rattle.iio_desc.proofs.device_builder.DeviceBuilder.push_channel.Goals as goal

pub invariant_of-self-2 : goal.invariant_of-self-2
invariant_of-self-2 c =
    let inside = c.self.inside in
    let channel : Channel = record { kind = c.args.id.0; suffix = c.args.id.1; direction = inside.direction; ty = c.args.ty } in
    let pushed : c.push.new.self.items ≡ inside.channels.items ++ channel ∷ [] = c.in_ok-push.ensures.items in
    let count : length (inside.channels.items ++ channel ∷ []) ≡ length inside.channels.items + 1 = length-append inside.channels.items (channel ∷ []) in
    let wider = width_push inside.channels.items channel in
    let only = only_channels (partial_device inside) (rw (← c.self.view_is) at c.requires.fresh) in
    let room : length inside.channels.items < 64 = rw (← c.self.view_is) at c.requires.few in
    let none : length inside.moments.items ≡ 0 = ap length only.moments in
    let unvalued : length inside.values.items ≡ 0 = c.self.invariant.whole ∙ rw none (zero-mul _) in
    record {
      width = rw pushed (omega (arith, c.self.invariant.width, wider));
      narrow = rw pushed (omega (arith, count));
      few = rw (pushed, only.stamp) (omega (arith, count));
      distinct =
          rw pushed (distinct_push inside.channels.items c.args.id inside.direction c.args.ty c.self.invariant.distinct
          (rw (← c.self.view_is) at c.requires.own));
      listed = rw only.listed (All-nil _);
      rises = c.self.invariant.rises;
      whole = unvalued ∙ sym (rw none (zero-mul _));
      writes = rw only.attrs (All-nil _);
    }
