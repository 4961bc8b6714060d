use Rattle.std.proofs.Common.{◌≡◌, not, true, false, List, Some, option_map, ap, sym, ◌∙◌}
use Rattle.std.specs.List.{list_any}
use Rattle.iio_text.specs.Words.{words_of, is_space, two_of}
use Rattle.iio_scan_type.specs.Text.{type_of}
use Rattle.iio_layout.specs.declared.channel.Channel.{Channel}
use Rattle.iio_layout.specs.Id.{id_of, same_id}
use Rattle.iio_layout.specs.Shape.{id_at}
use Rattle.iio_desc.specs.DeviceLines.{has_id}
use Rattle.iio_desc.specs.PartialDevice.{has_only_channels}
use Rattle.iio_desc.specs.View.{partial_device}
use Rattle.iio_desc.proofs.ChannelLemmas.{channel_line_is}
use Rattle.iio_desc.proofs.RefusalLemmas.{ensured, is_false}
use Rattle.iio_desc.proofs.device_builder.DeviceBuilder.channel_line.Goals as goal

pub add_channel-requires-clause-own : goal.add_channel-requires-clause-own
add_channel-requires-clause-own c =
    let free : not c.has_channel.result ≡ true = ensured _ _ _ _ c.ensure-2.ensures c.in_ok-ensure-2.was in
    let none : has_id (partial_device c.self.inside) c.in_ok-id-2.id ≡ false =
    sym (c.has_channel.ensures ∙ ap (λ (cs : List Channel). list_any (λ channel. same_id (id_at channel) c.in_ok-id-2.id) cs) c.as_slice.ensures.value)
    ∙ is_false c.has_channel.result free in
    rw (← c.self.view_is) none

pub returns-clause-line : goal.returns-clause-line
returns-clause-line c =
    let free : not c.has_channel.result ≡ true = ensured _ _ _ _ c.ensure-2.ensures c.in_ok-ensure-2.was in
    let none : has_id (partial_device c.self.inside) c.in_ok-id-2.id ≡ false =
    sym (c.has_channel.ensures ∙ ap (λ (cs : List Channel). list_any (λ channel. same_id (id_at channel) c.in_ok-id-2.id) cs) c.as_slice.ensures.value)
    ∙ is_false c.has_channel.result free in
    let other : has_id c.args.self.now c.in_ok-id-2.id ≡ false = rw (← c.self.view_is) none in
    let only : has_only_channels c.args.self.now ≡ true = sym c.has_only_channels.ensures ∙ ensured _ _ _ _ c.ensure.ensures c.in_ok-ensure.was in
    let two : two_of (words_of is_space c.args.words.now) ≡ Some (c.in_ok-id.id.now, c.in_ok-id.format.now) =
    sym c.two_words.ensures ∙ ap (option_map (λ w. (w.0.now, w.1.now))) c.in_ok-id.ensures.ok_part in
    let named : id_of c.in_ok-id.id.now ≡ Some c.in_ok-id-2.id = sym c.read_id.ensures.value ∙ c.in_ok-id-2.ensures.ok_part in
    let typed : type_of c.in_ok-id.format.now ≡ Some c.in_ok-format.format = sym c.read_type.ensures.value ∙ c.in_ok-format.ensures.ok_part in
    rw (channel_line_is c.args.self.now (words_of is_space c.args.words.now) c.in_ok-id.id.now c.in_ok-id.format.now c.in_ok-id-2.id c.in_ok-format.format only
    two named other typed)
    c.add_channel.ensures.line
