use Rattle.std.proofs.Common.{◌≡◌, List, false, ap, rules, ◌∙◌}
use Rattle.std.specs.Prelude.{position, option_and_then, bytes_eq, codes}
use Rattle.iio_layout.specs.declared.channel.Channel.{Channel}
use Rattle.iio_layout.specs.Id.{id_of, same_id}
use Rattle.iio_layout.specs.Shape.{channel_of, id_at}
use Rattle.iio_desc.specs.PartialDevice.{PartialDevice, shape_of}
use Rattle.iio_desc.proofs.RefusalLemmas.{looked_up}
use Rattle.iio_desc.proofs.device_builder.DeviceBuilder.read_channel.Goals as goal

pub returns-in-None-clause-value : goal.returns-in-None-clause-value
returns-in-None-clause-value c =
    let found : c.find_channel.result ≡ channel_of (shape_of c.args.self.now) c.args.word.now =
    c.find_channel.ensures.value
    ∙ ap (λ (cs : List Channel). option_and_then (λ id. position (λ channel. same_id (id_at channel) id) cs) (id_of c.args.word.now)) c.as_slice-2.ensures.value
    ∙ ap (λ (d : PartialDevice). channel_of (shape_of d) c.args.word.now) c.self.view_is in
    let other : bytes_eq c.args.word.now (codes "-") ≡ false = search rules in
    rw c.in-None.is at (looked_up (channel_of (shape_of c.args.self.now)) c.args.word.now c.find_channel.result other found)

pub returns-in-Some-clause-value : goal.returns-in-Some-clause-value
returns-in-Some-clause-value c =
    let found : c.find_channel.result ≡ channel_of (shape_of c.args.self.now) c.args.word.now =
    c.find_channel.ensures.value
    ∙ ap (λ (cs : List Channel). option_and_then (λ id. position (λ channel. same_id (id_at channel) id) cs) (id_of c.args.word.now)) c.as_slice-2.ensures.value
    ∙ ap (λ (d : PartialDevice). channel_of (shape_of d) c.args.word.now) c.self.view_is in
    let other : bytes_eq c.args.word.now (codes "-") ≡ false = search rules in
    rw c.in-Some.is at (looked_up (channel_of (shape_of c.args.self.now)) c.args.word.now c.find_channel.result other found)
