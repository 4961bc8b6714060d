use Rattle.std.proofs.Common.{◌≡◌, ℕ, ◌≤◌, All, map, slice_index_or, sym, subst, inl, inr, arith}
use Rattle.std.proofs.lemmas.Bool.{cases_lt}
use Rattle.iio_scan_type.specs.Format.{size_of}
use Rattle.iio_layout.specs.Shape.{ShapeRecord}
use Rattle.iio_layout.specs.declared.channel.Channel.{Channel}
use Rattle.iio_desc.specs.Description.{DeviceHead}
use Rattle.iio_kinds.specs.Station.{any_front}
use Rattle.iio_bench.proofs.ListLemmas.{within_map}
use Rattle.iio_bench.proofs.SizeLemmas.{every_size, front_at}
use Rattle.iio_bench.proofs.inventory.look_at_sizes.Goals as goal

abbrev HasBytes : ShapeRecord → Type 0
HasBytes shape = All (λ (channel : Channel). 1 ≤ size_of channel.ty) shape.channels

pub loop-device-init : goal.loop-device-init
loop-device-init g c = λ k d h. absurd (omega (arith, h))

pub loop-device-preserved : goal.loop-device-preserved
loop-device-preserved g c = λ k d h. elim (cases_lt k c.loop-device.device-index) [
  | inl before ↦ c.loop-device.invariant k d before
  | inr here ↦
      let same : k ≡ c.loop-device.device-index = omega (arith, h, here) in
      let is : slice_index_or (map any_front c.args.devices.now) c.loop-device.device-index d ≡ any_front c.device-item.result =
      front_at any_front c.args.devices.now c.loop-device.device-index c.device-item.result d c.device-item.is (omega (arith, c.loop-device-test.true)) in
      let sizes : HasBytes (any_front c.device-item.result).shape = subst HasBytes c.shape.ensures c.look_at_channels.ensures in
      subst (λ (n : ℕ). HasBytes (slice_index_or (map any_front c.args.devices.now) n d).shape) (sym same)
      (subst (λ (x : DeviceHead). HasBytes x.shape) (sym is) sizes)
]

pub returns : goal.returns
returns g c =
    every_size (map any_front c.args.devices.now) c.requires
    (λ k d h. c.loop-device.invariant k d
    (let at = c.loop-device-test.false in let within = within_map any_front c.args.devices.now k h in omega (arith, within, at)))
