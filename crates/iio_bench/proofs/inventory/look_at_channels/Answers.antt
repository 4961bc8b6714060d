use Rattle.std.proofs.Common.{◌≡◌, ℕ, ◌≤◌, slice_index_or, sym, subst, inl, inr, arith}
use Rattle.std.proofs.lemmas.Bool.{cases_lt}
use Rattle.std.proofs.lemmas.Option.{get_or_from_slice_get}
use Rattle.iio_scan_type.specs.Format.{size_of}
use Rattle.iio_layout.specs.declared.channel.Channel.{Channel}
use Rattle.iio_bench.proofs.inventory.look_at_channels.Goals as goal

pub loop-c-init : goal.loop-c-init
loop-c-init c = λ k d h. absurd (omega (arith, h))

pub loop-c-preserved : goal.loop-c-preserved
loop-c-preserved c = λ k d h. elim (cases_lt k c.loop-c.c) [
  | inl before ↦ c.loop-c.invariant k d before
  | inr here ↦
      let same : k ≡ c.loop-c.c = omega (arith, h, here) in
      let is : slice_index_or c.args.shape.now.channels c.loop-c.c d ≡ c.channel.result.now =
      get_or_from_slice_get c.args.shape.now.channels c.loop-c.c c.channel.result.now d c.channel.ensures in
      let size : 1 ≤ size_of c.channel.result.now.ty = (let v = c.size.ensures.value in let s = c.size.ensures.some in omega (arith, v, s)) in
      subst (λ (n : ℕ). 1 ≤ size_of (slice_index_or c.args.shape.now.channels n d).ty) (sym same) (subst (λ (x : Channel). 1 ≤ size_of x.ty) (sym is) size)
]

pub returns : goal.returns
returns c =
    λ k d h. c.loop-c.invariant k d
    (let many : c.inputs-c-end.result ≡ _ = c.inputs-c-end.ensures.value in let at = c.loop-c-test.false in omega (arith, h, many, at))
