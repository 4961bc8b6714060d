use Rattle.std.proofs.Common.{◌≡◌, ◌≤◌, ◌*◌, ◌+◌, ◌/◌, ℕ, ℤ, pos, length, get_or, arith, refl, zero-mul, FitsSigned, w64, rules, sym, ◌∙◌, ap, subst}
use Rattle.std.proofs.lemmas.Int.{to_z-of_z}
use Rattle.std.proofs.lemmas.Nat.{rows}
use Rattle.std.proofs.lemmas.List.{take_all}
use Rattle.iio_scan_type.specs.Format.{Format, IsInProfile, element_size}
use Rattle.iio_scan_type.specs.Bytes.{channel_bytes, value_at}
use Rattle.iio_scan_type.proofs.Elements.{put_more, value_at-channel_bytes}
use Rattle.iio_scan_type.proofs.ScanType.put.Goals as goal

pub loop-k-init : goal.loop-k-init
loop-k-init c = rw zero-mul refl

pub loop-k-preserved : goal.loop-k-preserved
loop-k-preserved c =
    let v : ℤ = get_or c.args.values.now c.loop-k.k (pos 0) in
    let fits : FitsSigned w64 v = search rules in
    let n : ℕ = c.self.inside.storagebits / 8 in
    let size : n ≡ element_size c.args.self.now = ap element_size c.self.view_is in
    let room : (c.loop-k.k + 1) * n ≤ length c.loop-k.out = grind (arith, rows) in
    put_more c.args.self.now c.args.values.now c.loop-k.k n c.loop-k.out c.put_element.new.out v size c.loop-k-test.true (search rules) room
    (simp to_z-of_z at c.put_element.ensures) c.loop-k.invariant

written : goal.returns-clause-bytes
written c =
    let n : ℕ = c.self.inside.storagebits / 8 in
    let size : n ≡ element_size c.args.self.now = ap element_size c.self.view_is in
    let all : length c.loop-k.out ≤ c.loop-k.k * n = grind (arith, rows) in
    sym (take_all _ _ all) ∙ c.loop-k.invariant ∙ ap (channel_bytes c.args.self.now) (take_all _ _ c.loop-k-test.false)

pub returns-clause-bytes : goal.returns-clause-bytes
returns-clause-bytes c = written c

pub returns-clause-back : goal.returns-clause-back
returns-clause-back c = λ k h range.
    ap (λ t. value_at c.args.self.now t k) (written c)
    ∙ value_at-channel_bytes c.args.self.now c.args.values.now k (pos 0) (subst (λ (f : Format). IsInProfile f) c.self.view_is c.self.invariant) h range
