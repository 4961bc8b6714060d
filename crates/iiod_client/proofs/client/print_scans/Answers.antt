use Rattle.std.proofs.Common.{◌≡◌, ◌+◌, ◌-◌, ◌*◌, ◌/◌, ◌≤◌, ℕ, length, take, drop, refl, sym, subst, ◌∙◌, arith}
use Rattle.std.proofs.lemmas.Result.{err_from_is_err_and}
use Rattle.iio_layout.specs.Layout.{scan_size}
use Rattle.iiod_client.specs.Point.{Wrote, WroteFront}
use Rattle.iiod_client.specs.Printed.{lines_below, scan_line}
use Rattle.iiod_client.proofs.Heard.{front_on, wrote_front, wrote_more}
use Rattle.iiod_client.proofs.PrintedLaws.{lines_front, lines_more}
use Rattle.iiod_client.proofs.Stands.{on_err_at}
use Rattle.iiod_client.proofs.client.print_scans.Goals as goal

pub loop-k-preserved : goal.loop-k-preserved
loop-k-preserved g c =
    let old = c.loop-k.invariant in
    let k = c.loop-k.k in
    let size = c.args.size in
    let n = (k + 1) * size - k * size in
    let one : n ≡ size = omega arith in
    record {
      told = subst (λ xs. Wrote (g.K.Sink.written c.args.output.now) xs (g.K.Sink.written c.print_scan.new.output))
          (lines_more c.args.shape.now c.args.mask.bits c.args.body.now k size (k * size) n c.requires.size refl one)
          (wrote_more (g.K.Sink.written c.args.output.now) (g.K.Sink.written c.loop-k.output) (g.K.Sink.written c.print_scan.new.output)
          (lines_below c.args.shape.now c.args.mask.bits c.args.body.now k)
          (scan_line c.args.shape.now c.args.mask.bits (take n (drop (k * size) c.args.body.now))) old.told c.in_ok-print_scan.ensures.prints);
      steady = c.in_ok-print_scan.ensures.faults.1 ∙ old.steady;
    }

pub returns-in_err-print_scan-clause-part : goal.returns-in_err-print_scan-clause-part
returns-in_err-print_scan-clause-part g c =
    let p = err_from_is_err_and c.from_residual.result c.from_residual.ensures.1 in
    let old = c.loop-k.invariant in
    let k = c.loop-k.k in
    let size = c.args.size in
    let n = (k + 1) * size - k * size in
    let one : n ≡ size = omega arith in
    let count = length c.args.body.now / scan_size c.args.shape.now c.args.mask.bits in
    let few : k + 1 ≤ count = subst (λ (s : ℕ). k + 1 ≤ length c.args.body.now / s) c.requires.size (omega arith) in
    let more = lines_more c.args.shape.now c.args.mask.bits c.args.body.now k size (k * size) n c.requires.size refl one in
    let all = lines_front c.args.shape.now c.args.mask.bits c.args.body.now (k + 1) count few in
    let out = g.K.Sink.written c.args.output.now in
    let new = g.K.Sink.written c.print_scan.new.output in
    on_err_at c.from_residual.result p.0 _ p.1
    (subst (λ xs. WroteFront out xs new) (sym all.1)
    (front_on out new (lines_below c.args.shape.now c.args.mask.bits c.args.body.now (k + 1)) all.0
    (subst (λ xs. WroteFront out xs new) more
    (wrote_front out (g.K.Sink.written c.loop-k.output) new (lines_below c.args.shape.now c.args.mask.bits c.args.body.now k)
    (scan_line c.args.shape.now c.args.mask.bits (take n (drop (k * size) c.args.body.now))) old.told
    c.in_err-print_scan.ensures.part))))
