use Rattle.std.proofs.Common.{◌≡◌, ◌<◌, ◌-◌, ℤ, false, get_or, pos, arith, rules, FitsSigned, w64}
use Rattle.std.specs.Prelude.{int_lt}
use Rattle.std.proofs.lemmas.Int.{to_z-of_z}
use Rattle.iio_sensor.proofs.Rows.{come_at}
use Rattle.iio_sensor.proofs.recorded.have_come.Goals as goal
use Rattle.iio_sensor.proofs.recorded.have_come.Goals.{else-count-gt0-via-then-count-gt0+else-t-moments, else-count-gt0-via-else-count-gt0}

pub returns-then-count-moments-2-clause-value : goal.returns-then-count-moments-2-clause-value
returns-then-count-moments-2-clause-value c = λ test.
    let fits = c.ranges.t in
    let v : ℤ = get_or c.args.moments.now (c.args.count - 1) (pos 0) in
    let last : 0 < c.args.count → int_lt c.args.t v ≡ false =
    elim c.else-count-gt0.branch [
      | else-count-gt0-via-then-count-gt0+else-t-moments w ↦ λ some.
          let fits_v : FitsSigned w64 v = search rules in
          simp to_z-of_z at w.if-t-moments.false
      | else-count-gt0-via-else-count-gt0 w ↦ λ some. absurd (omega arith)
    ] in
    come_at c.args.moments.now c.args.t c.args.count c.requires (omega arith) last (λ more. absurd (omega arith))

pub returns-else-count-moments-2-clause-value : goal.returns-else-count-moments-2-clause-value
returns-else-count-moments-2-clause-value c = λ test.
    let fits = c.ranges.t in
    let v : ℤ = get_or c.args.moments.now (c.args.count - 1) (pos 0) in
    let last : 0 < c.args.count → int_lt c.args.t v ≡ false =
    elim c.else-count-gt0.branch [
      | else-count-gt0-via-then-count-gt0+else-t-moments w ↦ λ some.
          let fits_v : FitsSigned w64 v = search rules in
          simp to_z-of_z at w.if-t-moments.false
      | else-count-gt0-via-else-count-gt0 w ↦ λ some. absurd (omega arith)
    ] in
    let u : ℤ = get_or c.args.moments.now c.args.count (pos 0) in
    let fits_u : FitsSigned w64 u = search rules in
    come_at c.args.moments.now c.args.t c.args.count c.requires (omega arith) last (λ more. simp to_z-of_z at test)
