-- Sums of values, and their means.
use Rattle.std.proofs.Common.{◌≡◌, ℕ, suc, ◌+◌, ◌-◌, ◌*◌, ◌/◌, ◌^◌, ◌≤◌, ◌<◌, ℤ, pos, negsuc, neg_ℤ, FitsSigned, w64, refl, arith}
use Rattle.std.proofs.lemmas.Int.{ints}
use Rattle.std.proofs.lemmas.Nat.{div_below}
use Rattle.std.specs.Prelude.{int_div}
use Rattle.iio_derive.specs.View.{IsSum}

div_pos : (a n : ℕ) → int_div (pos a) (pos n) ≡ pos (a / n)
div_pos a n = refl

div_neg : (a n : ℕ) → int_div (negsuc a) (pos n) ≡ neg_ℤ (pos (suc a / n))
div_neg a n = refl

-- the mean of values of 64 bits is one
pub mean_fits : (n : ℕ) (sum : ℤ) → 1 ≤ n → IsSum n sum → FitsSigned w64 (int_div sum (pos n))
mean_fits n (pos a) some is =
    let high : a ≤ n * (2 ^ 63 - 1) = (let h = is.high in omega (arith, ints)) in
    let less : a < 2 ^ 63 * n = omega (arith, high, some) in
    let quotient : a / n < 2 ^ 63 = div_below a n (2 ^ 63) some less in
    omega (arith, ints, quotient)
mean_fits n (negsuc a) some is =
    let low : suc a ≤ n * 2 ^ 63 = (let h = is.low in omega (arith, ints)) in
    let less : suc a < (2 ^ 63 + 1) * n = omega (arith, low, some) in
    let quotient : suc a / n < 2 ^ 63 + 1 = div_below (suc a) n (2 ^ 63 + 1) some less in
    omega (arith, ints, quotient)
