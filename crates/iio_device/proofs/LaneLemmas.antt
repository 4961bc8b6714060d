-- The sum of bytes that are added lane by lane, in 16 bits.
use borrow.Rule.Simd.Lanes.{act1, act2}
use borrow.Table.Row.{s_int}
use lib.Lanes.{fold_l}
use mir.Syntax.{cast, unsigned, w16, wrap_add}
use Rattle.std.proofs.Common.{◌≡◌, ℕ, suc, ◌+◌, ◌*◌, ◌%◌, ◌<◌, List, [], ◌∷◌, map, length, get_or, Fits, w8, refl, ap, ◌∙◌, arith}
use Rattle.std.specs.List.{fold}
use Rattle.std.proofs.Math.Nat.{mod-eq_of_lt}

-- bytes as lanes, added to a number
abbrev pub added : ℕ → List ℕ → ℕ
added n bytes = fold_l (act2 wrap_add (s_int w16) (s_int w16) (s_int w16)) n (map (act1 (cast unsigned unsigned w16) (s_int w8) (s_int w16)) bytes)

-- the sum of few of them doesn't overflow
pub added-sum : (n : ℕ) (bytes : List ℕ) → ((i : ℕ) → Fits w8 (get_or bytes i 0)) → n + 255 * length bytes < 65536 → added n bytes ≡ fold (λ a b. a + b) n bytes
added-sum n [] byte few = refl
added-sum n (b ∷ bytes) byte few =
    let one = byte 0 in
    let all : (n + b) % 65536 ≡ n + b = mod-eq_of_lt (omega (arith, one, few)) in
    ap (λ m. added m bytes) all ∙ added-sum (n + b) bytes (λ i. byte (suc i)) (omega (arith, one, few))
