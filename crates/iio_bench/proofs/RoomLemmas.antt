-- Lines that are put together in room after what was printed.
use Rattle.std.proofs.lemmas.Grind.{common_steps}
use borrow.Rule.Slice.PartMut.{mid_of, put_mid}
use lib.Lanes.{chunk, put_chunk}
use Rattle.std.proofs.Common.{◌≡◌, ◌+◌, ◌-◌, ◌++◌, ◌≤◌, ◌∙◌, ℕ, List, length, take, drop, ap, arith}
use Rattle.std.proofs.Math.Seq.{take-append-add}
use Rattle.std.proofs.lemmas.List.{length-append, length-take-le, take-append-le, take-take}
use Rattle.std.proofs.lemmas.Simd.{put_chunk_is}

-- what was printed is still there, and the line after it
pub line_stands : (old more room after final line : List ℕ) (start n end : ℕ) → start ≡ length old → room ≡ take (start + n) old ++ more
    → take end after ≡ take start room ++ line → final ≡ take end after → final ≡ old ++ line
line_stands old more room after final line start n end long is put cut = grind (arith, common_steps)

-- the first bytes of a block at the beginning of a room, whatever comes after it
block_first : (room block after tail : List ℕ) (n k : ℕ) → n ≤ length room → n ≤ length block → k ≤ n
    → take k ((put_chunk 0 room (chunk 0 n block) ++ after) ++ tail) ≡ take k block
block_first room block after tail n k fits whole most =
    let lanes = take n block in
    let rest = drop (length lanes) room in
    let long : length lanes ≡ n = length-take-le n block whole in
    let joined : length (lanes ++ rest) ≡ length lanes + length rest = length-append lanes rest in
    let more : length ((lanes ++ rest) ++ after) ≡ length (lanes ++ rest) + length after = length-append (lanes ++ rest) after in
    ap (λ xs. take k ((xs ++ after) ++ tail)) (put_chunk_is 0 room lanes (omega (arith, long, fits)))
    ∙ take-append-le k ((lanes ++ rest) ++ after) tail (omega (arith, most, long, joined, more))
    ∙ take-append-le k (lanes ++ rest) after (omega (arith, most, long, joined))
    ∙ take-append-le k lanes rest (omega (arith, most, long))
    ∙ take-take k n block most

-- what comes before a place, and the first bytes of a block that was put there
pub block_stands : (items room block tail : List ℕ) (at n k len : ℕ) → room ≡ items → len ≡ length items → at + n ≤ length items → n ≤ length block → k ≤ n
    → take (at + k) (take len (put_mid at (length room - at) room (put_chunk 0 (mid_of at (length room - at) room) (chunk 0 n block)) ++ tail)) ≡ take at items
    ++ take k block
block_stands items room block tail at n k len same whole fits filled most = grind (arith, common_steps, take-append-add, block_first)
