-- The room for a block, and the block once there was room for it.
use Rattle.std.proofs.Common.{◌≡◌, ℕ, ◌+◌, ◌*◌, ◌^◌, ◌<◌, ◌≤◌, nat_le, List, [], ◌∷◌, ◌++◌, length, take, drop, length-append, Result, IsOk, arith, rules}
use Rattle.std.proofs.lemmas.Grind.{common_steps}
use Rattle.std.specs.Prelude.{⊤, pos}
use Rattle.std.specs.Fmt.{decimal}
use Rattle.std.specs.Int.{byte_len, w32, w64}
use Rattle.std.proofs.lemmas.Bool.{cond_both}
use Rattle.std.proofs.lemmas.Fmt.{length-decimal-le}
use Rattle.iio_base.specs.declared.Mem.{Mem}
use Rattle.iio_mask.specs.Text.{digit_count}
use Rattle.iiod_reply.specs.Reply.{block_text, closing_text, head_length, head_text, number_text, Appends, AppendsRoom, FitsInRoom}

length-count : (n : ℕ) → n < 2 ^ 32 → length (number_text (pos n)) ≤ 11
length-count n few =
    let digits = length-decimal-le 10 n (omega arith) (omega (arith, few)) (omega (arith, few)) in
    omega (arith, length-append (decimal n) (10 ∷ []), digits)

length-head : (channels mask came : ℕ) → came < 2 ^ 32 → length (head_text channels mask came) ≤ 28
length-head channels mask came few = grind (arith, common_steps, length-count)

-- room for the head of a block is appended to what was there
pub record HasRoom (channels most : ℕ) (old new : List ℕ) : Type 0 where
  pub room : List ℕ
  pub size : length room ≡ head_length channels most
  pub stands : new ≡ old ++ room
  pub few : length new ≤ length old + 28

length-room : (channels most : ℕ) → most < 2 ^ 32 → head_length channels most ≤ 28
length-room channels most few =
    let digits = length-decimal-le 10 most (omega arith) (omega (arith, few)) (omega (arith, few)) in
    let mask : digit_count channels ≤ 16 = cond_both (nat_le channels 32) w32 w64 (λ w. 2 * byte_len w ≤ 16) (λ _. omega arith) (λ _. omega arith) in
    omega (arith, digits, mask)

-- if there was room, the text is appended
appended : (text old new : List ℕ) (capacity : ℕ) (r : Result ⊤ Mem) → Appends text old r new → FitsInRoom text old capacity r
    → length old + length text ≤ capacity → new ≡ old ++ text
appended text old new capacity r a f h = search rules

-- ... and so is the room for the head of a block of fewer than 2^32 bytes
pub room_stands : (channels most : ℕ) (old new : List ℕ) (capacity : ℕ) (r : Result ⊤ Mem)
    → AppendsRoom (head_length channels most) old r new → (length old + head_length channels most ≤ capacity → IsOk r)
    → most < 2 ^ 32 → length old + 28 ≤ capacity
    → HasRoom channels most old new
room_stands channels most old new capacity r a f short space = grind (arith, common_steps, length-room)

-- the head in its room, and the scans after it
pub headed : (channels mask most came start : ℕ) (old roomy scans out new : List ℕ) → HasRoom channels most old roomy → start ≡ length old
    → out ≡ roomy ++ scans
    → new ≡ take start out ++ (head_text channels mask came ++ drop (start + head_length channels most) out)
    → new ≡ old ++ (head_text channels mask came ++ scans)
headed channels mask most came start old roomy scans out new h e whole put = grind (arith, common_steps)

-- ... and the closing after its scans
pub closed : (channels mask came asked : ℕ) (old scans new ended : List ℕ) (capacity : ℕ) (r : Result ⊤ Mem)
    → came ≡ length scans → came < 2 ^ 32 → new ≡ old ++ (head_text channels mask came ++ scans) → length old + (came + 30) ≤ capacity
    → Appends (closing_text came asked) new r ended → FitsInRoom (closing_text came asked) new capacity r
    → ended ≡ old ++ block_text channels mask scans asked
closed channels mask came asked old scans new ended capacity r many short is room a f = grind (arith, common_steps, length-head)
