-- A part completes few items.
use Rattle.std.proofs.Common.{◌≡◌, ℕ, ◌+◌, ◌<◌, ◌≤◌, ◌==◌, false, List, [], ◌∷◌, length, take, refl, arith, rules}
use Rattle.std.specs.List.{position_or_len}
use Rattle.iio_text.specs.Lines.{is_line_end}
use Rattle.iiod_grammar.specs.Stream.{AtEnd, InLine, InPayload, Scanned, Scanner, after_byte, items_from}
use Rattle.iiod_connection.specs.Parts.{PartsAreShort, part_length}
use Rattle.iiod_connection.proofs.TalkLaws.{append_nil}

-- a part ends after its first LF, or with the bytes
pub part_by_line : (bytes : List ℕ) → (position_or_len is_line_end bytes < length bytes → part_length bytes ≡ position_or_len is_line_end bytes + 1)
    × (length bytes ≤ position_or_len is_line_end bytes → part_length bytes ≡ length bytes)
part_by_line [] = (λ h. absurd (omega (arith, h)), λ h. refl)
part_by_line (b ∷ bs) = search (rules, part_by_line bs)

abbrev weight : Scanner → ℕ
weight (InLine begun) = 1
weight (InPayload pending count begun) = 2
weight AtEnd = 0

abbrev all_of : Scanned → ℕ
all_of x = length x.items + weight x.next

abbrev items_in : Scanned → ℕ
items_in x = length x.items

-- the last byte of a part
last : (s : Scanner) (b : ℕ) → items_in (after_byte s b) ≤ weight s
last s b = search rules

-- a byte that isn't LF
step : (s : Scanner) (b : ℕ) → (b == 10) ≡ false → all_of (after_byte s b) ≤ weight s
step s b e = search rules

fits : (s : Scanner) (bytes : List ℕ) → length (items_from s (take (part_length bytes) bytes)) ≤ weight s
fits s [] = let p : 0 ≤ weight s = omega arith in p
fits s (b ∷ bs) = search (rules, append_nil, last, step, fits (after_byte s b).next bs)

at_most_two : (s : Scanner) → weight s ≤ 2
at_most_two s = search rules

pub parts_are_short : PartsAreShort
parts_are_short s bytes = let k = fits s bytes in let p = at_most_two s in omega (arith, k, p)
