-- From the first blank of a run of bytes to the first blank of the text.
use Rattle.std.proofs.Common.{◌≡◌, ℕ, ◌+◌, ◌≤◌, Bool, List, drop, sym, ap, subst, ◌∙◌, arith}
use Rattle.std.proofs.lemmas.Simd.{chunk-drop}
use Rattle.std.proofs.lemmas.List.{drop-drop}
use Rattle.std.specs.List.{position_or_len}
use lib.Lanes.{chunk}
use Rattle.iio_text.proofs.RunLemmas.{place_skip, place_front}

-- the bytes of a run of n lanes before the first that passes
pub place_on : (q : ℕ → Bool) (d : List ℕ) (n i r : ℕ) → r ≡ position_or_len q (chunk i n d)
    → position_or_len q (drop i d) ≡ r + position_or_len q (drop (i + r) d)
place_on q d n i r is =
    let front : position_or_len q (chunk i n d) ≤ position_or_len q (drop i d) =
    subst (λ (t : List ℕ). position_or_len q (chunk i n d) ≤ position_or_len q t) (sym (chunk-drop i n d)) (place_front q (chunk i n d) (drop (i + n) d)) in
    place_skip q (drop i d) r (omega arith) ∙ ap (λ (t : List ℕ). r + position_or_len q t) (drop-drop r i d)
