-- What the steps of `Lines` do to the bytes that it keeps. Cited only by its private functions.
use Rattle.std.specs.Prelude.{◌≡◌, ℕ, ◌+◌, true, List, ◌++◌, length, Option}
use Rattle.iiod_grammar.specs.declared.lines.Ready.{Ready}
use Rattle.iiod_grammar.specs.declared.lines.Ready.TheVariants.{More, Line, Payload, TooLong}
use Rattle.iiod_grammar.specs.Lines.{cut, NotYet, WholeLine, WholePayload, Overlong, is_begun}

-- `taken` of the bytes were added to those kept, and the bytes then kept
abbrev pub Takes : Option ℕ → List ℕ → List ℕ → ℕ → Ready → List ℕ → Type 0
Takes wanted old bytes taken More new = (cut wanted (old ++ bytes) ≡ NotYet) × (taken ≡ length bytes) × (new ≡ old ++ bytes) × (is_begun wanted new ≡ true)
Takes wanted old bytes taken Line new = cut wanted (old ++ bytes) ≡ WholeLine new (length old + taken)
Takes wanted old bytes taken Payload new = (cut wanted (old ++ bytes) ≡ WholePayload new) × (length new ≡ length old + taken)
Takes wanted old bytes taken TooLong new = (cut wanted (old ++ bytes) ≡ Overlong) × (taken ≡ 0) × (new ≡ old)
