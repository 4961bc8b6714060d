-- What is written of what was printed.
use Rattle.std.proofs.Common.{◌≡◌, ℕ, List, [], ◌++◌, take, drop, Option, Some, None, IfSome, IfNone, refl, sym, append-nil, arith, rules}
use Rattle.std.proofs.lemmas.Grind.{common_steps}
use Rattle.std.proofs.lemmas.List.{take-append-drop}
use Rattle.iio_io.specs.Bytes.{WritesPart}
use Rattle.iio_script.specs.Ends.{Sends}

-- all of it
pub sends_all : (before after : Option (List ℕ)) (kept : List ℕ) → IfSome before (λ xs. after ≡ Some (xs ++ kept)) → Sends before after kept []
sends_all before after kept writes = record { sent = kept; parts = sym (append-nil kept); writes = writes }

-- a front part of it
pub sends_part : (before after : Option (List ℕ)) (kept : List ℕ) → IfSome before (λ xs. WritesPart xs kept after) → (rest : List ℕ)
    × Sends before after kept rest
sends_part None after kept part = (kept, record { sent = []; parts = refl; writes = tt })
sends_part (Some xs) after kept part = (
  drop part.count kept,
  record {
    sent = take part.count kept;
    parts = sym (take-append-drop part.count kept);
    writes = part.appended;
  },
)

-- more after what was written before
pub sends_more : (first before after : Option (List ℕ)) (sent kept rest : List ℕ) → IfSome first (λ xs. before ≡ Some (xs ++ sent))
    → (sends : Sends before after kept rest)
    → IfSome first (λ xs. after ≡ Some (xs ++ (sent ++ sends.sent)))
sends_more first before after sent kept rest h sends = grind (arith, common_steps)

-- ---- what isn't visible stays so

pub silent_first : (left : Option (List ℕ)) → IfNone left (left ≡ None)
silent_first left = search rules
