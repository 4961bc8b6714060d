-- Refusals in their order: of several that apply, the first is the answer. (This project's own words.)
use Rattle.std.specs.Prelude.{Bool, ⊤, if◌then◌else◌, List, [], ◌∷◌, Option, Some, None, Result, Ok, Err}

infixl 10 ◌>>=◌
infixl 10 ◌>>◌
-- what follows if nothing was refused
abbrev pub ◌>>=◌ : {A B E : Type 0} → Result A E → (A → Result B E) → Result B E
Ok x >>= f = f x
Err refusal >>= f = Err refusal

-- what follows if nothing was refused, when the value before it isn't wanted
abbrev pub ◌>>◌ : {A B E : Type 0} → Result A E → Result B E → Result B E
Ok x >> next = next
Err refusal >> next = Err refusal

-- goes on if the condition holds, and refuses otherwise
abbrev pub ensure : {E : Type 0} → Bool → E → Result ⊤ E
ensure holds refusal = if holds then Ok tt else Err refusal

-- the first refusal that applies, of refusals in their order, each with the condition under which it applies
abbrev pub first_refusal : {E : Type 0} → List (Bool × E) → Option E
first_refusal [] = None
first_refusal (r ∷ rs) = if r.0 then Some r.1 else first_refusal rs

-- the value, if nothing is refused
abbrev pub unless_refused : {A E : Type 0} → A → Option E → Result A E
unless_refused x None = Ok x
unless_refused x (Some refusal) = Err refusal
