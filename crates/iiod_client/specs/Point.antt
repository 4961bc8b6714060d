-- A link and an output as a client sees them, and what goes over them between two points. (This project's own.)
use Rattle.std.specs.Prelude.{◌≡◌, ℕ, List, [], ◌++◌, Option, Some, IfSome}

-- the bytes that are left of the link, those received and not yet
-- looked at, those sent, and those printed, if they are visible
pub record Point : Type 0 where
  pub left : Option (List ℕ)
  pub pending : List ℕ
  pub sent : Option (List ℕ)
  pub printed : Option (List ℕ)

abbrev pub point : Option (List ℕ) → List ℕ → Option (List ℕ) → Option (List ℕ) → Point
point left pending sent printed = record { left = left; pending = pending; sent = sent; printed = printed }

-- of the bytes to come these were heard, and the others are still to come
abbrev pub Heard : Point → List ℕ → Point → Type 0
Heard a text b = IfSome a.left (λ xs. (ys : List ℕ) × (b.left ≡ Some ys) × (a.pending ++ xs ≡ text ++ (b.pending ++ ys)))

-- the bytes to come began with these
abbrev pub HeardFront : Point → List ℕ → Type 0
HeardFront a text = IfSome a.left (λ xs. (more : List ℕ) × (a.pending ++ xs ≡ text ++ more))

-- no byte is still to come
abbrev pub IsAtEnd : Point → Type 0
IsAtEnd a = IfSome a.left (λ xs. a.pending ++ xs ≡ [])

-- this text was appended to what was written before
abbrev pub Wrote : Option (List ℕ) → List ℕ → Option (List ℕ) → Type 0
Wrote old text new = IfSome old (λ ys. new ≡ Some (ys ++ text))

-- a front part of this text was appended
abbrev pub WroteFront : Option (List ℕ) → List ℕ → Option (List ℕ) → Type 0
WroteFront old text new = IfSome old (λ ys. (front : List ℕ) × (rest : List ℕ) × (text ≡ front ++ rest) × (new ≡ Some (ys ++ front)))

-- this was heard, sent and printed
pub record Goes (a : Point) (heard sent printed : List ℕ) (b : Point) : Type 0 where
  pub hears : Heard a heard b
  pub sends : Wrote a.sent sent b.sent
  pub prints : Wrote a.printed printed b.printed

-- at least this was heard, and front parts of these were sent and printed
pub record Stops (a : Point) (heard sent printed : List ℕ) (b : Point) : Type 0 where
  pub hears : HeardFront a heard
  pub sends : WroteFront a.sent sent b.sent
  pub prints : WroteFront a.printed printed b.printed
