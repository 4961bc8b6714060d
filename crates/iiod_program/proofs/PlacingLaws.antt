-- A line of parts, one after another.
use Rattle.std.proofs.Common.{◌≡◌, ℕ, List, [], ◌∷◌, ◌++◌, append_assoc}

-- the parts of a line, one after another
pub line_parts : (before a b c d e f g h name place size type : List ℕ) → a ≡ before ++ name → b ≡ a ++ 32 ∷ [] → c ≡ b ++ place → d ≡ c ++ 32 ∷ []
    → e ≡ d ++ size → f ≡ e ++ 32 ∷ [] → g ≡ f ++ type → h ≡ g ++ 10 ∷ []
    → h ≡ before ++ (name ++ (32 ∷ (place ++ (32 ∷ (size ++ (32 ∷ (type ++ 10 ∷ [])))))))
line_parts before a b c d e f g h name place size type ea eb ec ed ee ef eg eh = rw (eh, eg, ef, ee, ed, ec, eb, ea) (simp append_assoc)
