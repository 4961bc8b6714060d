-- Printed lines with one more part.
use Rattle.std.proofs.Common.{◌≡◌, ℕ, zero, suc, ◌+◌, ◌-◌, ◌≤◌, ◌*◌, take, drop, List, [], ◌∷◌, ◌++◌, sym, ap, ◌∙◌, arith, append_assoc, rules}
use Rattle.std.proofs.lemmas.Grind.{common_steps}
use Rattle.std.specs.Fmt.{signed_decimal}
use Rattle.iio_scan_type.specs.Format.{Format, size_of}
use Rattle.iio_layout.specs.Layout.{format_at, place_of, scan_size}
use Rattle.iio_layout.specs.Shape.{ShapeRecord, formats_of, channel_name}
use Rattle.iio_scan_type.specs.Bytes.{value_at}
use Rattle.iiod_client.specs.Printed.{elements_text, field_text, lines_below, scan_line}

-- ---- elements

pub elements_more : (f : Format) (bytes : List ℕ) (k : ℕ) → 1 ≤ k → (before out comma after : List ℕ) → out ≡ before ++ elements_text f bytes k
    → comma ≡ out ++ 44 ∷ []
    → after ≡ comma ++ signed_decimal (value_at f bytes k) → after ≡ before ++ elements_text f bytes (k + 1)
elements_more f bytes k some before out comma after e g h = grind (arith, common_steps)

-- ---- fields

parts : (before a b c name text : List ℕ) → a ≡ before ++ 32 ∷ [] → b ≡ a ++ name → c ≡ b ++ 61 ∷ [] → c ++ text ≡ before ++ 32 ∷ (name ++ 61 ∷ text)
parts before a b c name text ea eb ec = rw (ec, eb, ea) (simp append_assoc)

pub field_more : (shape : ShapeRecord) (mask : ℕ) (scan : List ℕ) (c : ℕ) (f : Format) (from n : ℕ) (before a b d e : List ℕ)
    → f ≡ format_at (formats_of shape) c → from ≡ place_of shape mask c → n ≡ size_of f
    → a ≡ before ++ 32 ∷ [] → b ≡ a ++ channel_name shape c → d ≡ b ++ 61 ∷ [] → e ≡ d ++ elements_text f (take n (drop from scan)) f.repeat
    → e ≡ before ++ field_text shape mask scan c
field_more shape mask scan c f from n before a b d e ef ep en ea eb ed ee = search (rules, parts)

-- ---- lines

pub lines_more : (shape : ShapeRecord) (mask : ℕ) (body : List ℕ) (k size from n : ℕ) → size ≡ scan_size shape mask → from ≡ k * size → n ≡ size
    → lines_below shape mask body k ++ scan_line shape mask (take n (drop from body)) ≡ lines_below shape mask body (k + 1)
lines_more shape mask body k size from n es ef en = search rules

lines_on : (shape : ShapeRecord) (mask : ℕ) (body : List ℕ) (j d : ℕ) → (rest : List ℕ)
    × (lines_below shape mask body (d + j) ≡ lines_below shape mask body j ++ rest)
lines_on shape mask body j zero = search rules
lines_on shape mask body j (suc d) =
    let (rest, e) = lines_on shape mask body j d in
    let next : suc d + j ≡ suc (d + j) = omega arith in
    let size = scan_size shape mask in
    let last = scan_line shape mask (take size (drop ((d + j) * size) body)) in
    (rest ++ last, ap (λ i. lines_below shape mask body i) next ∙ ap (λ xs. xs ++ last) e ∙ append_assoc (lines_below shape mask body j) rest last)

-- the first lines of all of them
pub lines_front : (shape : ShapeRecord) (mask : ℕ) (body : List ℕ) (j n : ℕ) → j ≤ n → (rest : List ℕ)
    × (lines_below shape mask body n ≡ lines_below shape mask body j ++ rest)
lines_front shape mask body j n few =
    let (rest, e) = lines_on shape mask body j (n - j) in
    let all : n - j + j ≡ n = omega (arith, few) in
    (rest, ap (λ i. lines_below shape mask body i) (sym all) ∙ e)
