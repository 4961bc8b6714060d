-- What several writes have written, one after another.
use Rattle.std.proofs.Common.{◌≡◌, ℕ, List, [], ◌++◌, take, drop, Option, Some, None, IfSome, Result, Ok, Err, OnErr, OnOk, refl, sym, ap, ◌∙◌, subst, append_assoc, append-nil}
use Rattle.std.proofs.lemmas.List.{take-append-drop}
use Rattle.iio_io.specs.Bytes.{WritesPart}
use Rattle.iio_script.specs.Ends.{Sends}

-- this text was written
abbrev pub Wrote : (before after : Option (List ℕ)) → List ℕ → Type 0
Wrote before after text = IfSome before (λ xs. after ≡ Some (xs ++ text))

pub wrote_none : (w : Option (List ℕ)) → Wrote w w []
wrote_none None = tt
wrote_none (Some xs) = ap (λ (t : List ℕ). Some t) (sym (append-nil xs))

pub wrote_then : (w0 w1 w2 : Option (List ℕ)) (a b : List ℕ) → Wrote w0 w1 a → Wrote w1 w2 b → Wrote w0 w2 (a ++ b)
wrote_then None w1 w2 a b f g = tt
wrote_then (Some xs) w1 w2 a b f g =
    let second : w2 ≡ Some ((xs ++ a) ++ b) = subst (λ (w : Option (List ℕ)). Wrote w w2 b) f g in second ∙ ap (λ (t : List ℕ). Some t) (append_assoc xs a b)

-- all of it
pub sent_all : (w0 w1 : Option (List ℕ)) (text : List ℕ) → Wrote w0 w1 text → Sends w0 w1 text []
sent_all w0 w1 text wrote = record { sent = text; parts = sym (append-nil text); writes = wrote }

-- a part of the next piece, after the pieces before it, if these are left
pub sent_part : (w0 w1 w2 : Option (List ℕ)) (a b c : List ℕ) → Wrote w0 w1 a → IfSome w1 (λ xs. WritesPart xs b w2) → (rest : List ℕ)
    × Sends w0 w2 (a ++ (b ++ c)) rest
sent_part None w1 w2 a b c f g = (a ++ (b ++ c), record { sent = []; parts = refl; writes = tt })
sent_part (Some xs) w1 w2 a b c f g =
    let part : WritesPart (xs ++ a) b w2 = subst (λ (w : Option (List ℕ)). IfSome w (λ ys. WritesPart ys b w2)) f g in
    let whole : b ++ c ≡ take part.count b ++ (drop part.count b ++ c) =
    ap (λ (t : List ℕ). t ++ c) (sym (take-append-drop part.count b)) ∙ append_assoc (take part.count b) (drop part.count b) c in (
      drop part.count b ++ c,
      record {
        sent = a ++ take part.count b;
        parts = ap (λ (t : List ℕ). a ++ t) whole ∙ sym (append_assoc a (take part.count b) (drop part.count b ++ c));
        writes = part.appended ∙ ap (λ (t : List ℕ). Some t) (append_assoc xs a (take part.count b));
      },
    )

-- ---- a text, a line between, and the text again

module _ (text line : List ℕ) where
  pub first_part : (w0 w1 : Option (List ℕ)) → IfSome w0 (λ xs. WritesPart xs text w1) → (rest : List ℕ) × Sends w0 w1 (text ++ (line ++ text)) rest
  first_part w0 w1 part = sent_part w0 w0 w1 [] text (line ++ text) (wrote_none w0) part

  pub line_part : (w0 w1 w2 : Option (List ℕ)) → Wrote w0 w1 text → IfSome w1 (λ xs. WritesPart xs line w2) → (rest : List ℕ)
      × Sends w0 w2 (text ++ (line ++ text)) rest
  line_part w0 w1 w2 first part = sent_part w0 w1 w2 text line text first part

  pub last_part : (w0 w1 w2 w3 : Option (List ℕ)) → Wrote w0 w1 text → Wrote w1 w2 line → IfSome w2 (λ xs. WritesPart xs text w3)
      → (rest : List ℕ) × Sends w0 w3 (text ++ (line ++ text)) rest
  last_part w0 w1 w2 w3 first second part =
      let same : (text ++ line) ++ (text ++ []) ≡ text ++ (line ++ text) =
      append_assoc text line (text ++ []) ∙ ap (λ (t : List ℕ). text ++ (line ++ t)) (append-nil text) in
      subst (λ (t : List ℕ). (rest : List ℕ) × Sends w0 w3 t rest) same
      (sent_part w0 w2 w3 (text ++ line) text [] (wrote_then w0 w1 w2 text line first second) part)

  pub last_whole : (w0 w1 w2 w3 : Option (List ℕ)) → Wrote w0 w1 text → Wrote w1 w2 line → Wrote w2 w3 text → Sends w0 w3 (text ++ (line ++ text)) []
  last_whole w0 w1 w2 w3 first second third =
      sent_all w0 w3 (text ++ (line ++ text)) (wrote_then w0 w1 w3 text (line ++ text) first (wrote_then w1 w2 w3 line text second third))

-- ---- what follows on both sides

pub on_ok : {A E X Y : Type 0} (r : Result A E) → (X → Y) → OnOk r X → OnOk r Y
on_ok (Ok a) f x = f x
on_ok (Err e) f x = tt

pub on_err : {A E X Y : Type 0} (r : Result A E) → (X → Y) → OnErr r X → OnErr r Y
on_err (Ok a) f x = tt
on_err (Err e) f x = f x

-- a call that failed
pub failed_part : {A E : Type 0} (r : Result A E) (text line : List ℕ) (w0 w1 : Option (List ℕ)) → ((rest : List ℕ) × Sends w0 w1 (text ++ (line ++ text)) rest)
    → OnErr r ((rest : List ℕ) × Sends w0 w1 (text ++ line ++ text) rest)
failed_part (Ok a) text line w0 w1 part = tt
failed_part (Err e) text line w0 w1 part = subst (λ (t : List ℕ). (rest : List ℕ) × Sends w0 w1 t rest) (sym (append_assoc text line text)) part

pub all_sent : (text line : List ℕ) (w0 w1 : Option (List ℕ)) → Sends w0 w1 (text ++ (line ++ text)) [] → Sends w0 w1 (text ++ line ++ text) []
all_sent text line w0 w1 sends = subst (λ (t : List ℕ). Sends w0 w1 t []) (sym (append_assoc text line text)) sends

pub left_part : (text line : List ℕ) (w0 w1 : Option (List ℕ)) → ((rest : List ℕ) × Sends w0 w1 (text ++ (line ++ text)) rest) → (rest : List ℕ)
    × Sends w0 w1 (text ++ line ++ text) rest
left_part text line w0 w1 part = subst (λ (t : List ℕ). (rest : List ℕ) × Sends w0 w1 t rest) (sym (append_assoc text line text)) part
