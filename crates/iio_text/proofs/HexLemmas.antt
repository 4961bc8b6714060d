-- Bytes as two digits each, with another byte.
use Rattle.std.proofs.Common.{◌≡◌, ℕ, ◌+◌, ◌<◌, take, length, get_or, List, [], ◌∷◌, ◌++◌, Result, Ok, Err, refl, sym, ap, ◌∙◌, append_assoc, append-nil}
use Rattle.std.proofs.lemmas.List.{take_more}
use Rattle.std.specs.Prelude.{IsOk, OnOk, slice_index, ◌/◌, ◌%◌}
use Rattle.hex.specs.Hex.{encode_with, encode_lower, lower_digits}

pub on_ok : {A E : Type 0} (r : Result A E) (P : Type 0) → IsOk r → OnOk r P → P
on_ok (Ok x) P e p = p
on_ok (Err x) P e p = absurd (cc)

encode_append : (t xs ys : List ℕ) → encode_with t (xs ++ ys) ≡ encode_with t xs ++ encode_with t ys
unfolding encode_with
encode_append t [] ys = refl
encode_append t (x ∷ xs) ys = ap (λ zs. slice_index t (x / 16) ∷ slice_index t (x % 16) ∷ zs) (encode_append t xs ys)

pub hex_none : (out : List ℕ) → out ≡ out ++ encode_lower []
unfolding encode_with
hex_none out = sym (append-nil out)

pub hex_more : (bytes : List ℕ) (i : ℕ) (before out after pair : List ℕ) → i < length bytes → out ≡ before ++ encode_lower (take i bytes)
    → pair ≡ encode_lower (get_or bytes i 0 ∷ []) → after ≡ out ++ pair
    → after ≡ before ++ encode_lower (take (i + 1) bytes)
hex_more bytes i before out after pair within e p h =
    h ∙ ap (λ xs. out ++ xs) p ∙ ap (λ xs. xs ++ encode_lower (get_or bytes i 0 ∷ [])) e
    ∙ append_assoc before (encode_lower (take i bytes)) (encode_lower (get_or bytes i 0 ∷ []))
    ∙ ap (λ xs. before ++ xs)
    (sym (ap (λ xs. encode_lower xs) (take_more bytes i 0 within) ∙ encode_append lower_digits (take i bytes) (get_or bytes i 0 ∷ [])))
