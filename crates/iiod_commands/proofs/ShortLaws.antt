-- Answers that are only a number are short.
use Rattle.std.proofs.Common.{ℕ, ◌+◌, ◌^◌, ◌<◌, ◌≤◌, List, [], ◌∷◌, length, length-append, arith, rules}
use Rattle.std.specs.Prelude.{ℤ, negsuc}
use Rattle.std.specs.Fmt.{decimal, signed_decimal}
use Rattle.std.specs.Int.Signed.{mag}
use Rattle.std.proofs.lemmas.Fmt.{length-decimal-le, length_signed_le}
use Rattle.iio_text.specs.declared.errors.Errno.{Errno}
use Rattle.iiod_reply.specs.Reply.{Number, Refusal, Value, length_text, line, number_text, text_of}

short_text : (z : ℤ) → mag z + 1 < 10 ^ 2 → mag z < 2 ^ 63 → length (number_text z) ≤ 16
short_text z few small = omega (arith, length_signed_le 2 z few small, length-append (signed_decimal z) (10 ∷ []))

pub short_memory : length (text_of (Number (negsuc 11))) ≤ 16
short_memory = short_text (negsuc 11) (omega arith) (omega arith)

pub short_refusal : (e : Errno) → length (text_of (Refusal e)) ≤ 16
short_refusal e = search (rules, short_text)

-- the answer with a short value
pub short_value : (bytes : List ℕ) → length bytes ≤ 32 → length (text_of (Value bytes)) ≤ 36
short_value bytes few =
    let digits = length-decimal-le 2 (length bytes) (omega arith) (omega (arith, few)) (omega (arith, few)) in
    omega (arith, few, digits, length-append (decimal (length bytes)) (10 ∷ []), length-append bytes (10 ∷ []), length-append (length_text bytes) (line bytes))
