-- What `gen` has written at its end.
use Rattle.std.proofs.Common.{ℕ, ◌≡◌, List, [], take, drop, Option, Some, None, IfSome, refl, sym, ap, ◌∙◌, append-nil}
use Rattle.std.proofs.lemmas.List.{take-append-drop}
use Rattle.iio_io.specs.Bytes.{WritesPart}
use Rattle.iio_history.specs.Script.{Finished}
use Rattle.iio_script.specs.declared.status.Status.TheVariants.{WriteFault, Memory}
use Rattle.iio_script.specs.Ends.{Writes}

pub writes_part : (printed text : List ℕ) (before after : Option (List ℕ)) → text ≡ printed → IfSome before (λ xs. WritesPart xs text after)
    → IfSome before (λ xs. Writes (record { printed = printed; ending = Finished }) xs WriteFault after)
writes_part printed text None after is part = tt
writes_part printed text (Some xs) after is part = record {
  front = take part.count text;
  rest = drop part.count text;
  parts = sym is ∙ sym (take-append-drop part.count text);
  written = part.appended;
}

pub writes_none : (printed : List ℕ) (before : Option (List ℕ))
    → IfSome before (λ xs. Writes (record { printed = printed; ending = Finished }) xs Memory before)
writes_none printed None = tt
writes_none printed (Some xs) = record { front = []; rest = printed; parts = refl; written = ap Some (sym (append-nil xs)) }
