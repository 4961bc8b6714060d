-- A device is read over a link that is begun for it.
use Rattle.std.proofs.Common.{◌≡◌, ℕ, List, [], Option, Some, None, IfSome, sym, subst, take, drop}
use Rattle.std.proofs.lemmas.List.{take-append-drop}
use Rattle.iio_io.specs.Bytes.{WritesPart}
use Rattle.iiod_client.specs.declared.client_end.ClientEnd.{ClientEnd}
use Rattle.iiod_client.specs.Ask.{Wanted}
use Rattle.iiod_client.specs.ClientEnd.{Ends}
use Rattle.iiod_client.specs.Point.{Point, WroteFront, point}
use Rattle.iiod_readdev.specs.declared.read_status.ReadStatus.{ReadStatus}
use Rattle.iiod_readdev.specs.ReadStatus.{of_client}
use Rattle.iiod_readdev.specs.Reading.{EndsRead}

-- a part that was written is a front part
pub front_of_part : (bytes : List ℕ) (before after : Option (List ℕ)) → IfSome before (λ xs. WritesPart xs bytes after) → WroteFront before bytes after
front_of_part bytes None after part = tt
front_of_part bytes (Some xs) after part = (take part.count bytes, drop part.count bytes, sym (take-append-drop part.count bytes), part.appended)

-- beginning the connection changed nothing that is visible of the link
pub read_after : (w : Wanted) (end : ClientEnd) (result : ReadStatus) (l l' s s' o : Option (List ℕ)) (b : Point) → l' ≡ l → s' ≡ s → result ≡ of_client end
    → Ends w end (point l' [] s' o) b → EndsRead w result (point l [] s o) b
read_after w end result l l' s s' o b left sent is ends = record {
  client = end;
  ends = is;
  read = subst (λ (x : Option (List ℕ)). Ends w end (point x [] s o) b) left (subst (λ (x : Option (List ℕ)). Ends w end (point l' [] x o) b) sent ends);
}
