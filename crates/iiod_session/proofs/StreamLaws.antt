-- The stream of a session, and further bytes of it.
use Rattle.std.proofs.Common.{◌≡◌, ◌≢◌, ℕ, false, List, [], ◌∷◌, ◌++◌, take, drop, length, refl, sym, ap, ◌∙◌, append-nil, arith, rules}
use Rattle.std.proofs.lemmas.Grind.{common_steps}
use Rattle.std.proofs.lemmas.List.{take-append-drop}
use Rattle.iiod_grammar.specs.declared.lines.Ready.TheVariants.{More}
use Rattle.iiod_grammar.specs.Lines.{LinesRecord, cut, feed_of}
use Rattle.iiod_grammar.specs.Scans.{scan_on, scanner_at}
use Rattle.iiod_grammar.specs.Stream.{Item, Pending, Scanner, AtEnd, Scanned, ItemsCutAnywhere, ScannerCutAnywhere, after_bytes, no_item}

scanned_is : (i j : List Item) (s t : Scanner) → i ≡ j → s ≡ t → (let x : Scanned = record { items = i; next = s } in x) ≡ record { items = j; next = t }
scanned_is i j s t e f = cc

-- no further bytes
pub scan_nil : (x : Scanned) → scan_on x [] ≡ x
scan_nil x = scanned_is _ x.items x.next x.next (append-nil x.items) refl

-- it doesn't matter where further bytes are cut
pub scan_more : ItemsCutAnywhere → ScannerCutAnywhere → (x : Scanned) (a b : List ℕ) → scan_on (scan_on x a) b ≡ scan_on x (a ++ b)
scan_more items scanner x a b = grind (arith, common_steps)

pub scan_rest : ItemsCutAnywhere → ScannerCutAnywhere → (x : Scanned) (n : ℕ) (bytes : List ℕ)
    → scan_on x bytes ≡ scan_on (scan_on x (take n bytes)) (drop n bytes)
scan_rest items scanner x n bytes = ap (λ bs. scan_on x bs) (sym (take-append-drop n bytes)) ∙ sym (scan_more items scanner x (take n bytes) (drop n bytes))

-- at the end of a stream further bytes mean nothing
end_stays : (bytes : List ℕ) → after_bytes AtEnd bytes ≡ no_item AtEnd
end_stays [] = refl
end_stays (b ∷ bs) = end_stays bs

pub scan_end : (bytes : List ℕ) → scan_on (no_item AtEnd) bytes ≡ no_item AtEnd
scan_end bytes = end_stays bytes

pub scanner_goes_on : (x : LinesRecord) (pending : Pending) → (scanner_at x pending).next ≢ AtEnd
scanner_goes_on x pending = search rules

pub more_waits : (x : LinesRecord) (bytes : List ℕ) (pending : Pending) → x.overlong ≡ false → (feed_of x bytes).ready ≡ More
    → (scanner_at (feed_of x bytes).lines pending).items ≡ []
more_waits x bytes pending going ready = search rules

-- ... and all bytes are taken
pub more_takes : (x : LinesRecord) (bytes : List ℕ) → x.overlong ≡ false → (feed_of x bytes).ready ≡ More → (feed_of x bytes).taken ≡ length bytes
more_takes x bytes going ready = search rules
