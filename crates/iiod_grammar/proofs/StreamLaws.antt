-- A stream may be cut anywhere.
use Rattle.std.proofs.Common.{[], ◌∷◌, ◌++◌, refl, sym, ap, ◌∙◌, append_assoc}
use Rattle.iiod_grammar.specs.Stream.{after_byte, items_from, scanner_after, ItemsCutAnywhere, ScannerCutAnywhere}

pub items_cut : ItemsCutAnywhere
items_cut s [] after = refl
items_cut s (b ∷ bs) after =
    ap (λ items. (after_byte s b).items ++ items) (items_cut (after_byte s b).next bs after)
    ∙ sym (append_assoc (after_byte s b).items (items_from (after_byte s b).next bs) (items_from (scanner_after (after_byte s b).next bs) after))

pub scanner_cut : ScannerCutAnywhere
scanner_cut s [] after = refl
scanner_cut s (b ∷ bs) after = scanner_cut (after_byte s b).next bs after
