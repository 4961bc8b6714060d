use Rattle.std.proofs.Common.{◌≡◌, ◌+◌, ◌-◌, ◌<◌, [], ◌∷◌, length, take, drop, arith, length-drop, sym, subst, ◌∙◌, ℕ}
use Rattle.std.proofs.lemmas.Bool.Decides.{nat_tests}
use Rattle.std.proofs.lemmas.List.{take_all, nil_from_length}
use Rattle.iio_text.specs.Lines.{lines_of}
use Rattle.iio_text.proofs.LineLemmas.{lines_of-split, lines_of-whole}
use Rattle.iio_text.proofs.lines.next_line.Goals as goal

pub returns-then-len-text-clause-found : goal.returns-then-len-text-clause-found
returns-then-len-text-clause-found c =
    let text = c.args.text.now in
    let some : 0 < length text = grind (arith, nat_tests, c.if-is_empty.ensures) in
    let front : c.split_at.result.0.now ≡ text = c.split_at.ensures.front ∙ take_all c.line_len-len.result text (omega (arith, c.if-len-text.true)) in
    let back : c.split_at.result.1.now ≡ [] = nil_from_length _ (omega (arith, c.split_at.ensures.back_len, c.if-len-text.true)) in
    rw (front, back) (lines_of-whole text some (omega (arith, c.line_len-len.ensures.value, c.if-len-text.true)))

pub returns-clause-found : goal.returns-clause-found
returns-clause-found c =
    let text = c.args.text.now in
    let n = c.line_len-len.result in
    let within : n < length text = omega (arith, c.line_len-len.ensures.within, c.if-len-text.false) in
    rw (take_all (length text - (n + 1)) (drop (n + 1) text) (omega (arith, length-drop (n + 1) text)))
    (subst (λ (k : ℕ). lines_of text ≡ take k text ∷ lines_of (drop (k + 1) text)) (sym c.line_len-len.ensures.value)
    (lines_of-split text (omega (arith, c.line_len-len.ensures.value))))
