use Rattle.std.proofs.Common.{◌≡◌, ◌&&◌, ◌-◌, true, length, take, arith, ap, sym, ◌∙◌}
use Rattle.std.specs.List.{list_all}
use lib.Lanes.{chunk}
use Rattle.iio_text.specs.Lines.{is_printable}
use Rattle.iio_text.proofs.RunLemmas.{all_more, one_fails, all_with_last}
use Rattle.iio_text.proofs.lines.is_printable_text.Goals as goal

pub returns-then-few_are_printable : goal.returns-then-few_are_printable
returns-then-few_are_printable c =
    let line = c.args.line.now in
    let front : list_all is_printable (take 8 line) ≡ true = sym c.few_are_printable.ensures ∙ c.if-few_are_printable.true in
    c.few_are_printable-then-few_are_printable.ensures
    ∙ sym (all_with_last is_printable line 8 (length line - 8) 8 (omega arith) (omega arith)
    ∙ ap (λ b. b && list_all is_printable (chunk (length line - 8) 8 line)) front)

pub returns-then-not-lanes_are_printable : goal.returns-then-not-lanes_are_printable
returns-then-not-lanes_are_printable c =
    sym (one_fails is_printable c.args.line.now c.loop-place.place 16 (sym c.lanes_are_printable.ensures ∙ c.if-not-lanes_are_printable.true))

pub loop-place-preserved : goal.loop-place-preserved
loop-place-preserved c =
    let more =
    all_more is_printable c.args.line.now c.loop-place.place 16 c.loop-place.invariant.printable
    (sym c.lanes_are_printable.ensures ∙ c.if-not-lanes_are_printable.false) in
    record { within = omega arith; printable = more }

pub returns : goal.returns
returns c =
    let line = c.args.line.now in
    c.lanes_are_printable-2.ensures
    ∙ sym (all_with_last is_printable line c.loop-place.place (length line - 16) 16 (omega arith) (omega arith)
    ∙ ap (λ b. b && list_all is_printable (chunk (length line - 16) 16 line)) c.loop-place.invariant.printable)
