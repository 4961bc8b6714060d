use borrow.Rule.Slice.PartMut.{put_mid}
use Rattle.std.proofs.Common.{◌≡◌, ◌+◌, ◌-◌, ◌≤◌, ℕ, [], ◌++◌, Ok, length, take, drop, arith, rules, ap, sym, ◌∙◌, length-drop}
use Rattle.std.proofs.lemmas.List.{take_rest, take_more_set}
use Rattle.iio_text.specs.Escape.{before, unescaped, unescaped_from}
use Rattle.iio_text.proofs.EscapeLemmas.{piece_more, copied_more, no_piece, whole_read}
use Rattle.iio_text.proofs.PrintedLemmas.{length_written}
use Rattle.iio_text.proofs.escapes.unescape_into.Goals.{else-pieces-test, then-pieces-test+then-place-text}
use Rattle.iio_text.proofs.escapes.unescape_into.Goals as goal

pub returns-in_default-piece-clause-err : goal.returns-in_default-piece-clause-err
returns-in_default-piece-clause-err c =
    let text = c.args.text.now in
    let place = c.pieces.place in
    let len = c.pieces.len in
    let n = c.copy_before-plain.result in
    let grown = c.deref_mut.result.now in
    let meant =
    copied_more text c.pieces.out.items grown c.copy_before-plain.new.room [] place len n c.pieces.out.len (length grown - len) c.pieces.invariant.meant
    (rw take_rest at c.copy_before-plain.ensures.value) c.deref_mut.ensures.value
    (rw take_rest at c.copy_before-plain.ensures.copied) (search rules) (search rules) (search rules) in
    let none = sym (rw (take_rest, c.in_default-piece.is) at c.piece.ensures.value) in
    no_piece text _ (place + n) meant (omega (arith, length-drop {A = ℕ}, c.copy_before-plain.ensures.within, c.if-place-text.false)) none

pub pieces-preserved : goal.pieces-preserved
pieces-preserved c =
    let text = c.args.text.now in
    let place = c.pieces.place in
    let len = c.pieces.len in
    let n = c.copy_before-plain.result in
    let grown = c.deref_mut.result.now in
    let room = c.copy_before-plain.new.room in
    let put = put_mid len (length grown - len) grown room in
    let after = drop (length put) c.pieces.out.items in
    let written = take c.pieces.out.len (put ++ after) in
    let meant =
    copied_more text c.pieces.out.items grown room after place len n c.pieces.out.len (length grown - len) c.pieces.invariant.meant
    (rw take_rest at c.copy_before-plain.ensures.value) c.deref_mut.ensures.value
    (rw take_rest at c.copy_before-plain.ensures.copied) (search rules) (search rules) (search rules) in
    let same : c.pieces.out.len ≡ length text = search rules in
    let long : length written ≡ length text = length_written len c.pieces.out.len grown room after (search rules) (search rules) (search rules) ∙ same in
    let within : place + n + (c.in-Some.more + 1) ≤ length text =
    omega (arith, length-drop {A = ℕ}, c.in-Some.ensures.within, c.copy_before-plain.ensures.within) in
    let more =
    piece_more text (take (len + n) written) (place + n) c.in-Some.byte c.in-Some.more meant (sym (rw take_rest at c.in-Some.ensures.value))
    (rw take_rest at c.in-Some.ensures.within) in
    let pushed = take_more_set written (len + n) c.in-Some.byte (omega (arith, long, within, c.pieces.invariant.put)) in
    record {
      within = within;
      put = search rules;
      room = search rules;
      meant = more ∙ sym (ap (λ o. before o (unescaped_from (place + n + (c.in-Some.more + 1)) 0 (drop (place + n + (c.in-Some.more + 1)) text))) pushed);
    }

pub returns-clause-ok : goal.returns-clause-ok
returns-clause-ok c =
    let text = c.args.text.now in
    let place = c.pieces.place in
    let len = c.pieces.len in
    let whole : unescaped text ≡ Ok (take c.pieces-test.len c.pieces-test.out.items) =
    elim c.pieces-test.branch [
      | else-pieces-test w ↦ rw (w.out-is, w.len-is)
          (whole_read text (take len c.pieces.out.items) place c.pieces.invariant.meant (omega (arith, w.pieces-test.false)))
      | then-pieces-test+then-place-text w ↦ rw (w.out-is, w.len-is) (whole_read text _ (place + w.copy_before-plain.result)
          (copied_more text c.pieces.out.items w.deref_mut.result.now w.copy_before-plain.new.room _ place len w.copy_before-plain.result c.pieces.out.len
          (length w.deref_mut.result.now - len) c.pieces.invariant.meant (rw take_rest at w.copy_before-plain.ensures.value)
          w.deref_mut.ensures.value (rw take_rest at w.copy_before-plain.ensures.copied) (search rules) (search rules) (search rules))
          (omega (arith, w.if-place-text.true)))
    ] in
    whole ∙ ap Ok (sym c.truncate.ensures.items)
