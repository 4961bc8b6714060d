use Rattle.std.proofs.Common.{◌≡◌, ◌+◌, ◌≤◌, ◌&&◌, not, Bool, true, false, cond, drop, get_or, refl, ap, zero-add, ◌∙◌, arith}
use Rattle.std.proofs.lemmas.List.{at_drop_more}
use mir.Val.{bool_byte}
use Rattle.iio_text.specs.Words.{is_space}
use Rattle.iio_text.proofs.CountLemmas.{begun_words, words_begun}
use Rattle.iio_text.proofs.words.count_words.Goals as goal

one_where : (t : Bool) → bool_byte t ≡ cond t 1 0
one_where true = refl
one_where false = refl

at_most_one : (t : Bool) → cond t 1 0 ≤ 1
at_most_one true = omega arith
at_most_one false = omega arith

pub loop-byte-init : goal.loop-byte-init
loop-byte-init c = record { told = zero-add _ ∙ words_begun c.args.text.now; room = omega arith }

pub loop-byte-preserved : goal.loop-byte-preserved
loop-byte-preserved c =
    let inv = c.loop-byte.invariant in
    let text = c.args.text.now in
    let i = c.loop-byte.byte-index in
    let begins : Bool = c.loop-byte.after_space && not (is_space (get_or text i 0)) in
    let more : c.from-count.result ≡ cond begins 1 0 =
    c.from-count.ensures ∙ one_where c.begins_word.result ∙ ap (λ (t : Bool). cond t 1 0) c.begins_word.ensures in
    let step : begun_words c.loop-byte.after_space (drop i text) ≡ cond begins 1 0 + begun_words (is_space (get_or text i 0)) (drop (i + 1) text) =
    at_drop_more (begun_words c.loop-byte.after_space) text i 0 c.loop-byte-test.true in
    let one = at_most_one begins in
    record { told = omega (arith, inv.told, step, more); room = omega (arith, inv.room, more, one) }
