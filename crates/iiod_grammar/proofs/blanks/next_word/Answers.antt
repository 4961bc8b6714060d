use Rattle.std.proofs.Common.{◌≡◌, ◌<◌, arith, refl, length}
use Rattle.std.proofs.lemmas.Bool.Decides.{nat_tests}
use Rattle.iio_text.specs.Words.{is_blank, IsFirstWord}
use Rattle.iio_text.proofs.WordLemmas.{first_word_is, no_word}
use Rattle.iiod_grammar.proofs.blanks.next_word.Goals as goal

found_at : (c : goal.After-split_at-2) → IsFirstWord is_blank c.args.text.now c.split_at-2.result.0.now c.split_at-2.result.1.now
found_at c =
    let some : 0 < length c.split_at.result.1.now = grind (arith, nat_tests, c.if-is_empty.ensures) in
    first_word_is _ _ c.split_at.result.1.now _ _ (rw c.blanks_len.ensures.value at c.split_at.ensures.back) some
    (rw c.word_len.ensures.value at c.split_at-2.ensures.front) (rw c.word_len.ensures.value at c.split_at-2.ensures.back)

pub returns-then-is_empty-clause-none : goal.returns-then-is_empty-clause-none
returns-then-is_empty-clause-none c =
    let nothing : length c.split_at.result.1.now ≡ 0 = grind (arith, nat_tests, c.if-is_empty.ensures) in
    (λ _. no_word is_blank c.args.text.now (rw (c.split_at.ensures.back, c.blanks_len.ensures.value) at nothing), λ _. refl)

pub returns-clause-none : goal.returns-clause-none
returns-clause-none c = let found = (found_at c).words in (λ e. absurd (cc e), λ e. absurd (cc (found, e)))

pub returns-clause-found : goal.returns-clause-found
returns-clause-found c = found_at c
