use Rattle.std.proofs.Common.{◌≤◌, ◌++◌, List, ℕ, length, sym, ◌∙◌, subst, arith}
use Rattle.iio_text.specs.declared.lines.TheConstants.{MAX_LINE_BYTES}
use Rattle.iio_text.specs.Words.{is_space, words_of}
use Rattle.iiod_grammar.specs.Command.{entry_of}
use Rattle.iio_history.specs.Outcome.{only_ending}
use Rattle.iio_history.specs.Script.{Refused, step_by, step_words}
use Rattle.iio_script.specs.Ends.{Finishes}
use Rattle.iio_script.proofs.CostLemmas.{few_after_word}
use Rattle.iio_script.proofs.OutlineLemmas.{same_step}
use Rattle.iio_script.proofs.PlayLaws.{behind_sent, plays_past, plays_refused, plays_step, plays_stopped, says_nothing, says_words, says_wrong}
use Rattle.iio_script.proofs.script.play_line.Goals as goal

pub returns-in-Err-clause-played : goal.returns-in-Err-clause-played
returns-in-Err-clause-played g c = λ s sent first given finds plays ending lines.
    plays_refused _ s c.args.system.now (sent ++ c.args.out.now.items) (sent ++ c.push_refused.new.out.items) _ c.args.line.now lines c.in-Err.why
    ending c.in_ok-push_refused-in-Err.field-0
    (sym (same_step c.args.names.now s.desc c.args.line.now finds) ∙ says_wrong c.args.names.now c.args.line.now c.in-Err.why c.in-Err.ensures.refused) plays
    (behind_sent sent c.args.out.now.items c.push_refused.new.out.items _ _ c.in_ok-push_refused-in-Err.ensures.ends)

pub returns-in-Ok-None-clause-played : goal.returns-in-Ok-None-clause-played
returns-in-Ok-None-clause-played g c = λ s sent first given finds plays.
    plays_past _ s c.args.system.now (sent ++ c.args.out.now.items) _ c.args.line.now
    (sym (same_step c.args.names.now s.desc c.args.line.now finds)
    ∙ says_nothing c.args.names.now c.args.line.now (rw c.in-Ok-None.field-0-is at c.in-Ok-None.ensures.blank)) plays

pub play_words-requires-clause-few : goal.play_words-requires-clause-few
play_words-requires-clause-few g c =
    let first = rw c.in-Ok-Some.field-0-is at c.in-Ok-Some.ensures.first in
    let said = rw c.in-Ok-Some.field-0-is at c.in-Ok-Some.ensures.words in
    let few : length c.in-Ok-Some.parts.1.now ≤ MAX_LINE_BYTES =
    few_after_word c.args.line.now c.in-Ok-Some.parts.0.now c.in-Ok-Some.parts.1.now _ said first in
    omega (arith, few, c.requires.few, c.ranges.number)

pub returns-in-None-clause-used : goal.returns-in-None-clause-used
returns-in-None-clause-used g c =
    let first = rw c.in-Ok-Some.field-0-is at c.in-Ok-Some.ensures.first in
    let said = rw c.in-Ok-Some.field-0-is at c.in-Ok-Some.ensures.words in
    let few : length c.in-Ok-Some.parts.1.now ≤ MAX_LINE_BYTES =
    few_after_word c.args.line.now c.in-Ok-Some.parts.0.now c.in-Ok-Some.parts.1.now _ said first in
    omega (arith, few, c.in_ok-play_words.ensures.used)

pub returns-in-None-clause-played : goal.returns-in-None-clause-played
returns-in-None-clause-played g c = λ s sent first given finds plays.
    let said = rw c.in-Ok-Some.field-0-is at c.in-Ok-Some.ensures.words in
    plays_step _ s c.args.system.now c.play_words.new.system sent c.args.out.now.items c.play_words.new.out.items _ c.args.line.now
    (step_by c.args.names.now c.args.line.now c.in-Ok-Some.parts.0.now (words_of is_space c.in-Ok-Some.parts.1.now)
    (entry_of step_words c.in-Ok-Some.parts.0.now))
    (sym (same_step c.args.names.now s.desc c.args.line.now finds)
    ∙ says_words c.args.names.now c.args.line.now c.in-Ok-Some.parts.0.now (words_of is_space c.in-Ok-Some.parts.1.now) said)
    (rw c.in-None.is at (c.in_ok-play_words.ensures.performs c.args.line.now (rw c.in-Ok-Some.field-0-is at c.in-Ok-Some.ensures.first))) plays

pub returns-in_ok-push_refused-in-Some-clause-used : goal.returns-in_ok-push_refused-in-Some-clause-used
returns-in_ok-push_refused-in-Some-clause-used g c =
    let first = rw c.in-Ok-Some.field-0-is at c.in-Ok-Some.ensures.first in
    let said = rw c.in-Ok-Some.field-0-is at c.in-Ok-Some.ensures.words in
    let few : length c.in-Ok-Some.parts.1.now ≤ MAX_LINE_BYTES =
    few_after_word c.args.line.now c.in-Ok-Some.parts.0.now c.in-Ok-Some.parts.1.now _ said first in
    omega (arith, few, c.in_ok-play_words.ensures.used)

pub returns-in_ok-push_refused-in-Some-clause-played : goal.returns-in_ok-push_refused-in-Some-clause-played
returns-in_ok-push_refused-in-Some-clause-played g c = λ s sent first given finds plays ending lines.
    let said = rw c.in-Ok-Some.field-0-is at c.in-Ok-Some.ensures.words in
    let reading =
    step_by c.args.names.now c.args.line.now c.in-Ok-Some.parts.0.now (words_of is_space c.in-Ok-Some.parts.1.now)
    (entry_of step_words c.in-Ok-Some.parts.0.now) in
    let refused =
    rw c.in-Some.is at (c.in_ok-play_words.ensures.performs c.args.line.now (rw c.in-Ok-Some.field-0-is at c.in-Ok-Some.ensures.first)) in
    plays_stopped _ s c.args.system.now (sent ++ c.args.out.now.items) (sent ++ c.push_refused-in-Some.new.out.items) _ c.args.line.now lines
    reading c.in-Some.why ending c.in_ok-push_refused-in-Some.field-0
    (sym (same_step c.args.names.now s.desc c.args.line.now finds)
    ∙ says_words c.args.names.now c.args.line.now c.in-Ok-Some.parts.0.now (words_of is_space c.in-Ok-Some.parts.1.now) said) refused.0 plays
    (behind_sent sent c.args.out.now.items c.push_refused-in-Some.new.out.items _ _
    (subst (λ (out : List ℕ). Finishes (only_ending (Refused c.args.number c.in-Some.why)) c.in_ok-push_refused-in-Some.field-0 out
    c.push_refused-in-Some.new.out.items) refused.1.1 c.in_ok-push_refused-in-Some.ensures.ends))
