use Rattle.std.proofs.Common.{◌≤◌, Some, option_map, sym, ap, ◌∙◌, arith}
use Rattle.std.proofs.lemmas.Result.{IfOk-weaker}
use Rattle.iio_text.specs.Words.{IsFirstWord, is_space, words_of}
use Rattle.iiod_grammar.specs.Command.{entry_of}
use Rattle.iio_history.specs.Script.{step_by, step_words}
use Rattle.iio_script.specs.Step.{form_of}
use Rattle.iio_script.proofs.FeedLemmas.{feed_line}
use Rattle.iio_script.proofs.PlayLaws.{performs_line}
use Rattle.iio_script.proofs.script.play_words.Goals as goal

pub returns-in-None-clause-performs : goal.returns-in-None-clause-performs
returns-in-None-clause-performs g c =
    let none = sym c.of.ensures ∙ ap (option_map form_of) c.in-None.is in
    performs_line _ c.play_feed.result _
    (λ line. step_by c.args.names.now line c.args.word.now (words_of is_space c.args.words.now) (entry_of step_words c.args.word.now))
    c.args.system.now c.play_feed.new.system c.args.out.now.items c.play_feed.new.out.items
    (λ line. IsFirstWord is_space line c.args.word.now c.args.words.now)
    (λ line first. feed_line c.args.names.now line c.args.word.now c.args.words.now none first) c.play_feed.ensures.performs

pub returns-in-Some-Fire-clause-used : goal.returns-in-Some-Fire-clause-used
returns-in-Some-Fire-clause-used g c = IfOk-weaker c.play_fire.result _ _ (λ why used. omega (arith, used)) c.play_fire.ensures.used

pub returns-in-Some-Fire-clause-performs : goal.returns-in-Some-Fire-clause-performs
returns-in-Some-Fire-clause-performs g c =
    let entry =
    sym c.of.ensures ∙ ap (option_map form_of) c.in-Some-Fire.is ∙ ap (λ w. Some (form_of w)) c.in-Some-Fire.field-0-is in
    performs_line _ c.play_fire.result _
    (λ line. step_by c.args.names.now line c.args.word.now (words_of is_space c.args.words.now) (entry_of step_words c.args.word.now))
    c.args.system.now c.play_fire.new.system c.args.out.now.items c.play_fire.new.out.items
    (λ line. IsFirstWord is_space line c.args.word.now c.args.words.now)
    (λ line first. ap (step_by c.args.names.now line c.args.word.now (words_of is_space c.args.words.now)) entry) c.play_fire.ensures.performs

pub returns-in-Some-clause-used : goal.returns-in-Some-clause-used
returns-in-Some-clause-used g c = IfOk-weaker c.play_step.result _ _ (λ why used. omega (arith, used)) c.play_step.ensures.used

pub returns-in-Some-clause-performs : goal.returns-in-Some-clause-performs
returns-in-Some-clause-performs g c =
    let entry = sym c.of.ensures ∙ ap (option_map form_of) c.in-Some.is in
    performs_line _ c.play_step.result _
    (λ line. step_by c.args.names.now line c.args.word.now (words_of is_space c.args.words.now) (entry_of step_words c.args.word.now))
    c.args.system.now c.play_step.new.system c.args.out.now.items c.play_step.new.out.items
    (λ line. IsFirstWord is_space line c.args.word.now c.args.words.now)
    (λ line first. ap (step_by c.args.names.now line c.args.word.now (words_of is_space c.args.words.now)) entry) c.play_step.ensures.performs
