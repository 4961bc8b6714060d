use Rattle.std.proofs.Common.{ap, ◌∙◌, sym}
use Rattle.std.specs.Prelude.{option_map}
use Rattle.std.proofs.lemmas.Result.{IfErr-weaker, IfOk-weaker}
use Rattle.iio_script.specs.Step.{form_of}
use Rattle.iio_script.proofs.FeedLemmas.{feed_line, feed_told}
use Rattle.iio_script.proofs.step.read_line.Goals as goal

pub returns-in-None-clause-ok : goal.returns-in-None-clause-ok
returns-in-None-clause-ok c =
    let none = sym c.of.ensures ∙ ap (option_map form_of) c.in-None.is in
    IfOk-weaker c.read_feed_step.result _ _ (λ step read line first. feed_line c.args.desc.now line c.args.word.now c.args.words.now none first ∙ read)
    c.read_feed_step.ensures.ok

pub returns-in-None-clause-err : goal.returns-in-None-clause-err
returns-in-None-clause-err c =
    let none = sym c.of.ensures ∙ ap (option_map form_of) c.in-None.is in
    IfErr-weaker c.read_feed_step.result _ _ (λ e told line first. feed_told c.args.desc.now line c.args.word.now c.args.words.now e none first told)
    c.read_feed_step.ensures.err
