use Rattle.std.proofs.Common.{length, sym, ap, ◌∙◌}
use Rattle.iio_desc.specs.Description.{heads_of}
use Rattle.iio_text.specs.Words.{words_of, is_space}
use Rattle.iio_script.specs.Step.{form_of}
use Rattle.iio_script.proofs.step.read_words.Goals as goal

pub returns-in-Clock-clause-value : goal.returns-in-Clock-clause-value
returns-in-Clock-clause-value c =
    c.read_clock.ensures.value c.args.desc.now
    ∙ ap (λ w. form_of w c.args.desc.now (words_of is_space c.args.words.now)) (sym c.in-Clock.is)

pub returns-in-Clock-clause-valid : goal.returns-in-Clock-clause-valid
returns-in-Clock-clause-valid c = c.read_clock.ensures.valid (length c.args.desc.now.triggers) (length (heads_of c.args.desc.now))

pub returns-in-Drop-clause-value : goal.returns-in-Drop-clause-value
returns-in-Drop-clause-value c =
    c.read_drop.ensures.value c.args.desc.now
    ∙ ap (λ w. form_of w c.args.desc.now (words_of is_space c.args.words.now)) (sym c.in-Drop.is)

pub returns-in-Drop-clause-valid : goal.returns-in-Drop-clause-valid
returns-in-Drop-clause-valid c = c.read_drop.ensures.valid (length c.args.desc.now.triggers) (length (heads_of c.args.desc.now))
