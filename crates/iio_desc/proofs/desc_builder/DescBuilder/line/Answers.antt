use Rattle.std.proofs.Common.{◌≡◌, ◌∷◌, Ok, Some, sym, ◌∙◌}
use Rattle.iio_text.specs.Lines.{words_of_line}
use Rattle.iio_text.specs.Words.{words_of, is_space, IsFirstWord}
use Rattle.iio_desc.specs.Lines.{keyword_of}
use Rattle.iio_desc.proofs.ReaderLemmas.{after_line-first}
use Rattle.iio_desc.proofs.desc_builder.DescBuilder.line.Goals as goal

pub returns-clause-line : goal.returns-clause-line
returns-clause-line c =
    let words : words_of_line c.args.line.now ≡ Ok (c.in-Some.word.now ∷ words_of is_space c.in-Some.words.now) =
    rw c.in-Some.is at c.in_ok-word.ensures.words in
    let first : IsFirstWord is_space c.args.line.now c.in-Some.word.now c.in-Some.words.now = rw c.in-Some.is at c.in_ok-word.ensures.first in
    let known : keyword_of c.in-Some.word.now ≡ Some c.in_ok-keyword.keyword = sym c.of.ensures ∙ c.in_ok-keyword.ensures.ok_part in
    rw (after_line-first c.args.self.now c.args.line.now c.in-Some.word.now c.in-Some.words.now c.in_ok-keyword.keyword words first known)
    c.keyword_line.ensures.line
