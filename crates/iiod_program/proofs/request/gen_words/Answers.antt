use Rattle.std.proofs.Common.{◌∙◌, ap, not}
use Rattle.std.specs.Prelude.{codes}
use Rattle.std.specs.Str.{bytes_eq}
use Rattle.iiod_program.proofs.GenWords.{says_gen}
use Rattle.iiod_program.proofs.request.gen_words.Goals as goal

pub returns-clause-found : goal.returns-clause-found
returns-clause-found c =
    says_gen c.args.words.now c.word-item.result c.number-item.result c.as_str-2.result.now c.ne.result c.read_spelled.result
    c.in-len2.len_at_least c.in-len2.len_below c.word-item.is c.number-item.is
    (c.ne.ensures ∙ ap (λ bs. not (bytes_eq bs (codes "gen"))) c.as_str.ensures.value) c.if-ne.false c.as_str-2.ensures.value c.read_spelled.ensures.found
