use Rattle.std.proofs.Common.{◌∙◌, ap, not}
use Rattle.std.specs.Prelude.{codes}
use Rattle.std.specs.Str.{bytes_eq}
use Rattle.iiod_serve.proofs.WordLaws.{says_serve}
use Rattle.iiod_serve.proofs.words.serve_words.Goals as goal

pub returns-clause-found : goal.returns-clause-found
returns-clause-found c =
    says_serve c.args.words.now c.word-item.result c.address-item.result c.number-item.result c.as_str-3.result.now c.as_str-2.result.now c.in-Some.period
    c.ne.result
    c.in-len3.len_at_least c.in-len3.len_below c.word-item.is c.address-item.is c.number-item.is
    (c.ne.ensures ∙ ap (λ bs. not (bytes_eq bs (codes "serve"))) c.as_str.ensures.value) c.if-ne.false c.as_str-3.ensures.value c.as_str-2.ensures.value
    c.in-Some.ensures.found
