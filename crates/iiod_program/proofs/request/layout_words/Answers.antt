use Rattle.std.proofs.Common.{◌∙◌, ap, not}
use Rattle.std.specs.Prelude.{codes}
use Rattle.std.specs.Str.{bytes_eq}
use Rattle.iiod_serve.proofs.WordLaws.{says_three}
use Rattle.iiod_program.proofs.request.layout_words.Goals as goal

pub returns-clause-found : goal.returns-clause-found
returns-clause-found c =
    says_three c.args.words.now c.word-item.result c.device-item.result c.mask-item.result (codes "layout") c.as_bytes.result.now c.as_bytes-2.result.now
    c.ne.result
    c.in-len3.len_at_least c.in-len3.len_below c.word-item.is c.device-item.is c.mask-item.is
    (c.ne.ensures ∙ ap (λ bs. not (bytes_eq bs (codes "layout"))) c.as_str.ensures.value) c.if-ne.false c.as_bytes.ensures.value c.as_bytes-2.ensures.value
