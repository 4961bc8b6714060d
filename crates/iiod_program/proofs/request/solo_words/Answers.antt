use Rattle.std.proofs.Common.{◌∙◌, ap, not}
use Rattle.std.specs.Prelude.{codes}
use Rattle.std.specs.Str.{bytes_eq}
use Rattle.iiod_program.proofs.SoloWords.{says_other, says_solo}
use Rattle.iiod_program.proofs.request.solo_words.Goals as goal

pub returns-clause-found : goal.returns-clause-found
returns-clause-found c =
    says_solo c.args.words.now c.word-item.result c.name-item.result c.as_bytes-name.result.now c.ne.result c.new.result c.is_none.result
    c.in-len2.len_at_least c.in-len2.len_below c.word-item.is c.name-item.is
    (c.ne.ensures ∙ ap (λ bs. not (bytes_eq bs (codes "solo"))) c.as_str.ensures.value) c.if-ne.false c.as_bytes-name.ensures.value
    c.new.ensures c.is_none.ensures c.if-is_none.false

pub returns-then-is_none-clause-none : goal.returns-then-is_none-clause-none
returns-then-is_none-clause-none c =
    λ none. says_other c.args.words.now c.word-item.result c.name-item.result c.as_bytes-name.result.now c.new.result c.is_none.result
    c.in-len2.len_at_least c.in-len2.len_below c.word-item.is c.name-item.is c.as_bytes-name.ensures.value
    c.new.ensures c.is_none.ensures c.if-is_none.true
