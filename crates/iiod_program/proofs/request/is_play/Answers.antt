use Rattle.std.proofs.Common.{◌∙◌, ap}
use Rattle.std.specs.Prelude.{codes}
use Rattle.std.specs.Str.{bytes_eq}
use Rattle.iiod_serve.proofs.WordLaws.{says}
use Rattle.iiod_program.proofs.request.is_play.Goals as goal

pub returns-in-len1 : goal.returns-in-len1
returns-in-len1 c =
    says c.args.words.now c.word-item.result (codes "play") c.eq.result c.in-len1.len_at_least c.in-len1.len_below c.word-item.is
    (c.eq.ensures ∙ ap (λ bs. bytes_eq bs (codes "play")) c.as_str.ensures.value)
