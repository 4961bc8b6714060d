use Rattle.std.proofs.Common.{◌∙◌, ap}
use Rattle.std.specs.Prelude.{codes}
use Rattle.std.specs.Str.{bytes_eq}
use Rattle.iiod_readdev.proofs.WordLaws.{begins}
use Rattle.iiod_readdev.proofs.exit.is_readdev.Goals as goal

pub returns-in-len1-up : goal.returns-in-len1-up
returns-in-len1-up c =
    begins c.args.words.now c.word-item.result c.eq.result c.in-len1-up.len_at_least c.word-item.is
    (c.eq.ensures ∙ ap (λ bs. bytes_eq bs (codes "readdev")) c.as_str.ensures.value)
