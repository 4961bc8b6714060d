use Rattle.std.proofs.Common.{◌∙◌, ap, sym}
use Rattle.std.specs.Prelude.{decimal}
use Rattle.std.proofs.lemmas.Fmt.{parse-decimal}
use Rattle.iiod_serve.proofs.WordLaws.{no_number, not_other, same_number}
use Rattle.iiod_serve.proofs.spelled.read_spelled.Goals as goal

pub returns-in_default-clause-none : goal.returns-in_default-clause-none
returns-in_default-clause-none c =
    λ is_none n fits is. no_number c.parse.result c.in_default.field-0 n c.in_default.is (parse-decimal 64 n _ _ fits fits is c.parse.ensures.value.0)

pub returns-then-ne-clause-none : goal.returns-then-ne-clause-none
returns-then-ne-clause-none c = λ is_none n fits is.
    not_other c.format.result.now c.args.text.now c.ne.result c.ne.ensures c.if-ne.true
    (c.format.ensures.text ∙ ap decimal (same_number c.parse.result c.in-Ok.n n c.in-Ok.is (parse-decimal 64 n _ _ fits fits is c.parse.ensures.value.0))
    ∙ sym is)
