use Rattle.std.proofs.Common.{◌<◌, ◌+◌, ◌∷◌, [], ◌∙◌, codes, sym, take, arith}
use Rattle.std.proofs.lemmas.Bool.Decides.{nat_tests}
use Rattle.std.proofs.lemmas.Fmt.{decimal_digit}
use Rattle.std.proofs.lemmas.List.{append_assoc}
use Rattle.iio_system.proofs.lines.put_count.Goals as goal

pub returns-clause-text : goal.returns-clause-text
returns-clause-text c =
    let few : c.args.n < 10 = grind (arith, nat_tests, c.if-n-ge10.false) in
    rw (decimal_digit c.args.n few) (c.put.ensures.text ∙ sym (append_assoc (take c.args.at c.args.out.now.items) ((48 + c.args.n) ∷ []) (codes "\n")))
