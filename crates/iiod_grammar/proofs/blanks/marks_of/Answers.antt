use Rattle.std.proofs.Common.{arith}
use Rattle.iiod_grammar.proofs.MarkLemmas.{marks_joined}
use Rattle.iiod_grammar.proofs.blanks.marks_of.Goals as goal

pub returns-then-len-gt48 : goal.returns-then-len-gt48
returns-then-len-gt48 c =
    marks_joined c.args.text.now 32 32 _ _ (omega (arith, c.if-len-ge32.true)) (omega (arith, c.requires)) (omega (arith, c.requires))
    c.marks_of_32-first.ensures
    c.marks_of_32.ensures

pub returns-else-len-gt48 : goal.returns-else-len-gt48
returns-else-len-gt48 c =
    marks_joined c.args.text.now 32 16 _ _ (omega (arith, c.if-len-ge32.true)) (omega (arith, c.if-len-gt48.false)) (omega (arith, c.requires))
    c.marks_of_32-first.ensures
    c.marks_of_16.ensures

pub returns-then-len-ge16 : goal.returns-then-len-ge16
returns-then-len-ge16 c =
    marks_joined c.args.text.now 16 16 _ _ (omega (arith, c.if-len-ge16.true)) (omega (arith, c.if-len-ge32.false)) (omega (arith, c.requires))
    c.marks_of_16-then-len-ge16.ensures c.marks_of_16-then-len-ge16-2.ensures

pub returns-then-len-ge8 : goal.returns-then-len-ge8
returns-then-len-ge8 c =
    marks_joined c.args.text.now 8 8 _ _ (omega (arith, c.if-len-ge8.true)) (omega (arith, c.if-len-ge16.false)) (omega (arith, c.requires))
    c.marks_of_8.ensures
    c.marks_of_8-then-len-ge8.ensures
