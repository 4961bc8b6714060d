use Rattle.std.proofs.Common.{◌<◌, ◌^◌, arith, drop, length-drop}
use Rattle.iiod_grammar.specs.Marks.{marks_of}
use Rattle.iiod_grammar.proofs.MarkLemmas.{marks_small}
use Rattle.iiod_grammar.proofs.blanks.marks_of_few.Goals as goal

pub overflow_mul-marks : goal.overflow_mul-marks
overflow_mul-marks c =
    let small : marks_of (drop c.loop-place.place c.args.text.now) < 2 ^ 8 =
    marks_small _ 8 (omega (arith, c.requires, length-drop c.loop-place.place c.args.text.now)) in
    grind (arith, small, c.loop-place.invariant.value)

pub overflow_add-marks : goal.overflow_add-marks
overflow_add-marks c =
    let small : marks_of (drop c.loop-place.place c.args.text.now) < 2 ^ 8 =
    marks_small _ 8 (omega (arith, c.requires, length-drop c.loop-place.place c.args.text.now)) in
    grind (arith, small, c.loop-place.invariant.value, c.from.auto)
