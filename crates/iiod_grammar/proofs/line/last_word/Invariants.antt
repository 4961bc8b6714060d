use Rattle.std.proofs.Common.{◌≡◌, length}
use Rattle.iiod_grammar.specs.Command.{last_of}
use Rattle.iiod_grammar.proofs.line.last_word.Given as goal

abbrev pub invariant-loop-next : goal.invariant-loop-next
invariant-loop-next l = last_of l.last l.words ≡ last_of l.fn.word l.fn.words

abbrev pub decreases-loop-next : goal.decreases-loop-next
decreases-loop-next l = length l.words
