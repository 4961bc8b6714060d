use Rattle.std.proofs.Common.{◌≡◌, length}
use Rattle.iio_text.specs.Words.{from_word}
use Rattle.iio_text.proofs.words.from_word.Given as goal

abbrev pub invariant-loop-rest : goal.invariant-loop-rest
invariant-loop-rest l = from_word l.text ≡ from_word l.rest

abbrev pub decreases-loop-rest : goal.decreases-loop-rest
decreases-loop-rest l = length l.rest
