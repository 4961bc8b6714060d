use Rattle.std.proofs.Common.{◌≡◌, ◌+◌, drop}
use Rattle.std.specs.List.{position_or_len}
use Rattle.iio_text.specs.Words.{is_space}
use Rattle.iio_text.proofs.words.word_len.Given as goal

abbrev pub invariant-loop-i : goal.invariant-loop-i
invariant-loop-i l = position_or_len is_space l.text ≡ l.i + position_or_len is_space (drop l.i l.text)
