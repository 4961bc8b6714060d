use Rattle.std.proofs.Common.{◌≡◌, ◌+◌, ◌≤◌, length, drop}
use Rattle.iio_text.specs.Words.{words_of, is_space}
use Rattle.iio_text.proofs.CountLemmas.{begun_words}
use Rattle.iio_text.proofs.words.count_words.Given as goal

abbrev pub invariant-loop-byte : goal.invariant-loop-byte
invariant-loop-byte l = record {
  told : l.count + begun_words l.after_space (drop l.byte-index l.text) ≡ length (words_of is_space l.text);
  room : l.count ≤ l.byte-index;
}
