use Rattle.iio_mask.proofs.TextLemmas.{mask_of-mask_text, word_text, words_text}
use Rattle.iio_mask.proofs.Mask.print.Goals as goal

pub returns-in_ok-encode-clause-text : goal.returns-in_ok-encode-clause-text
returns-in_ok-encode-clause-text c =
    word_text c.args.channels c.args.self.bits _ c.if-channels-le32.true (rw c.to_be_bytes.ensures at c.in_ok-encode.ensures)

pub returns-in_ok-encode-clause-read_back : goal.returns-in_ok-encode-clause-read_back
returns-in_ok-encode-clause-read_back c =
    rw (returns-in_ok-encode-clause-text c) (mask_of-mask_text c.args.channels c.args.self.bits c.requires.few c.requires.below)

pub returns-in_ok-encode-2-clause-text : goal.returns-in_ok-encode-2-clause-text
returns-in_ok-encode-2-clause-text c =
    words_text c.args.channels c.args.self.bits _ c.if-channels-le32.false (rw c.to_be_bytes-else-channels-le32.ensures at c.in_ok-encode-2.ensures)

pub returns-in_ok-encode-2-clause-read_back : goal.returns-in_ok-encode-2-clause-read_back
returns-in_ok-encode-2-clause-read_back c =
    rw (returns-in_ok-encode-2-clause-text c) (mask_of-mask_text c.args.channels c.args.self.bits c.requires.few c.requires.below)
