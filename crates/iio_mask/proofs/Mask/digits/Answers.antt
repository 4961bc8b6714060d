use Rattle.iio_mask.proofs.TextLemmas.{word_buffer, words_buffer}
use Rattle.iio_mask.proofs.Mask.digits.Goals as goal

pub returns-then-channels-le32 : goal.returns-then-channels-le32
returns-then-channels-le32 c = record {
  text = word_buffer c.args.channels c.args.self.bits _ c.if-channels-le32.true
      (rw (c.unwrap.ensures, c.to_be_bytes-word.ensures) at c.encode_to_slice.ensures.written);
}

pub returns-else-channels-le32 : goal.returns-else-channels-le32
returns-else-channels-le32 c = record {
  text = words_buffer c.args.channels c.args.self.bits _ c.if-channels-le32.false
      (rw (c.unwrap-else-channels-le32.ensures, c.to_be_bytes.ensures) at c.encode_to_slice-else-channels-le32.ensures.written);
}
