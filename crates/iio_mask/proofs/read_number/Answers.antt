use Rattle.std.proofs.Common.{Some, ap, ◌∙◌}
use Rattle.iio_mask.proofs.TextLemmas.{word_none, word_some, words_none, words_some}
use Rattle.iio_mask.proofs.read_number.Goals as goal

pub returns-in_err-read_bytes : goal.returns-in_err-read_bytes
returns-in_err-read_bytes c =
    c.from_residual.ensures
    ∙ word_none c.args.text.now c.args.channels _ _ c.if-channels-le32.true c.read_bytes.ensures c.in_err-read_bytes.was

pub returns-in_err-read_bytes-2 : goal.returns-in_err-read_bytes-2
returns-in_err-read_bytes-2 c =
    c.from_residual-in_err-read_bytes-2.ensures
    ∙ words_none c.args.text.now c.args.channels _ _ c.if-channels-le32.false c.read_bytes-else-channels-le32.ensures c.in_err-read_bytes-2.was

pub returns-in_ok-read_bytes : goal.returns-in_ok-read_bytes
returns-in_ok-read_bytes c =
    ap Some (c.from.ensures ∙ c.from_be_bytes.ensures)
    ∙ word_some c.args.text.now c.args.channels _ _ _ c.if-channels-le32.true c.read_bytes.ensures c.in_ok-read_bytes.was

pub returns-in_ok-read_bytes-2 : goal.returns-in_ok-read_bytes-2
returns-in_ok-read_bytes-2 c =
    ap Some c.from_be_bytes-else-channels-le32.ensures
    ∙ words_some c.args.text.now c.args.channels _ _ _ c.if-channels-le32.false c.read_bytes-else-channels-le32.ensures c.in_ok-read_bytes-2.was
