use Rattle.std.proofs.Common.{length}
use Rattle.iio_mask.proofs.TextLemmas.{decoded}
use Rattle.iio_mask.proofs.read_bytes.Goals as goal

pub returns : goal.returns
returns c =
    rw c.ok.ensures.value (decoded c.args.text.now (length c.args.out.now) c.decode_to_slice.result c.decode_to_slice.new.out c.decode_to_slice.ensures.value)
