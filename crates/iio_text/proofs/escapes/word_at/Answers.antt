use Rattle.std.proofs.Common.{w8}
use Rattle.std.proofs.lemmas.Simd.{chunk-fits, length-chunk}
use lib.Lanes.{chunk}
use Rattle.iio_text.proofs.PrintedLemmas.{bytes_of_number}
use Rattle.iio_text.proofs.escapes.word_at.Goals as goal

pub returns : goal.returns
returns c =
    bytes_of_number (chunk c.args.place 8 c.args.bytes.now) (length-chunk c.args.place 8 c.args.bytes.now c.requires)
    (chunk-fits w8 c.args.place 8 c.args.bytes.now c.type_inv.bytes)
