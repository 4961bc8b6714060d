use Rattle.std.proofs.Common.{eqb, w8, arith}
use Rattle.std.proofs.lemmas.Simd.{bitmask_splat, length-chunk}
use lib.Lanes.{chunk}
use Rattle.iio_script.proofs.line_reader.ends_in_lanes.Goals as goal

pub returns : goal.returns
returns c = bitmask_splat w8 eqb (chunk 0 32 c.args.bytes.now) 32 10 (length-chunk 0 32 c.args.bytes.now c.requires) (omega arith)
