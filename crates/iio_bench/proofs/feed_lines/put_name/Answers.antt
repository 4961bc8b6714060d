use Rattle.std.proofs.Common.{◌++◌, ◌∙◌, ap, length, take, arith}
use Rattle.iio_bench.proofs.RoomLemmas.{block_stands}
use Rattle.iio_bench.proofs.feed_lines.put_name.Goals as goal

pub returns-clause-text : goal.returns-clause-text
returns-clause-text c =
    rw c.bytes.ensures.value
    (block_stands c.args.out.now.items c.deref_mut.result.now c.padded.result.now _ c.args.at 32 (length c.args.name.now) c.args.out.now.len
    c.deref_mut.ensures.value c.args.out.now.ok.0 c.requires (omega (arith, c.padded.ensures.size)) c.padded.ensures.within
    ∙ ap (λ xs. take c.args.at c.args.out.now.items ++ xs) c.padded.ensures.bytes)
