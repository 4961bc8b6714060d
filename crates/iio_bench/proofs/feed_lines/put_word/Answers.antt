use Rattle.std.proofs.Common.{arith}
use Rattle.iio_bench.proofs.RoomLemmas.{block_stands}
use Rattle.iio_bench.proofs.feed_lines.put_word.Goals as goal

pub returns-clause-text : goal.returns-clause-text
returns-clause-text c =
    block_stands c.args.out.now.items c.deref_mut.result.now c.args.word.now _ c.args.at 16 c.args.len c.args.out.now.len
    c.deref_mut.ensures.value c.args.out.now.ok.0 c.requires.room (omega (arith, c.told-word)) c.requires.len
