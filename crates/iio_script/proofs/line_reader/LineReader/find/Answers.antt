use Rattle.std.proofs.Common.{◌∙◌, arith}
use Rattle.iio_io.proofs.Told.{silent_more}
use Rattle.iio_script.proofs.line_reader.LineReader.find.Goals as goal

pub loop-found-preserved : goal.loop-found-preserved
loop-found-preserved g c =
    record {
      follows = λ input front follows.
          c.fill.ensures.follows input front
          (c.look.ensures.follows input front (g.S.Source.left c.loop-found.source) (c.loop-found.invariant.follows input front follows));
      given = c.fill.ensures.given ∙ c.look.ensures.given ∙ c.loop-found.invariant.given;
      over = c.fill.ensures.over ∙ c.look.ensures.over ∙ c.loop-found.invariant.over;
      silent = silent_more _ _ _ c.loop-found.invariant.silent c.fill.ensures.silent;
      counted = omega (arith, c.in_ok-fill.ensures.steady, c.loop-found.invariant.counted);
      steady = c.in_ok-fill.ensures.steady ∙ c.loop-found.invariant.steady;
    }

pub returns-in_err-fill-clause-follows : goal.returns-in_err-fill-clause-follows
returns-in_err-fill-clause-follows g c = λ input front follows.
    c.fill.ensures.follows input front
    (c.look.ensures.follows input front (g.S.Source.left c.loop-found.source) (c.loop-found.invariant.follows input front follows))
