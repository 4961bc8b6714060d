use Rattle.std.proofs.Common.{◌∙◌, ◌++◌, ap, codes, refl}
use Rattle.std.specs.Fmt.{decimal}
use Rattle.iio_gen.proofs.FeedLemmas.{feed_appended}
use Rattle.iio_gen.proofs.feeds.push_close.Goals as goal

pub returns : goal.returns
returns c = record {
  appended =
      feed_appended _ (codes "CLOSE dev0") c.args.out.now.items c.begin_feed.new.out.items c.extend_from_slice.new.self.items c.end_feed.new.out.items refl
      (c.in_ok-begin_feed.ensures ∙ ap (λ n. c.args.out.now.items ++ (codes "c" ++ (decimal n ++ codes " \""))) c.draw-connection.ensures.number)
      c.in_ok-extend_from_slice.ensures.items c.in_ok-end_feed.ensures;
  left = c.draw-connection.ensures.state;
}
