use Rattle.std.proofs.Common.{◌/◌, ◌%◌, ◌^◌, ◌∙◌, ◌++◌, ap, codes, arith}
use Rattle.std.specs.Fmt.{decimal}
use Rattle.iio_gen.specs.Generator.{next_state}
use Rattle.iio_gen.specs.Input.{feed_line}
use Rattle.iio_gen.proofs.FeedLemmas.{read_appended}
use Rattle.iio_gen.proofs.feeds.push_read.Goals as goal

pub returns : goal.returns
returns c =
    let out = c.args.out.now.items in
    let connection = c.draw-connection.result in
    let bytes = c.draw-bytes.result in record {
      appended =
          read_appended connection bytes out c.begin_feed.new.out.items c.extend_from_slice.new.self.items c.push_number.new.out.items c.end_feed.new.out.items
          (let below = c.draw-bytes.ensures.below in omega arith) c.in_ok-begin_feed.ensures c.in_ok-extend_from_slice.ensures.items c.in_ok-push_number.ensures
          c.in_ok-end_feed.ensures
          ∙ ap (λ n. out ++ feed_line n (codes "READBUF dev0 " ++ decimal bytes)) c.draw-connection.ensures.number
          ∙ ap (λ n. out ++ feed_line (next_state c.args.draws.now.state / 2 ^ 33 % 4) (codes "READBUF dev0 " ++ decimal n))
          (c.draw-bytes.ensures.number ∙ ap (λ y. next_state y / 2 ^ 33 % 400) c.draw-connection.ensures.state);
      left = c.draw-bytes.ensures.state ∙ ap next_state c.draw-connection.ensures.state;
    }
