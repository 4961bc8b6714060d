use Rattle.std.proofs.Common.{◌+◌, ◌/◌, ◌%◌, ◌^◌, ◌∙◌, ◌++◌, ap, codes, arith}
use Rattle.std.specs.Fmt.{decimal}
use Rattle.iio_mask.specs.Text.{mask_text}
use Rattle.iio_gen.specs.Generator.{next_state}
use Rattle.iio_gen.specs.Input.{feed_line}
use Rattle.iio_gen.proofs.FeedLemmas.{open_appended}
use Rattle.iio_gen.proofs.feeds.push_open.Goals as goal

pub returns : goal.returns
returns c =
    let out = c.args.out.now.items in
    let connection = c.draw-connection.result in
    let samples = c.draw-samples.result in
    let bits = c.draw-bits.result in
    let first = next_state c.args.draws.now.state in
    let second = c.draw-samples.ensures.state ∙ ap next_state c.draw-connection.ensures.state in record {
      appended =
          open_appended connection (1 + samples) (1 + bits) out c.begin_feed.new.out.items c.extend_from_slice.new.self.items c.push_number.new.out.items
          c.push.new.self.items
          c.push_mask.new.out.items c.end_feed.new.out.items (let below = c.draw-samples.ensures.below in omega arith) c.in_ok-begin_feed.ensures
          c.in_ok-extend_from_slice.ensures.items c.in_ok-push_number.ensures c.in_ok-push.ensures.items c.in_ok-push_mask.ensures c.in_ok-end_feed.ensures
          ∙ ap (λ n. out ++ feed_line n (codes "OPEN dev0 " ++ (decimal (1 + samples) ++ (codes " " ++ mask_text 9 (1 + bits)))))
          c.draw-connection.ensures.number
          ∙ ap (λ n. out ++ feed_line (first / 2 ^ 33 % 4) (codes "OPEN dev0 " ++ (decimal (1 + n) ++ (codes " " ++ mask_text 9 (1 + bits)))))
          (c.draw-samples.ensures.number ∙ ap (λ y. next_state y / 2 ^ 33 % 8) c.draw-connection.ensures.state)
          ∙ ap (λ n. out ++ feed_line (first / 2 ^ 33 % 4)
          (codes "OPEN dev0 " ++ (decimal (1 + next_state first / 2 ^ 33 % 8) ++ (codes " " ++ mask_text 9 (1 + n)))))
          (c.draw-bits.ensures.number ∙ ap (λ y. next_state y / 2 ^ 33 % 511) second);
      left = c.draw-bits.ensures.state ∙ ap next_state second;
    }
