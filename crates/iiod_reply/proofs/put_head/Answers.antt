use Rattle.std.proofs.Common.{◌≡◌, ◌+◌, ◌-◌, ◌++◌, arith, ap, ◌∙◌, sym, length, length-append, take, drop, decimal}
use Rattle.std.specs.Prelude.{replicate}
use Rattle.std.proofs.Math.Seq.{take-append_seam}
use Rattle.iio_mask.specs.Text.{digit_count, mask_text}
use Rattle.iiod_reply.specs.Reply.{head_length, head_text, line}
use Rattle.iiod_reply.proofs.CameLaws.{length_head, length_mask, put_beside}
use Rattle.iiod_reply.proofs.put_head.Goals as goal

pub returns-clause-items : goal.returns-clause-items
returns-clause-items c =
    let channels = c.args.channels in
    let mask = c.args.mask.bits in
    let old = c.args.out.now.items in
    let text = mask_text channels mask in
    let number = line (decimal c.args.came) in
    let count : c.as_bytes-count.result.now ≡ decimal c.args.came = c.as_bytes-count.ensures.value ∙ c.format.ensures.text in
    let digits : take c.digit_count.result c.digits-digits.result ≡ text =
    ap (λ k. take k c.digits-digits.result) c.digit_count.ensures.value ∙ ap (take (digit_count channels)) c.digits-digits.ensures.text
    ∙ ap (λ k. take k (text ++ replicate (16 - digit_count channels) 0)) (sym (length_mask channels mask))
    ∙ take-append_seam text (replicate (16 - digit_count channels) 0) in
    let first = rw count at c.put_line-length.ensures.items in
    let width : c.put_line-length.result ≡ length number = rw count at c.put_line-length.ensures.length in
    let second = rw (digits, width) at c.put_line.ensures.items in
    let size : length number + length (line text) ≡ head_length channels c.args.came =
    sym (length-append number (line text)) ∙ length_head channels mask c.args.came in
    put_beside c.args.at old number (line text) c.put_line-length.new.out.items c.put_line.new.out.items (omega (arith, size, c.requires.room)) first second
    ∙ ap (λ k. take c.args.at old ++ (head_text channels mask c.args.came ++ drop (c.args.at + k) old)) (length_head channels mask c.args.came)
