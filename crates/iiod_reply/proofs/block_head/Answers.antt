use Rattle.std.proofs.Common.{◌≡◌, ◌+◌, ◌-◌, ◌++◌, arith, ap, ◌∙◌, sym, length, take, drop}
use Rattle.iiod_reply.specs.Reply.{head_length, head_text}
use Rattle.iiod_reply.proofs.CameLaws.{length_head, no_longer_head, put_short}
use Rattle.iiod_reply.proofs.block_head.Goals as goal

pub put_head-head-requires-clause-room : goal.put_head-head-requires-clause-room
put_head-head-requires-clause-room c =
    omega (arith, c.requires.room, no_longer_head c.args.channels c.args.came c.args.most c.requires.fewer c.ranges.most.fits)

pub returns-then-head-room-clause-items : goal.returns-then-head-room-clause-items
returns-then-head-room-clause-items c =
    let channels = c.args.channels in
    let old = c.args.out.now.items in
    let head = head_text channels c.args.mask.bits c.args.came in
    let less = no_longer_head channels c.args.came c.args.most c.requires.fewer c.ranges.most.fits in
    let size = length_head channels c.args.mask.bits c.args.came in
    let gone = head_length channels c.args.most - length head in
    let all : c.args.start + length head + gone ≡ c.args.start + head_length channels c.args.most = omega (arith, size, less) in
    put_short c.args.start gone old head c.put_head-head.new.out.items c.remove.new.out.items (omega (arith, size, less, c.requires.room))
    (rw (sym size) at c.put_head-head.ensures.items) (rw (c.put_head-head.ensures.length, c.head_length-room.ensures.value, sym size) at c.remove.ensures.items)
    ∙ ap (λ k. take c.args.start old ++ (head ++ drop k old)) all

pub returns-else-head-room-clause-items : goal.returns-else-head-room-clause-items
returns-else-head-room-clause-items c =
    let less = no_longer_head c.args.channels c.args.came c.args.most c.requires.fewer c.ranges.most.fits in
    let same : head_length c.args.channels c.args.came ≡ head_length c.args.channels c.args.most =
    omega (arith, less, c.if-head-room.false, c.put_head-head.ensures.length, c.head_length-room.ensures.value) in
    c.put_head-head.ensures.items
    ∙ ap (λ k. take c.args.start c.args.out.now.items
    ++ (head_text c.args.channels c.args.mask.bits c.args.came ++ drop (c.args.start + k) c.args.out.now.items)) same
