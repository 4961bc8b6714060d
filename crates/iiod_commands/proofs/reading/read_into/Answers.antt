use Rattle.std.proofs.Common.{rules, ◌≡◌, ◌+◌, ◌-◌, ◌*◌, ◌≤◌, ◌<◌, ◌^◌, ◌++◌, length, length-append, sym, ap, ◌∙◌, arith}
use Rattle.std.specs.Prelude.{vec_capacity}
use Rattle.iiod_reply.specs.Reply.{block_text, joined_scans}
use Rattle.iio_core.specs.Front.{channel_count}
use Rattle.iiod_commands.proofs.BlockLaws.{closed, headed, room_stands}
use Rattle.iiod_commands.proofs.reading.read_into.Goals as goal

pub take_scans-took-requires-clause-room : goal.take_scans-took-requires-clause-room
take_scans-took-requires-clause-room g c =
    let short : c.args.want * c.args.size < 2 ^ 32 = omega (arith, c.requires.most, c.ranges.asked.fits) in
    let h = room_stands _ _ _ _ _ _ c.block_room.ensures.room c.block_room.ensures.fits short (omega (arith, c.requires.space)) in
    rw (sym c.requires.size) (omega (arith, h.few, c.requires.space, c.block_room.ensures.capacity))

pub block_head-requires-clause-fewer : goal.block_head-requires-clause-fewer
block_head-requires-clause-fewer g c =
    let first : c.len-first.result ≡ length c.block_room.new.out.items = search rules in
    let all : c.len.result ≡ length c.take_scans-took.new.out.items = search rules in
    let most : length c.take_scans-took.new.out.items ≤ length c.block_room.new.out.items + c.args.want * c.args.size =
    rw (c.requires.size) c.take_scans-took.ensures.most in
    omega (arith, first, all, most)

pub block_head-requires-clause-room : goal.block_head-requires-clause-room
block_head-requires-clause-room g c =
    let short : c.args.want * c.args.size < 2 ^ 32 = omega (arith, c.requires.most, c.ranges.asked.fits) in
    let h = room_stands _ _ _ _ _ _ c.block_room.ensures.room c.block_room.ensures.fits short (omega (arith, c.requires.space)) in
    let start : c.len-start.result ≡ length c.args.out.now.items = search rules in
    let read = c.in-Scan.ensures.takes in
    omega (
      arith,
      start,
      ap length h.stands
          ∙ length-append c.args.out.now.items h.room,
      h.size,
      ap length read.1,
      length-append c.block_room.new.out.items (joined_scans read.0),
    )

pub returns-in-Scan-clause-read : goal.returns-in-Scan-clause-read
returns-in-Scan-clause-read g c =
    let old = c.args.out.now.items in
    let channels = c.count-channels.result in
    let mask = c.args.mask.bits in
    let most = c.args.want * c.args.size in
    let short : most < 2 ^ 32 = omega (arith, c.requires.most, c.ranges.asked.fits) in
    let h = room_stands _ _ _ _ _ _ c.block_room.ensures.room c.block_room.ensures.fits short (omega (arith, c.requires.space)) in
    let start : c.len-start.result ≡ length old = search rules in
    let first : c.len-first.result ≡ length c.block_room.new.out.items = search rules in
    let read = c.in-Scan.ensures.takes in
    let scans = joined_scans read.0 in
    let all : c.len.result ≡ length c.take_scans-took.new.out.items = search rules in
    let came = c.len.result - c.len-first.result in
    let many : came ≡ length scans = omega (arith, all, first, ap length read.1, length-append c.block_room.new.out.items scans) in
    let within : length c.take_scans-took.new.out.items ≤ length c.block_room.new.out.items + most = rw (c.requires.size) c.take_scans-took.ensures.most in
    let few : came ≤ most = omega (arith, all, first, within) in
    let named =
    headed channels mask most came c.len-start.result old c.block_room.new.out.items scans c.take_scans-took.new.out.items c.block_head.new.out.items h start
    read.1 c.block_head.ensures.items in
    let kept : vec_capacity c.args.out.now ≤ vec_capacity c.block_head.new.out =
    omega (arith, c.block_room.ensures.capacity, c.take_scans-took.ensures.room, c.block_head.ensures.capacity) in
    let ended =
    closed channels mask came c.args.asked old scans c.block_head.new.out.items c.block_closing.new.out.items (vec_capacity c.block_head.new.out)
    c.block_closing.result
    many (omega (arith, few, short)) named (omega (arith, few, c.requires.space, kept)) c.block_closing.ensures.text c.block_closing.ensures.room in
    let width : channels ≡ channel_count (g.I.Iio.front (g.I.Iio.kept c.args.iio.now)) c.args.dev = search rules in
    rw (c.in-Scan.is) (read.0, ended ∙ ap (λ n. old ++ block_text n mask scans c.args.asked) width, read.2)
