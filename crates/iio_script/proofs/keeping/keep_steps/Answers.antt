use Rattle.std.proofs.Common.{refl, ◌∙◌, arith}
use Rattle.iio_io.proofs.Told.{silent_more}
use Rattle.iio_script.proofs.EndLaws.{silent_first}
use Rattle.iio_script.proofs.KeepLaws.{keeps_first}
use Rattle.iio_script.proofs.KeptLaws.{kept_cut, kept_done, kept_long, kept_refused, so_far_first, so_far_found, so_far_played, takes_so}
use Rattle.iio_script.proofs.keeping.keep_steps.Goals as goal

pub loop-room-init : goal.loop-room-init
loop-room-init g c = record {
  keeps =
      λ s stands finds. so_far_first _ s c.args.watched.now c.args.system.now c.new-text.result.items c.args.first c.args.lines.now
      (g.S.Source.left c.args.input.now) c.new-text.ensures.items
      (keeps_first _ c.solo_law.ensures.on s c.args.watched.now c.args.system.now c.args.first c.requires.unfed stands);
  hand = c.requires.hand;
  front = refl;
  begun = c.requires.begun;
  used = omega (arith, c.requires.unused);
  reads = refl;
  silent = silent_first _;
}

pub returns-in-Ok-Long-clause-keeps : goal.returns-in-Ok-Long-clause-keeps
returns-in-Ok-Long-clause-keeps g c = λ s input front more stands finds follows looked.
    let so =
    so_far_found _ s c.args.watched.now c.loop-room.system _ c.args.first c.loop-room.number c.args.lines.now c.loop-room.lines c.find.new.self
    (g.S.Source.left c.args.input.now) (g.S.Source.left c.loop-room.input) (g.S.Source.left c.find.new.source)
    c.find.ensures.follows (c.loop-room.invariant.keeps s stands finds) in (
      kept_long _ s c.args.watched.now c.loop-room.system _ c.args.first c.loop-room.number c.args.lines.now c.find.new.self
          (g.S.Source.left c.args.input.now) (g.S.Source.left c.find.new.source) front more input c.find.ensures.hand
          (rw c.in-Ok-Long.field-0-is at c.in-Ok-Long.ensures.found) follows looked so,
      takes_so _ s c.args.watched.now c.loop-room.system _ c.args.first c.loop-room.number c.args.lines.now c.find.new.self
          (g.S.Source.left c.args.input.now) (g.S.Source.left c.find.new.source) front input c.find.ensures.hand follows so,
    )

pub returns-in-Ok-End-clause-keeps : goal.returns-in-Ok-End-clause-keeps
returns-in-Ok-End-clause-keeps g c = λ s input front more stands finds follows looked.
    let so =
    so_far_found _ s c.args.watched.now c.loop-room.system _ c.args.first c.loop-room.number c.args.lines.now c.loop-room.lines c.find.new.self
    (g.S.Source.left c.args.input.now) (g.S.Source.left c.loop-room.input) (g.S.Source.left c.find.new.source)
    c.find.ensures.follows (c.loop-room.invariant.keeps s stands finds) in (
      rw c.end_of_lines.ensures
          (kept_done _ c.solo_law.ensures.on s c.args.watched.now c.loop-room.system _ c.args.first c.loop-room.number c.args.lines.now c.find.new.self
          (g.S.Source.left c.args.input.now) (g.S.Source.left c.find.new.source) front more input c.find.ensures.hand
          (rw c.in-Ok-End.field-0-is at c.in-Ok-End.ensures.found) follows looked so),
      takes_so _ s c.args.watched.now c.loop-room.system _ c.args.first c.loop-room.number c.args.lines.now c.find.new.self
          (g.S.Source.left c.args.input.now) (g.S.Source.left c.find.new.source) front input c.find.ensures.hand follows so,
    )

pub returns-in-Ok-Cut-clause-keeps : goal.returns-in-Ok-Cut-clause-keeps
returns-in-Ok-Cut-clause-keeps g c = λ s input front more stands finds follows looked.
    let so =
    so_far_found _ s c.args.watched.now c.loop-room.system _ c.args.first c.loop-room.number c.args.lines.now c.loop-room.lines c.find.new.self
    (g.S.Source.left c.args.input.now) (g.S.Source.left c.loop-room.input) (g.S.Source.left c.find.new.source)
    c.find.ensures.follows (c.loop-room.invariant.keeps s stands finds) in (
      kept_cut _ s c.args.watched.now c.loop-room.system _ c.args.first c.loop-room.number c.args.lines.now c.find.new.self
          (g.S.Source.left c.args.input.now) (g.S.Source.left c.find.new.source) front more input c.find.ensures.hand
          (rw c.in-Ok-Cut.field-0-is at c.in-Ok-Cut.ensures.found) follows looked so,
      takes_so _ s c.args.watched.now c.loop-room.system _ c.args.first c.loop-room.number c.args.lines.now c.find.new.self
          (g.S.Source.left c.args.input.now) (g.S.Source.left c.find.new.source) front input c.find.ensures.hand follows so,
    )

pub returns-in-Err-clause-keeps : goal.returns-in-Err-clause-keeps
returns-in-Err-clause-keeps g c = λ s input front more stands finds follows looked.
    let so =
    so_far_found _ s c.args.watched.now c.loop-room.system _ c.args.first c.loop-room.number c.args.lines.now c.loop-room.lines c.find.new.self
    (g.S.Source.left c.args.input.now) (g.S.Source.left c.loop-room.input) (g.S.Source.left c.find.new.source)
    c.find.ensures.follows (c.loop-room.invariant.keeps s stands finds) in (
      tt,
      takes_so _ s c.args.watched.now c.loop-room.system _ c.args.first c.loop-room.number c.args.lines.now c.find.new.self
          (g.S.Source.left c.args.input.now) (g.S.Source.left c.find.new.source) front input c.find.ensures.hand follows so,
    )

pub returns-in_default-clause-keeps : goal.returns-in_default-clause-keeps
returns-in_default-clause-keeps g c = λ s input front more stands finds follows looked.
    let so =
    so_far_found _ s c.args.watched.now c.loop-room.system _ c.args.first c.loop-room.number c.args.lines.now c.loop-room.lines c.find.new.self
    (g.S.Source.left c.args.input.now) (g.S.Source.left c.loop-room.input) (g.S.Source.left c.find.new.source)
    c.find.ensures.follows (c.loop-room.invariant.keeps s stands finds) in (
      tt,
      takes_so _ s c.args.watched.now c.loop-room.system _ c.args.first c.loop-room.number c.args.lines.now c.find.new.self
          (g.S.Source.left c.args.input.now) (g.S.Source.left c.find.new.source) front input c.find.ensures.hand follows so,
    )

pub returns-in-Some-clause-keeps : goal.returns-in-Some-clause-keeps
returns-in-Some-clause-keeps g c = λ s input front more stands finds follows looked.
    let so =
    so_far_found _ s c.args.watched.now c.loop-room.system _ c.args.first c.loop-room.number c.args.lines.now c.loop-room.lines c.find.new.self
    (g.S.Source.left c.args.input.now) (g.S.Source.left c.loop-room.input) (g.S.Source.left c.find.new.source)
    c.find.ensures.follows (c.loop-room.invariant.keeps s stands finds) in (
      kept_refused _ s c.args.watched.now c.loop-room.system _ c.line.result.now c.args.first c.loop-room.number c.args.lines.now c.find.new.self
          (g.S.Source.left c.args.input.now) (g.S.Source.left c.find.new.source) front more input c.in-Some.why c.find.ensures.hand
          (rw c.in-Ok-Line.field-0-is at c.in-Ok-Line.ensures.found) follows looked c.line.ensures so
          (rw c.in-Some.is at c.in-Ok.ensures.keeps s c.args.first so.given finds so.keeps),
      takes_so _ s c.args.watched.now c.loop-room.system _ c.args.first c.loop-room.number c.args.lines.now c.find.new.self
          (g.S.Source.left c.args.input.now) (g.S.Source.left c.find.new.source) front input c.find.ensures.hand follows so,
    )

pub loop-room-preserved : goal.loop-room-preserved
loop-room-preserved g c = record {
  keeps = λ s stands finds.
      let so =
      so_far_found _ s c.args.watched.now c.loop-room.system _ c.args.first c.loop-room.number c.args.lines.now c.loop-room.lines c.find.new.self
      (g.S.Source.left c.args.input.now) (g.S.Source.left c.loop-room.input) (g.S.Source.left c.find.new.source)
      c.find.ensures.follows (c.loop-room.invariant.keeps s stands finds) in
      so_far_played _ s c.args.watched.now c.loop-room.system c.keep_line.new.system _ _ c.line.result.now c.args.first c.loop-room.number c.args.lines.now
      c.find.new.self c.pass.new.self (g.S.Source.left c.args.input.now) (g.S.Source.left c.find.new.source)
      c.pass.ensures.follows c.line.ensures so (rw c.in_default-refused.is at c.in-Ok.ensures.keeps s c.args.first so.given finds so.keeps);
  hand = c.pass.ensures.hand;
  front = c.keep_line.ensures.front ∙ c.loop-room.invariant.front;
  begun = omega (arith, c.loop-room.invariant.begun, c.pass.ensures.further, c.find.ensures.given);
  used = omega (arith, c.in-Ok.ensures.used, c.loop-room.invariant.used);
  reads = c.in-Ok-Line.ensures.steady ∙ c.loop-room.invariant.reads;
  silent = silent_more _ _ _ c.loop-room.invariant.silent c.find.ensures.silent;
}
