use Rattle.std.proofs.Common.{◌≡◌, refl, ap, Err, ◌∙◌, arith, rules}
use Rattle.iio_script.specs.declared.status.Status.TheVariants.{Memory}
use Rattle.iio_io.proofs.Told.{silent_more}
use Rattle.iio_script.proofs.EndLaws.{silent_first}
use Rattle.iio_script.proofs.PlayLaws.{plays_first}
use Rattle.iio_script.proofs.StepLaws.{ends_cut, ends_done, ends_fault, ends_long, ends_read_fault, ends_refused, ends_write_fault, so_far_first, so_far_next, so_far_played, stands_done}
use Rattle.iio_script.proofs.script.play_steps.Goals as goal

pub loop-room-init : goal.loop-room-init
loop-room-init g c =
    record {
      played =
          λ s stands finds. so_far_first _ c.requires.empty (plays_first _ s c.args.system.now c.args.first c.requires.unfed stands);
      hand = c.requires.hand;
      front = refl;
      begun = c.requires.begun;
      used = omega (arith, c.requires.unused);
      reads = refl;
      writes = refl;
      silent = (silent_first _, silent_first _);
    }

pub returns-in_err-next_line-clause-played : goal.returns-in_err-next_line-clause-played
returns-in_err-next_line-clause-played g c = λ s input front more stands finds follows at looked.
    let is : c.from_residual.result ≡ Err c.in_err-next_line.field-0.0 = search rules in
    ends_write_fault _ _ more _ is c.next_line.ensures.follows c.next_line.ensures.hand (ap g.S.Source.left c.in_err-next_line.ensures.unread) follows looked
    c.in_err-next_line.ensures.part (c.loop-room.invariant.played s stands finds)

pub returns-in_err-push_refused-in-Ok-Long-clause-played : goal.returns-in_err-push_refused-in-Ok-Long-clause-played
returns-in_err-push_refused-in-Ok-Long-clause-played g c = λ s input front more stands finds follows at looked.
    let is : c.from_residual-in_err-push_refused-in-Ok-Long.result ≡ Err Memory = search rules in
    ends_fault _ _ more Memory is c.next_line.ensures.hand follows looked
    (so_far_next _ c.next_line.ensures.follows c.next_line.ensures.hand c.in_ok-next_line.ensures.read c.in_ok-next_line.ensures.sends
    (c.loop-room.invariant.played s stands finds))

pub returns-in-Ok-Long-clause-played : goal.returns-in-Ok-Long-clause-played
returns-in-Ok-Long-clause-played g c = λ s input front more stands finds follows at looked.
    ends_long _ more c.next_line.ensures.hand (rw c.in-Ok-Long.field-0-is at (rw c.in-Ok-Long.is at c.in_ok-next_line.ensures.found)) follows at looked
    c.in_ok-push_refused-in-Ok-Long.ensures.ends
    (so_far_next _ c.next_line.ensures.follows c.next_line.ensures.hand c.in_ok-next_line.ensures.read c.in_ok-next_line.ensures.sends
    (c.loop-room.invariant.played s stands finds))

pub returns-in-Ok-End-clause-played : goal.returns-in-Ok-End-clause-played
returns-in-Ok-End-clause-played g c = λ s input front more stands finds follows at looked.
    ends_done _ more c.next_line.ensures.hand (rw c.in-Ok-End.field-0-is at (rw c.in-Ok-End.is at c.in_ok-next_line.ensures.found)) follows looked refl
    (so_far_next _ c.next_line.ensures.follows c.next_line.ensures.hand c.in_ok-next_line.ensures.read c.in_ok-next_line.ensures.sends
    (c.loop-room.invariant.played s stands finds))

pub returns-in-Ok-End-clause-stands : goal.returns-in-Ok-End-clause-stands
returns-in-Ok-End-clause-stands g c = λ is s input front more stands finds follows looked.
    stands_done _ front more input c.next_line.ensures.hand (rw c.in-Ok-End.field-0-is at (rw c.in-Ok-End.is at c.in_ok-next_line.ensures.found)) follows looked
    (so_far_next _ c.next_line.ensures.follows c.next_line.ensures.hand c.in_ok-next_line.ensures.read c.in_ok-next_line.ensures.sends
    (c.loop-room.invariant.played s stands finds))

pub returns-in_err-push_end-in-Ok-Cut-clause-played : goal.returns-in_err-push_end-in-Ok-Cut-clause-played
returns-in_err-push_end-in-Ok-Cut-clause-played g c = λ s input front more stands finds follows at looked.
    let is : c.from_residual-in_err-push_end-in-Ok-Cut.result ≡ Err Memory = search rules in
    ends_fault _ _ more Memory is c.next_line.ensures.hand follows looked
    (so_far_next _ c.next_line.ensures.follows c.next_line.ensures.hand c.in_ok-next_line.ensures.read c.in_ok-next_line.ensures.sends
    (c.loop-room.invariant.played s stands finds))

pub returns-in-Ok-Cut-clause-played : goal.returns-in-Ok-Cut-clause-played
returns-in-Ok-Cut-clause-played g c = λ s input front more stands finds follows at looked.
    ends_cut _ more c.next_line.ensures.hand (rw c.in-Ok-Cut.field-0-is at (rw c.in-Ok-Cut.is at c.in_ok-next_line.ensures.found)) follows looked
    c.in_ok-push_end-in-Ok-Cut.ensures.ends
    (so_far_next _ c.next_line.ensures.follows c.next_line.ensures.hand c.in_ok-next_line.ensures.read c.in_ok-next_line.ensures.sends
    (c.loop-room.invariant.played s stands finds))

pub returns-in-Err-Failed-clause-played : goal.returns-in-Err-Failed-clause-played
returns-in-Err-Failed-clause-played g c = λ s input front more stands finds follows at looked.
    ends_read_fault _ more c.next_line.ensures.hand (rw c.in-Err-Failed.is at c.in_ok-next_line.ensures.more) follows looked
    (so_far_next _ c.next_line.ensures.follows c.next_line.ensures.hand c.in_ok-next_line.ensures.read c.in_ok-next_line.ensures.sends
    (c.loop-room.invariant.played s stands finds))

pub returns-in-Err-Mem-clause-played : goal.returns-in-Err-Mem-clause-played
returns-in-Err-Mem-clause-played g c = λ s input front more stands finds follows at looked.
    ends_fault _ c.next_line.new.out.items more Memory refl c.next_line.ensures.hand follows looked
    (so_far_next _ c.next_line.ensures.follows c.next_line.ensures.hand c.in_ok-next_line.ensures.read c.in_ok-next_line.ensures.sends
    (c.loop-room.invariant.played s stands finds))

pub returns-in_err-status-clause-played : goal.returns-in_err-status-clause-played
returns-in_err-status-clause-played g c = λ s input front more stands finds follows at looked.
    let is : c.from_residual-in_err-status.result ≡ Err Memory = search rules in
    ends_fault _ _ more Memory is c.next_line.ensures.hand follows looked
    (so_far_next _ c.next_line.ensures.follows c.next_line.ensures.hand c.in_ok-next_line.ensures.read c.in_ok-next_line.ensures.sends
    (c.loop-room.invariant.played s stands finds))

pub returns-in-Some-clause-played : goal.returns-in-Some-clause-played
returns-in-Some-clause-played g c = λ s input front more stands finds follows at looked.
    let so =
    so_far_next _ c.next_line.ensures.follows c.next_line.ensures.hand c.in_ok-next_line.ensures.read c.in_ok-next_line.ensures.sends
    (c.loop-room.invariant.played s stands finds) in
    ends_refused _ _ more c.next_line.ensures.hand (rw c.in-Ok-Line.field-0-is at (rw c.in-Ok-Line.is at c.in_ok-next_line.ensures.found)) follows at looked c.line.ensures
    (rw c.in-Some.is at c.in_ok-status.ensures.refused) so
    (rw c.in-Some.is at c.in_ok-status.ensures.played s so.sent c.args.first so.given finds so.plays)

pub loop-room-preserved : goal.loop-room-preserved
loop-room-preserved g c =
    record {
      played = λ s stands finds.
          let so =
          so_far_next _ c.next_line.ensures.follows c.next_line.ensures.hand c.in_ok-next_line.ensures.read c.in_ok-next_line.ensures.sends
          (c.loop-room.invariant.played s stands finds) in
          so_far_played _ c.pass.ensures.follows c.line.ensures so
          (rw c.in_default.is at c.in_ok-status.ensures.played s so.sent c.args.first so.given finds so.plays);
      hand = c.pass.ensures.hand;
      front = c.play_line.ensures.front ∙ c.loop-room.invariant.front;
      begun = omega (arith, c.loop-room.invariant.begun, c.pass.ensures.further, c.next_line.ensures.given);
      used = omega (arith, c.in_ok-status.ensures.used, c.loop-room.invariant.used);
      reads = (rw c.in-Ok-Line.is at c.in_ok-next_line.ensures.reads) ∙ c.loop-room.invariant.reads;
      writes = c.in_ok-next_line.ensures.writes ∙ c.loop-room.invariant.writes;
      silent = (
        silent_more _ _ _ c.loop-room.invariant.silent.0 c.next_line.ensures.silent.0,
        silent_more _ _ _ c.loop-room.invariant.silent.1 c.next_line.ensures.silent.1,
      );
    }
