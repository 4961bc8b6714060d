use Rattle.std.proofs.Common.{◌≡◌, ◌∙◌, [], ap, arith, sym, Some}
use Rattle.std.proofs.lemmas.Grind.{common_steps}
use Rattle.iio_text.specs.declared.errors.Errno.TheVariants.{E2BIG}
use Rattle.iiod_session.specs.PendingWrite.{pending_of}
use Rattle.iiod_session.specs.Session.{piece_by}
use Rattle.iiod_session.proofs.HearLaws.{blank_line, ended_line, written_feeds}
use Rattle.iiod_session.proofs.feed.hear_piece.Goals as goal

pub returns-then-is_empty-clause-hears : goal.returns-then-is_empty-clause-hears
returns-then-is_empty-clause-hears g c =
    let none : c.piece.result.now ≡ [] = grind (arith, common_steps) in
    rw c.in-Line.is (c.hear_refused.ensures.hears c.args.lines.now c.args.pending.now (rw c.in-Line.is at c.requires.whole)
    (blank_line _ (sym c.piece.ensures ∙ none)))

pub returns-then-is_empty-clause-ready : goal.returns-then-is_empty-clause-ready
returns-then-is_empty-clause-ready g c = c.hear_refused.ensures.ready c.args.lines.now c.args.pending.now (rw c.in-Line.is at c.requires.whole)

pub returns-in_ok-hear_payload-in-Payload-clause-hears :
    goal.returns-in_ok-hear_payload-in-Payload-clause-hears
returns-in_ok-hear_payload-in-Payload-clause-hears g c =
    rw c.in-Payload.is
    (written_feeds _ _ _ _ _ _ c.args.lines.now c.args.pending.now (pending_of c.args.pending.now) c.args.lines.now.piece
    _ _ c.in_ok-hear_payload-in-Payload.field-0 (rw c.in-Payload.is at c.requires.whole)
    (rw c.piece-in-Payload.ensures at c.in_ok-hear_payload-in-Payload.ensures.told)
    (rw c.piece-in-Payload.ensures at c.in_ok-hear_payload-in-Payload.ensures.served))

pub returns-in-TooLong-clause-hears : goal.returns-in-TooLong-clause-hears
returns-in-TooLong-clause-hears g c =
    ended_line _ _ _ _ _ _ _ (Some E2BIG) _ _ _ c.args.lines.now c.args.pending.now _ (ap (λ r. piece_by r c.args.lines.now c.args.pending.now) c.in-TooLong.is)
    c.end.ensures.ended (c.end.ensures.hears c.args.manner)
