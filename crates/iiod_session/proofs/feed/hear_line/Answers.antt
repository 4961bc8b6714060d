use Rattle.std.proofs.Common.{refl, sym, ap, ◌∙◌, option_map, Ok, Some, None}
use Rattle.iio_text.specs.declared.errors.Errno.TheVariants.{EFBIG}
use Rattle.iiod_grammar.specs.Command.{command_of}
use Rattle.iiod_grammar.specs.Lines.{LinesRecord}
use Rattle.iiod_grammar.specs.Stream.{OfWrite, OfWriteBuf, after_said}
use Rattle.iiod_session.specs.PendingWrite.{pending_of}
use Rattle.iiod_grammar.specs.View.{line_view, target_view}
use Rattle.iiod_session.proofs.HearLaws.{ended_line, at_once_command, exit_line, overlong_line, payload_feeds}
use Rattle.iiod_session.proofs.feed.hear_line.Goals as goal

pub returns-in-Err-clause-hears : goal.returns-in-Err-clause-hears
returns-in-Err-clause-hears g c =
    c.hear_refused.ensures.hears c.args.lines.now c.args.pending.now c.requires.piece
    (ap command_of (sym c.piece.ensures) ∙ sym c.read_line.ensures ∙ ap line_view c.in-Err.is)

pub returns-in-Exit-clause-hears : goal.returns-in-Exit-clause-hears
returns-in-Exit-clause-hears g c =
    ended_line _ _ _ _ _ _ _ None _ _ _ c.args.lines.now c.args.pending.now _
    (exit_line c.args.lines.now.piece
    (ap command_of (sym c.piece.ensures) ∙ sym c.read_line.ensures ∙ ap line_view c.in-Ok.is ∙ ap (λ x. line_view (Ok x)) c.in-Exit.is))
    c.end.ensures.ended (c.end.ensures.hears c.args.manner)

pub returns-then-count-gt-MAX_PAYLOAD-clause-hears :
    goal.returns-then-count-gt-MAX_PAYLOAD-clause-hears
returns-then-count-gt-MAX_PAYLOAD-clause-hears g c =
    ended_line _ _ _ _ _ _ _ (Some EFBIG) _ _ _ c.args.lines.now c.args.pending.now _
    (overlong_line c.args.lines.now.piece (OfWrite c.in-Write.dev.now (option_map target_view c.in-Write.target)) c.in-Write.count
    (ap after_said (ap command_of (sym c.piece.ensures) ∙ sym c.read_line.ensures ∙ ap line_view c.in-Ok.is ∙ ap (λ x. line_view (Ok x)) c.in-Write.is))
    c.if-count-gt-MAX_PAYLOAD.true)
    c.end-then-count-gt-MAX_PAYLOAD.ensures.ended (c.end-then-count-gt-MAX_PAYLOAD.ensures.hears c.args.manner)

pub returns-in_ok-keep-in-Write-clause-hears : goal.returns-in_ok-keep-in-Write-clause-hears
returns-in_ok-keep-in-Write-clause-hears g c =
    payload_feeds _ _ _ _ c.args.lines.now.piece (OfWrite c.in-Write.dev.now (option_map target_view c.in-Write.target)) c.in-Write.count _ c.want.new.self
    c.keep.new.self
    (ap after_said (ap command_of (sym c.piece.ensures) ∙ sym c.read_line.ensures ∙ ap line_view c.in-Ok.is ∙ ap (λ x. line_view (Ok x)) c.in-Write.is))
    c.if-count-gt-MAX_PAYLOAD.false
    (c.want.ensures ∙ ap (λ (x : LinesRecord). record x { wanted = Some c.in-Write.count }) c.requires.piece)
    (ap pending_of c.in_ok-keep-in-Write.ensures)

pub returns-then-bytes-gt-MAX_PAYLOAD-clause-hears :
    goal.returns-then-bytes-gt-MAX_PAYLOAD-clause-hears
returns-then-bytes-gt-MAX_PAYLOAD-clause-hears g c =
    ended_line _ _ _ _ _ _ _ (Some EFBIG) _ _ _ c.args.lines.now c.args.pending.now _
    (overlong_line c.args.lines.now.piece (OfWriteBuf c.in-WriteBuf.dev.now) c.in-WriteBuf.bytes
    (ap after_said (ap command_of (sym c.piece.ensures) ∙ sym c.read_line.ensures ∙ ap line_view c.in-Ok.is ∙ ap (λ x. line_view (Ok x)) c.in-WriteBuf.is))
    c.if-bytes-gt-MAX_PAYLOAD.true)
    c.end-then-bytes-gt-MAX_PAYLOAD.ensures.ended (c.end-then-bytes-gt-MAX_PAYLOAD.ensures.hears c.args.manner)

pub returns-in_ok-keep_scans-in-WriteBuf-clause-hears : goal.returns-in_ok-keep_scans-in-WriteBuf-clause-hears
returns-in_ok-keep_scans-in-WriteBuf-clause-hears g c =
    let kept = c.in_ok-keep_scans-in-WriteBuf.ensures in
    payload_feeds _ _ _ _ c.args.lines.now.piece (OfWriteBuf c.in-WriteBuf.dev.now) c.in-WriteBuf.bytes _ c.want-in-WriteBuf.new.self c.keep_scans.new.self
    (ap after_said (ap command_of (sym c.piece.ensures) ∙ sym c.read_line.ensures ∙ ap line_view c.in-Ok.is ∙ ap (λ x. line_view (Ok x)) c.in-WriteBuf.is))
    c.if-bytes-gt-MAX_PAYLOAD.false
    (c.want-in-WriteBuf.ensures ∙ ap (λ (x : LinesRecord). record x { wanted = Some c.in-WriteBuf.bytes }) c.requires.piece)
    (rw (kept.1, kept.0) refl)

pub returns-in_default-clause-hears : goal.returns-in_default-clause-hears
returns-in_default-clause-hears g c =
    c.hear_said.ensures.hears c.args.lines.now c.args.pending.now c.requires.piece
    (ap command_of (sym c.piece.ensures) ∙ sym c.read_line.ensures ∙ ap line_view c.in-Ok.is)

pub hear_said-requires-clause-at_once : goal.hear_said-requires-clause-at_once
hear_said-requires-clause-at_once g c =
    at_once_command c.in-Ok.command c.in_default.not-Exit c.in_default.not-Write c.in_default.not-WriteBuf c.in_default.not-ReadBuf

pub returns-in-ReadBuf-clause-hears : goal.returns-in-ReadBuf-clause-hears
returns-in-ReadBuf-clause-hears g c =
    c.hear_read.ensures.hears c.args.lines.now c.requires.piece
    (ap command_of (sym c.piece.ensures) ∙ sym c.read_line.ensures ∙ ap line_view c.in-Ok.is ∙ ap (λ x. line_view (Ok x)) c.in-ReadBuf.is)

pub returns-in-ReadBuf-clause-ready : goal.returns-in-ReadBuf-clause-ready
returns-in-ReadBuf-clause-ready g c =
    c.hear_read.ensures.ready c.args.lines.now c.requires.piece
    (ap command_of (sym c.piece.ensures) ∙ sym c.read_line.ensures ∙ ap line_view c.in-Ok.is ∙ ap (λ x. line_view (Ok x)) c.in-ReadBuf.is)

pub returns-in-Err-clause-ready : goal.returns-in-Err-clause-ready
returns-in-Err-clause-ready g c = c.hear_refused.ensures.ready c.args.lines.now c.args.pending.now c.requires.piece

pub returns-in_default-clause-ready : goal.returns-in_default-clause-ready
returns-in_default-clause-ready g c =
    c.hear_said.ensures.ready c.args.lines.now c.args.pending.now c.requires.piece
