use Rattle.std.proofs.Common.{◌∙◌, sym, [], None}
use Rattle.std.proofs.lemmas.Result.{err_from_is_err_and}
use Rattle.iiod_client.specs.Awaited.{Plain}
use Rattle.iiod_client.specs.Point.{point}
use Rattle.iiod_client.proofs.HearingLaws.{hears_end, plain_says, plain_long}
use Rattle.iiod_client.proofs.Stands.{on_err}
use Rattle.iiod_client.proofs.hearing.hear_plain.Goals as goal

pub returns-in_err-byte-clause-hears : goal.returns-in_err-byte-clause-hears
returns-in_err-byte-clause-hears g c =
    let p = err_from_is_err_and c.from_residual.result c.from_residual.ensures.1 in
    let old = c.loop-byte.invariant in
    hears_end Plain [] c.loop-byte.line.items c.from_residual.result p.0 c.in_err-byte.field-0.0
    (point (g.L.Link.left c.args.link.now) c.args.incoming.now None None)
    (point (g.L.Link.left c.loop-byte.link) c.loop-byte.incoming None None) (point (g.L.Link.left c.next_byte.new.link) c.next_byte.new.self None None)
    p.1 p.2 (record { few = old.few; no_lf = old.no_lf }) old.heard c.in_err-byte.ensures.none c.in_err-byte.ensures.end

pub returns-then-byte-eq10-clause-hears : goal.returns-then-byte-eq10-clause-hears
returns-then-byte-eq10-clause-hears g c =
    let old = c.loop-byte.invariant in
    plain_says c.loop-byte.line.items c.as_slice.result.now c.in_ok-byte.byte c.plain_end.result
    (point (g.L.Link.left c.args.link.now) c.args.incoming.now None None)
    (point (g.L.Link.left c.loop-byte.link) c.loop-byte.incoming None None) (point (g.L.Link.left c.next_byte.new.link) c.next_byte.new.self None None)
    c.plain_end.ensures c.as_slice.ensures.value old.no_lf old.few old.heard c.in_ok-byte.ensures.heard c.if-byte-eq10.true

pub returns-then-is_err-clause-hears : goal.returns-then-is_err-clause-hears
returns-then-is_err-clause-hears g c =
    let old = c.loop-byte.invariant in
    plain_long c.loop-byte.line.items c.in_ok-byte.byte (point (g.L.Link.left c.args.link.now) c.args.incoming.now None None)
    (point (g.L.Link.left c.loop-byte.link) c.loop-byte.incoming None None) (point (g.L.Link.left c.next_byte.new.link) c.next_byte.new.self None None)
    old.no_lf (on_err c.try_push.result _ (sym c.is_err.ensures.value ∙ c.if-is_err.true) c.try_push.ensures.full) old.heard c.in_ok-byte.ensures.heard
    c.if-byte-eq10.false
