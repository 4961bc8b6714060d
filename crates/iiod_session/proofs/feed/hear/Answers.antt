use Rattle.std.proofs.Common.{◌≡◌, ◌∙◌, [], ap, arith, sym}
use Rattle.std.proofs.lemmas.Bool.Decides.{nat_tests}
use Rattle.std.proofs.lemmas.List.{nil_from_length}
use Rattle.iiod_session.specs.Session.{stream_by, unread_of}
use Rattle.iiod_session.proofs.HearLaws.{first_feeds, kept_feeds}
use Rattle.iiod_session.proofs.feed.hear.Goals as goal

pub returns-then-is_empty-clause-hears : goal.returns-then-is_empty-clause-hears
returns-then-is_empty-clause-hears g c =
    let none : c.args.left.now.items ≡ [] =
    nil_from_length c.args.left.now.items (grind (arith, nat_tests, c.is_empty.ensures, c.if-is_empty.true, c.args.left.now.ok.0)) in
    first_feeds _ _ _ _ (stream_by c.args.was c.args.lines.now c.args.pending.now) _ _ c.args.bytes.now c.args.left.now.items c.keep_unread.new.left.items
    c.in_ok-taken.taken c.in_ok-taken.going c.carry_out.new.lines c.carry_out.new.pending
    none c.in_ok-keep_unread.ensures c.in_ok-taken.ensures.all c.in_ok-taken.ensures.hears

pub returns-clause-hears : goal.returns-clause-hears
returns-clause-hears g c =
    let whole = c.deref.ensures.value ∙ c.in_ok-extend_from_slice.ensures.items in
    let unread =
    c.in_ok-rest.ensures.items ∙ c.unread.ensures
    ∙ ap (λ bs. unread_of c.in_ok-taken-2.going c.in_ok-taken-2.taken bs) (c.deref-2.ensures.value ∙ sym c.deref.ensures.value) in
    kept_feeds _ _ _ _ (stream_by c.args.was c.args.lines.now c.args.pending.now) _ _ c.args.bytes.now c.args.left.now.items c.deref.result.now
    c.in_ok-rest.rest.items c.in_ok-taken-2.taken c.in_ok-taken-2.going c.carry_out-2.new.lines c.carry_out-2.new.pending
    c.cut_anywhere.ensures.items c.cut_anywhere.ensures.scanner whole unread c.in_ok-taken-2.ensures.all c.in_ok-taken-2.ensures.hears
