use Rattle.std.proofs.Common.{[], ◌++◌, take, refl, sym, subst, ◌∙◌, None}
use Rattle.std.proofs.lemmas.Result.{err_from_is_err_and}
use Rattle.iiod_client.specs.Answer.{Asked}
use Rattle.iiod_client.specs.Awaited.{Scans, IsUnfinished}
use Rattle.iiod_client.specs.declared.answer.State.{State}
use Rattle.iiod_client.specs.Point.{point}
use Rattle.iiod_client.specs.Standing.{Reads}
use Rattle.iiod_client.proofs.Heard.{heard_none}
use Rattle.iiod_client.proofs.HearingLaws.{hears_end, new_stands, new_more, stands_partial, heard_fed}
use Rattle.iiod_client.proofs.hearing.hear_answer.Goals as goal

pub loop-answer-init : goal.loop-answer-init
loop-answer-init g c = record {
  asked = refl;
  more = new_more c.args.answer.now c.requires.new;
  heard = ([], new_stands c.args.answer.now c.requires.new c.requires.some, heard_none (g.L.Link.left c.args.link.now) c.args.incoming.now None None None None);
  written = refl;
  steady = refl;
}

pub returns-in_err-fill-clause-hears : goal.returns-in_err-fill-clause-hears
returns-in_err-fill-clause-hears g c =
    let p = err_from_is_err_and c.from_residual.result c.from_residual.ensures.1 in
    let old = c.loop-answer.invariant in
    let (text, stands, heard) = old.heard in
    let part : IsUnfinished (Scans c.loop-answer.answer.asked) text = (c.loop-answer.answer.body, stands_partial c.loop-answer.answer text old.more stands) in
    hears_end (Scans c.args.answer.now.asked) c.loop-answer.answer.body text c.from_residual.result p.0 c.in_err-fill.field-0.0
    (point (g.L.Link.left c.args.link.now) c.args.incoming.now None None)
    (point (g.L.Link.left c.loop-answer.link) c.loop-answer.incoming None None) (point (g.L.Link.left c.fill.new.link) c.fill.new.self None None)
    p.1 p.2 (subst (λ (q : Asked). IsUnfinished (Scans q) text) old.asked part) heard c.in_err-fill.ensures.heard c.in_err-fill.ensures.end

pub loop-answer-preserved : goal.loop-answer-preserved
loop-answer-preserved g c =
    let old = c.loop-answer.invariant in
    let (text, stands, heard) = old.heard in
    let n = c.feed-taken.result.0 in
    let fed =
    heard_fed (point (g.L.Link.left c.args.link.now) c.args.incoming.now None None) (g.L.Link.left c.loop-answer.link) (g.L.Link.left c.fill.new.link)
    c.loop-answer.incoming c.fill.new.self c.skip.new.self c.pending.result.now text n
    heard c.in_ok-fill.ensures.heard c.pending.ensures c.skip.ensures in
    record {
      asked = c.feed-taken.ensures.asked ∙ old.asked;
      more = sym c.feed-taken.ensures.state ∙ c.in-More.is;
      heard = (text ++ take n c.pending.result.now, c.feed-taken.ensures.stands text stands, fed);
      written = c.in_ok-fill.ensures.written ∙ old.written;
      steady = c.in_ok-fill.ensures.faults.0 ∙ old.steady;
    }

pub returns-in-Done-clause-hears : goal.returns-in-Done-clause-hears
returns-in-Done-clause-hears g c =
    let old = c.loop-answer.invariant in
    let (text, stands, heard) = old.heard in
    let n = c.feed-taken.result.0 in
    let fed =
    heard_fed (point (g.L.Link.left c.args.link.now) c.args.incoming.now None None) (g.L.Link.left c.loop-answer.link) (g.L.Link.left c.fill.new.link)
    c.loop-answer.incoming c.fill.new.self c.skip.new.self c.pending.result.now text n
    heard c.in_ok-fill.ensures.heard c.pending.ensures c.skip.ensures in
    let heard_all = text ++ take n c.pending.result.now in
    let reads = subst (λ (q : Asked). Reads q c.feed-taken.result.1 heard_all c.feed-taken.new.self.body) old.asked (c.feed-taken.ensures.reads text stands) in
    (heard_all, subst (λ (x : State). Reads c.args.answer.now.asked x heard_all c.feed-taken.new.self.body) c.in-Done.is reads, fed)

pub returns-in-Refused-clause-hears : goal.returns-in-Refused-clause-hears
returns-in-Refused-clause-hears g c =
    let old = c.loop-answer.invariant in
    let (text, stands, heard) = old.heard in
    let n = c.feed-taken.result.0 in
    let fed =
    heard_fed (point (g.L.Link.left c.args.link.now) c.args.incoming.now None None) (g.L.Link.left c.loop-answer.link) (g.L.Link.left c.fill.new.link)
    c.loop-answer.incoming c.fill.new.self c.skip.new.self c.pending.result.now text n
    heard c.in_ok-fill.ensures.heard c.pending.ensures c.skip.ensures in
    let heard_all = text ++ take n c.pending.result.now in
    let reads = subst (λ (q : Asked). Reads q c.feed-taken.result.1 heard_all c.feed-taken.new.self.body) old.asked (c.feed-taken.ensures.reads text stands) in
    (heard_all, subst (λ (x : State). Reads c.args.answer.now.asked x heard_all c.feed-taken.new.self.body) c.in-Refused.is reads, fed)

pub returns-in-Malformed-clause-hears : goal.returns-in-Malformed-clause-hears
returns-in-Malformed-clause-hears g c =
    let old = c.loop-answer.invariant in
    let (text, stands, heard) = old.heard in
    let n = c.feed-taken.result.0 in
    let fed =
    heard_fed (point (g.L.Link.left c.args.link.now) c.args.incoming.now None None) (g.L.Link.left c.loop-answer.link) (g.L.Link.left c.fill.new.link)
    c.loop-answer.incoming c.fill.new.self c.skip.new.self c.pending.result.now text n
    heard c.in_ok-fill.ensures.heard c.pending.ensures c.skip.ensures in
    let heard_all = text ++ take n c.pending.result.now in
    let reads = subst (λ (q : Asked). Reads q c.feed-taken.result.1 heard_all c.feed-taken.new.self.body) old.asked (c.feed-taken.ensures.reads text stands) in
    (heard_all, subst (λ (x : State). Reads c.args.answer.now.asked x heard_all c.feed-taken.new.self.body) c.in-Malformed.is reads, fed)
